use Rattle.std.proofs.{Common.{◌≢◌, All, subst}, lemmas.List.{take_all, Elements.{All-nil, All-more}}}
use Rattle.stn_line.{specs.Explanations.Subjects.subject_word, proofs.explanations.Entries.unnamed}
use Rattle.stn_line.proofs.explanations.printing.entry_of.Goals as goal

pub loop-entry-init : goal.loop-entry-init
loop-entry-init c = All-nil (λ entry. c.args.word.now ≢ subject_word entry.subject)

pub returns-then-has_name : goal.returns-then-has_name
returns-then-has_name c = (c.requires c.loop-entry.entry-index _ c.loop-entry-test.true, c.has_name.ensures.0 c.if-has_name.true)

pub loop-entry-preserved : goal.loop-entry-preserved
loop-entry-preserved c =
    All-more (λ entry. c.args.word.now ≢ subject_word entry.subject) c.args.entries.now c.loop-entry.entry-index _ c.loop-entry-test.true c.loop-entry.invariant
    (λ is. unnamed c.has_name.result c.if-has_name.false (c.has_name.ensures.1 is))

pub returns : goal.returns
returns c =
    subst (All (λ entry. c.args.word.now ≢ subject_word entry.subject)) (take_all c.loop-entry.entry-index c.args.entries.now c.loop-entry-test.false) c.loop-entry.invariant
