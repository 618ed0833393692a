use Rattle.std.proofs.Common.{◌≢◌, ◌∙◌, true≢false, map, ap, sym, subst, IsSomeAnd, inl, inr}
use Rattle.clap.specs.{Kinds.HasKind, declared.error.kind.ErrorKind.TheVariants.OutOfMemory, Words.{fault_of, kind_of, is_simple, is_simple_and_free, subcommand_of}}
use Rattle.stn_line.{specs.{Given.IsEntered, Lines.IsLineOf}, proofs.OfStn.{stn_free, stn_given, stn_simple}}
use Rattle.stn_line.proofs.reading.line.Goals as goal

pub read-requires : goal.read-requires
read-requires c =
    let words = map (λ word. word.now) c.args.words.now in
    let app = c.in_ok-stn.ensures.app in
    let rows = (c.in-Ok.ensures.matches (ap is_simple app ∙ stn_simple)).1 ∙ ap (λ a. subcommand_of a words) app in
    let none = ap (λ a. fault_of a words) (sym app) ∙ c.in-Ok.ensures.kinds (ap is_simple_and_free app ∙ stn_free) in
    subst (λ o. IsSomeAnd o (λ command. IsEntered command.0 command.1)) (sym rows) (stn_given words none)

pub returns-in_ok-read-in-Ok-clause-found : goal.returns-in_ok-read-in-Ok-clause-found
returns-in_ok-read-in-Ok-clause-found c =
    let words = map (λ word. word.now) c.args.words.now in
    let app = c.in_ok-stn.ensures.app in
    let rows = (c.in-Ok.ensures.matches (ap is_simple app ∙ stn_simple)).1 ∙ ap (λ a. subcommand_of a words) app in
    subst (λ o. IsSomeAnd o (λ command. IsLineOf c.in_ok-read-in-Ok.field-0 command.0 command.1)) rows c.in_ok-read-in-Ok.ensures

pub returns-in_ok-read-in-Ok-clause-taken : goal.returns-in_ok-read-in-Ok-clause-taken
returns-in_ok-read-in-Ok-clause-taken c =
    let words = map (λ word. word.now) c.args.words.now in
    let app = c.in_ok-stn.ensures.app in
    ap (λ a. fault_of a words) (sym app) ∙ c.in-Ok.ensures.kinds (ap is_simple_and_free app ∙ stn_free)

pub returns-in-Err-2-clause-refused : goal.returns-in-Err-2-clause-refused
returns-in-Err-2-clause-refused c =
    let words = map (λ word. word.now) c.args.words.now in
    let app = c.in_ok-stn.ensures.app in
    let kinds = subst (λ a. HasKind (fault_of a words) c.in-Err.error) app (c.in-Err.ensures.kinds (ap is_simple_and_free app ∙ stn_free)) in
    let other : kind_of c.in-Err.error ≢ OutOfMemory = λ memory. let same = rw (c.kind.ensures, memory) at c.eq.ensures in true≢false (sym same ∙ c.if-eq.false) in
    (other, elim kinds [ inl memory ↦ absurd (other memory) | inr among ↦ among ])
