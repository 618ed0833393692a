use Rattle.std.proofs.{Common.{◌<◌, ◌≤◌, map, length, sym}, lemmas.List.{take_all, get_or-map, length-map}}
use Rattle.stn_pddl.specs.{Tree.Names.folded, Sound.IsSoundTerm, Views.{term_schema, terms_schema}}
use Rattle.stn_lift.{specs.Plan.Views.word_of, proofs.NumberLists.{kept_along, names_kept, spelled_more, all_said}}
use Rattle.stn_lift.proofs.atoms.Atoms.number_atom.Goals as goal

pub name_of-requires : goal.name_of-requires
name_of-requires g c =
    let items = c.args.atom.now.terms.items in
    let within : c.loop-term.term-index < length items = rw c.deref-term-items.ensures.value at c.loop-term-test.true in
    rw c.deref-term-items.ensures.value (all_said (IsSoundTerm (length c.args.args.now)) term_schema items _ c.requires within)

pub loop-term-preserved : goal.loop-term-preserved
loop-term-preserved g c =
    let items = c.args.atom.now.terms.items in
    let args = map word_of c.args.args.now in
    let place = c.loop-term.term-index in
    let within : place < length items = rw c.deref-term-items.ensures.value at c.loop-term-test.true in
    let mapped : place < length (terms_schema items) = rw length-map within in
    let named = rw c.deref-term-items.ensures.value at c.name_of.ensures in
    let one = rw named at c.in_ok-number.ensures.number in
    record {
      kept = kept_along c.loop-term.invariant.kept c.in_ok-number.ensures.kept;
      names = rw c.in_ok-push-2.ensures.items
          (spelled_more args c.number_name-in-loop-term.new.self.names c.loop-term.spelling.items (folded c.args.atom.now.predicate.bytes.now) (terms_schema items) c.in_ok-number.number mapped (sym (get_or-map term_schema items place _ _ within))
          (names_kept c.loop-term.self c.number_name-in-loop-term.new.self c.in_ok-number.ensures.kept c.loop-term.spelling.items _ c.loop-term.invariant.names) one);
    }

pub returns : goal.returns
returns g c =
    let items = c.args.atom.now.terms.items in
    let past : length items ≤ c.loop-term.term-index = rw c.deref-term-items.ensures.value at c.loop-term-test.false in
    let whole : length (terms_schema items) ≤ c.loop-term.term-index = rw length-map past in
    let names = rw (take_all c.loop-term.term-index (terms_schema items) whole) at c.loop-term.invariant.names in
    record {
      number = record {
        spelling = c.loop-term.spelling.items;
        stored = c.in_ok-number-2.ensures.number;
        names = names_kept c.loop-term.self c.number_spelling.new.self c.in_ok-number-2.ensures.kept c.loop-term.spelling.items _ names;
      };
      kept = kept_along c.loop-term.invariant.kept c.in_ok-number-2.ensures.kept;
    }
