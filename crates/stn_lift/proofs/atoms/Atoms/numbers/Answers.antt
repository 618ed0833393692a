use Rattle.std.proofs.{Common.{rules, map, sym, subst, []}, lemmas.List.map-append}
use Rattle.stn_pddl.specs.Views.{atoms_schema}
use Rattle.stn_lift.{specs.{Plan.Views.word_of, Footprints.ground, Numbering.AreNumbersOf}, proofs.NumberLists.{kept_along, numbers_none, numbers_moved}}
use Rattle.stn_lift.proofs.atoms.Atoms.numbers.Goals as goal

pub returns-clause-numbers : goal.returns-clause-numbers
returns-clause-numbers g c =
    let args = map word_of c.args.args.now in
    let none = subst (λ ns. AreNumbersOf c.args.self.now ns []) (sym c.new-numbers.ensures.items) (numbers_none c.args.self.now) in
    let first = c.in_ok-append_numbers.ensures.numbers [] none in
    let all = c.in_ok-append_numbers-2.ensures.numbers (map (ground args) (atoms_schema c.args.atoms.now)) first in
    search (rules, map-append, numbers_moved)

pub returns-clause-kept : goal.returns-clause-kept
returns-clause-kept g c = search (rules, kept_along)
