use Rattle.std.proofs.{Common.{append_assoc, rules, ◌≡◌, ◌<◌, ◌++◌, ◌∷◌, map, length, get_or, sym, subst, [], arith}, lemmas.{Result.err_from_is_err_and, List.{map-append, take_more, get_or-map, length-map}, Grind.common_steps}}
use Rattle.stn_pddl.specs.{Sound.IsSoundAtom, Views.{atom_schema, atoms_schema}}
use Rattle.stn_lift.{specs.{Plan.Views.word_of, Numbering.AreNumbersOf}, proofs.NumberLists.{kept_along, numbers_kept, numbers_push, all_said}}
use Rattle.stn_lift.proofs.atoms.Atoms.append_numbers.Goals as goal

pub number_atom-requires : goal.number_atom-requires
number_atom-requires g c =
    subst (λ atom. IsSoundAtom (length c.args.args.now) (atom_schema atom)) (sym c.atom-item.is)
    (all_said (IsSoundAtom (length c.args.args.now)) atom_schema c.args.atoms.now c.atom-item.result c.requires c.loop-atom-test.true)

pub loop-atom-preserved : goal.loop-atom-preserved
loop-atom-preserved g c =
    let args = map word_of c.args.args.now in
    let atoms = atoms_schema c.args.atoms.now in
    let place = c.loop-atom.atom-index in
    let atom = atom_schema c.atom-item.result in
    let old = c.loop-atom.self in
    let new = c.number_atom.new.self in
    let items = c.loop-atom.numbers.items in
    let mapped : place < length atoms = rw length-map c.loop-atom-test.true in
    let here : atom ≡ get_or atoms place atom = search (rules, get_or-map) in
    record {
      kept = kept_along c.loop-atom.invariant.kept c.in_ok-number.ensures.kept;
      numbers = λ before are. rw c.in_ok-push.ensures.items
          (subst (AreNumbersOf new (items ++ c.in_ok-number.number ∷ [])) (search (rules, common_steps, take_more, map-append, append_assoc))
          (numbers_push new
          (numbers_kept old new c.in_ok-number.ensures.kept (c.loop-atom.invariant.numbers before are)) c.in_ok-number.ensures.number));
    }

pub returns-clause-numbers : goal.returns-clause-numbers
returns-clause-numbers g c = grind (arith, common_steps)

pub returns-in_err-number : goal.returns-in_err-number
returns-in_err-number g c = let p = err_from_is_err_and c.from_residual.result c.from_residual.ensures.1 in rw (p.1) (record { numbers = tt; kept = tt })

pub returns-in_err-push : goal.returns-in_err-push
returns-in_err-push g c = let p = err_from_is_err_and c.from_residual-in_err-push.result c.from_residual-in_err-push.ensures.1 in rw (p.1) (record { numbers = tt; kept = tt })
