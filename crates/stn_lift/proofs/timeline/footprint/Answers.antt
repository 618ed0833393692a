use Rattle.std.proofs.{Common.{map, subst}, lemmas.List.append-nil}
use Rattle.stn_pddl.specs.Views.{atoms_schema}
use Rattle.stn_lift.{specs.{Plan.Views.word_of, Footprints.ground, Numbering.AreNumbersOf}, proofs.NumberLists.{kept_along, numbers_kept}}
use Rattle.stn_lift.proofs.timeline.footprint.Goals as goal

pub returns : goal.returns
returns g c =
    let args = map word_of c.args.args.now in
    let first = c.numbers.new.self in
    let second = c.numbers-2.new.self in
    let third = c.numbers-3.new.self in
    let adds = subst (λ atoms. AreNumbersOf second c.in_ok-adds.adds (map (ground args) atoms)) (append-nil (atoms_schema c.args.adds.now)) c.in_ok-adds.ensures.numbers in
    record {
      numbered = record {
        needs = numbers_kept second third c.in_ok-deletes.ensures.kept (numbers_kept first second c.in_ok-adds.ensures.kept c.in_ok-needs.ensures.numbers);
        adds = numbers_kept second third c.in_ok-deletes.ensures.kept adds;
        deletes = subst (λ atoms. AreNumbersOf third c.in_ok-deletes.deletes (map (ground args) atoms)) (append-nil (atoms_schema c.args.deletes.now)) c.in_ok-deletes.ensures.numbers;
      };
      kept = kept_along c.in_ok-needs.ensures.kept (kept_along c.in_ok-adds.ensures.kept c.in_ok-deletes.ensures.kept);
      unambiguous = c.in_ok-deletes.ensures.unambiguous;
    }
