use Rattle.std.proofs.{Common.{◌≡◌, List, [], ◌∷◌, ◌++◌, ap, ◌∙◌, append_assoc, arith, rules}, lemmas.{Bool.false≢true, List.Elements.All-push}}
use Rattle.stn_net.{specs.{Difference.{Difference, NamesEvents}, Windows.{Dispatch.IsLeft, Leading.floor_at}}, proofs.Floors.{floor_pushed, floor_kept}}
use Rattle.stn_conflict.proofs.times.append_floors.Goals.{then-is_left+in_ok-push, else-is_left}
use Rattle.stn_conflict.proofs.times.append_floors.Goals as goal

pub loop-number-preserved : goal.loop-number-preserved
loop-number-preserved g c =
    let done = c.args.done.now in
    let now = c.args.now in
    let number = c.loop-number.number in
    let event = c.unwrap-event.result in
    let (floors, so_far, are, named) = c.loop-number.invariant in
    let is : event ≡ number = search rules in
    elim c.if-is_left.branch [
      | then-is_left+in_ok-push w ↦
          let floor : w.unwrap.result ≡ floor_at now number = search rules in
          let new : c.if-is_left.out.items ≡ c.args.out.now.items ++ (floors ++ floor_at now number ∷ []) =
          ap (λ v. v.items) w.out-is ∙ w.in_ok-push.ensures.items ∙ ap (λ (f : Difference). c.loop-number.out.items ++ f ∷ []) floor
          ∙ ap (λ (xs : List Difference). xs ++ floor_at now number ∷ []) so_far ∙ append_assoc c.args.out.now.items floors (floor_at now number ∷ []) in (
            floors ++ floor_at now number ∷ [],
            new,
            floor_pushed done now number floors (rw is at (c.is_left.ensures.0 w.if-is_left.true)) are,
            All-push (NamesEvents c.args.events) floors (floor_at now number) named (record { from = omega arith; to = omega arith }),
          )
      | else-is_left w ↦
          let not_left : ¬ IsLeft done number = λ left. let yes = c.is_left.ensures.1 (rw is left) in let not = w.if-is_left.false in false≢true (cc) in
          (floors, ap (λ v. v.items) w.out-is ∙ so_far, floor_kept done now number floors not_left are, named)
    ]
