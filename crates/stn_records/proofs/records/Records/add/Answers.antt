use Rattle.std.proofs.{Common.{◌≡◌, Some, None, is_some, sym, ap, subst, ◌∙◌, OnOk}, lemmas.Bool.false≢true}
use Rattle.std.specs.FinMap as fin
use Rattle.stn_records.{specs.{declared.record.Record.Record, Content.{Content, IsSound, join_contents, one_record, with_record}, ContentLaws.records_decide}, proofs.{OneItem.{record_again, record_joins}, Outcomes.{record_sound, known_by_replaced, no_room_needed, room_left}, records.Records.add.Goals.{then-is_same, else-is_same, else-not-is_replaced-via-then-not-is_replaced+else-is_full, else-not-is_replaced-via-else-not-is_replaced}}}
use Rattle.stn_records.proofs.records.Records.add.Goals as goal

-- the record is new
none : (g : _) (c : goal.In_ok-add-in-None g) → fin.get c.args.self.now.additions c.args.id ≡ None
none g c = cc

pub invariant_of-self-in-None : goal.invariant_of-self-in-None
invariant_of-self-in-None g c =
    let r : Record = record { mark = c.args.mark; bound = c.args.bound } in
    let added = c.in_ok-add-in-None.ensures.added ∙ ap (λ (s : Content). with_record s c.args.id r) c.self.view_is in
    let sound = subst IsSound c.self.view_is c.self.invariant in
    subst IsSound (sym added) (record_sound c.args.self.now c.args.id r sound c.requires (λ z e. absurd (false≢true (ap is_some (sym (none g c) ∙ e)))) (elim c.else-not-is_replaced.branch [
      | else-not-is_replaced-via-then-not-is_replaced+else-is_full w ↦ λ unknown. room_left c.args.self.now w.is_full.result w.is_full.ensures.full sound.limited w.if-is_full.false
      | else-not-is_replaced-via-else-not-is_replaced w ↦ no_room_needed c.args.self.now c.args.id (known_by_replaced c.args.self.now c.args.id
          (sym c.is_replaced.ensures ∙ w.if-not-is_replaced.false))
    ]))

pub returns-after-is_same-clause-added : goal.returns-after-is_same-clause-added
returns-after-is_same-clause-added g c =
    let r : Record = record { mark = c.args.mark; bound = c.args.bound } in
    let there = ap (λ (s : Content). fin.get s.additions c.args.id) (sym c.self.view_is) ∙ ap (λ m. fin.get m c.args.id) (sym c.additions.ensures) ∙ sym c.get.ensures ∙ c.in-Some.is in
    elim c.if-is_same.branch [
      | then-is_same w ↦ subst (λ result. OnOk result (c.args.self.now ≡ with_record c.args.self.now c.args.id r)) (sym w.result-is) (record_again c.args.self.now c.args.id r (there ∙ ap Some ((records_decide c.in-Some.there r).0 (sym c.is_same.ensures ∙ w.if-is_same.true))))
      | else-is_same w ↦ subst (λ result. OnOk result (c.args.self.now ≡ with_record c.args.self.now c.args.id r)) (sym w.result-is) tt
    ]

pub returns-after-is_same-clause-joined : goal.returns-after-is_same-clause-joined
returns-after-is_same-clause-joined g c =
    let r : Record = record { mark = c.args.mark; bound = c.args.bound } in
    let there = ap (λ (s : Content). fin.get s.additions c.args.id) (sym c.self.view_is) ∙ ap (λ m. fin.get m c.args.id) (sym c.additions.ensures) ∙ sym c.get.ensures ∙ c.in-Some.is in
    elim c.if-is_same.branch [
      | then-is_same w ↦
          let same = there ∙ ap Some ((records_decide c.in-Some.there r).0 (sym c.is_same.ensures ∙ w.if-is_same.true)) in
          subst (λ result. OnOk result (join_contents c.args.self.now (one_record c.args.id r) ≡ Some c.args.self.now)) (sym w.result-is)
          (record_joins c.args.self.now c.args.id r (λ z e. let is : Some z ≡ Some r = sym e ∙ same in cc) ∙ ap Some (sym (record_again c.args.self.now c.args.id r same)))
      | else-is_same w ↦ subst (λ result. OnOk result (join_contents c.args.self.now (one_record c.args.id r) ≡ Some c.args.self.now)) (sym w.result-is) tt
    ]

pub returns-in_ok-add-in-None-clause-joined : goal.returns-in_ok-add-in-None-clause-joined
returns-in_ok-add-in-None-clause-joined g c =
    let r : Record = record { mark = c.args.mark; bound = c.args.bound } in
    record_joins c.args.self.now c.args.id r (λ z e. absurd (false≢true (ap is_some (sym (none g c) ∙ e))))
    ∙ ap Some (sym (c.in_ok-add-in-None.ensures.added ∙ ap (λ (s : Content). with_record s c.args.id r) c.self.view_is))
