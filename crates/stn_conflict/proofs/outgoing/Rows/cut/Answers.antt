use Rattle.std.proofs.{Common.{rules, ◌≡◌, inl, inr, ◌<◌, length, set, take, sym, ap, ◌∙◌, arith}, lemmas.{Bool.cases_eq, List.length-set}}
use Rattle.stn_conflict.{specs.Relaxation.{row_of, IsCutAt}, proofs.Rows.{replaced_here, replaced_other, row_is, rows_cut}}
use Rattle.stn_conflict.proofs.outgoing.Rows.cut.Goals as goal

pub looks_before-kept-requires : goal.looks_before-kept-requires
looks_before-kept-requires g c =
    let h = c.loop-event.invariant in
    let there : c.loop-event.event < length c.loop-event.self.outgoing.items = omega (arith, c.loop-event-test.true, c.len-event-end.ensures, h.long) in
    let first = c.requires.1.stand in
    let ordered = (first.row c.loop-event.event (omega (arith, there, h.long))).ordered in
    let same = h.rest c.loop-event.event (omega arith) in
    search (rules, row_is)

pub loop-event-preserved : goal.loop-event-preserved
loop-event-preserved g c =
    let rows = c.loop-event.self.outgoing.items in
    let initial = c.args.self.now.outgoing.items in
    let event = c.loop-event.event in
    let new = c.truncate.new.self in
    let kept = c.looks_before-kept.result in
    let h = c.loop-event.invariant in
    let there : event < length rows = omega (arith, c.loop-event-test.true, c.len-event-end.ensures, h.long) in
    let was : row_of rows event ≡ row_of initial event = h.rest event (omega arith) in
    let read : c.deref.result.now ≡ row_of initial event = c.deref.ensures.value ∙ sym (row_is rows there c.index.ensures) ∙ was in
    let at : IsCutAt (row_of initial event) c.args.place kept = rw read at c.looks_before-kept.ensures in
    let here : row_of (set rows event new) event ≡ take kept (row_of initial event) =
    replaced_here rows new there ∙ c.truncate.ensures.items ∙ ap (take kept) (sym (row_is rows there c.index_mut.ensures.value) ∙ was) in
    record {
      turned = h.turned;
      chosen = h.chosen;
      long = length-set rows event new ∙ h.long;
      added = h.added;
      cut = λ x below. elim (cases_eq x event) [
        | inl same ↦ rw same (kept, at, here)
        | inr apart ↦ (let (n, front, is) = h.cut x (omega arith) in (n, front, replaced_other rows new apart ∙ is))
      ];
      rest = λ x past. replaced_other rows new (λ same. omega arith) ∙ h.rest x (omega arith);
    }

pub returns-then-place-self : goal.returns-then-place-self
returns-then-place-self g c =
    let h = c.loop-event.invariant in
    record {
      rows = λ bounds more is first.
          rows_cut more is first h.turned h.chosen h.long
          (λ x below. h.cut x (omega (arith, below, c.loop-event-test.false, c.len-event-end.ensures))) (omega arith) (λ rank before front. front) (omega (arith, c.if-place-self.true, h.added));
    }

pub returns-else-place-self : goal.returns-else-place-self
returns-else-place-self g c =
    let h = c.loop-event.invariant in
    record {
      rows = λ bounds more is first.
          rows_cut more is first h.turned h.chosen h.long
          (λ x below. h.cut x (omega (arith, below, c.loop-event-test.false, c.len-event-end.ensures))) (omega (arith, c.if-place-self.false)) (λ rank before front. omega (arith, before, h.added))
          (omega (arith, h.added));
    }
