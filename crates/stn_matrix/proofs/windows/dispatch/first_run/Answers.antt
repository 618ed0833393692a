use Rattle.std.proofs.{Common.{◌≡◌, ◌≤ℤ◌, ◌<ℤ◌, refl, sym, ◌∙◌, inl, arith, rules}, lemmas.{Int.ints, Bool.{cases_lt, false≢true}}}
use Rattle.stn_net.specs.{Matrix.Table.far_of, Windows.{Dispatch.IsLeft, Leading.{earliest, CanLead}}}
use Rattle.stn_matrix.proofs.{Coming.{one_more_run, same_first, one_more_behind}, windows.dispatch.first_run.Goals.{then-is_left+else-le, else-le-via-then-le+else-leads, else-le-via-else-le, else-is_left}}
use Rattle.stn_matrix.proofs.windows.dispatch.first_run.Goals as goal

pub returns-then-leads : goal.returns-then-leads
returns-then-leads g c =
    let event = c.unwrap-event.result in
    let is : event ≡ c.loop-number.number = search rules in
    let time : c.neg-earliest.result ≡ earliest (far_of c.args.matrix.now) event = rw (c.far.ensures.entry, c.origin.ensures) at c.neg-earliest.ensures in
    let come : c.neg-earliest.result ≤ℤ c.args.now = (let le = sym c.le.ensures ∙ c.if-le.true in grind (arith, ints)) in
    inl (record {
      at = refl;
      leads = record { left = c.is_left.ensures.0 c.if-is_left.true; come = omega (arith, ints); leads = c.leads.ensures.0 c.if-leads.true };
      first = λ other can. search (rules, cases_lt);
    })

pub loop-number-preserved : goal.loop-number-preserved
loop-number-preserved g c =
    let far = far_of c.args.matrix.now in
    let done = c.args.done.now in
    let now = c.args.now in
    let number = c.loop-number.number in
    let event = c.unwrap-event.result in
    let first = c.loop-number.first in
    let is : event ≡ number = search rules in
    elim c.if-is_left.branch [
      | then-is_left+else-le w ↦
          let time : w.neg-earliest.result ≡ earliest far event = rw (w.far.ensures.entry, w.origin.ensures) at w.neg-earliest.ensures in
          let behind : ¬ CanLead far done now event = λ can. elim w.else-le.branch [
            | else-le-via-then-le+else-leads v ↦ let leads = v.leads.ensures.1 can.leads in let not = v.if-leads.false in false≢true (cc)
            | else-le-via-else-le v ↦ let later : c.args.now <ℤ w.neg-earliest.result = (let le = sym w.le.ensures ∙ v.if-le.false in grind (arith, ints)) in let come = can.come in absurd (omega (arith, ints))
          ] in
          rw w.first-is (record {
            none = one_more_behind far done now number event is behind c.loop-number.invariant.none;
            first = rw w.earlier_of.ensures (one_more_run (earliest far) done number event first w.neg-earliest.result is (c.is_left.ensures.0 w.if-is_left.true) time c.loop-number.invariant.first);
          })
      | else-is_left w ↦
          let not_left : ¬ IsLeft done event = λ left. let yes = c.is_left.ensures.1 left in let not = w.if-is_left.false in false≢true (cc) in
          rw w.first-is (record {
            none = one_more_behind far done now number event is (λ can. not_left can.left) c.loop-number.invariant.none;
            first = same_first (earliest far) done number event first is not_left c.loop-number.invariant.first;
          })
    ]
