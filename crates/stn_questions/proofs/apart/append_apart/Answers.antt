use Rattle.std.proofs.{Common.{inl, inr}, lemmas.{Option.MatchOption-at_some, Result.IfOk-weaker}}
use Rattle.stn_net.specs.Schedule.{HasSchedule}
use Rattle.stn_site.{specs.Bounds.all_bounds, proofs.Printing.kept_err}
use Rattle.stn_questions.{specs.Why.{HoldEnds, IsApartText}, proofs.Reasons.reasons_appended}
use Rattle.stn_questions.proofs.apart.append_apart.Goals as goal

pub text_of-requires : goal.text_of-requires
text_of-requires g c =
    let source = c.args.plan.now.source in
    let state = c.args.plan.now.state in
    MatchOption-at_some (¬ HasSchedule (all_bounds source state)) (HoldEnds source state c.args.from c.args.to) c.in-Some.ends c.in-Some.is c.in_ok-ends.ensures

pub returns-in_ok-text-in-Some : goal.returns-in_ok-text-in-Some
returns-in_ok-text-in-Some g c = record {
  printed = reasons_appended c.extend_from_slice.result _ _ _ c.in_ok-text-in-Some.text.items (IsApartText c.args.plan.now.source c.args.plan.now.state c.args.from c.args.to)
      (inl c.in_ok-text-in-Some.ensures) c.deref.ensures.value c.extend_from_slice.ensures.items;
  kept = kept_err c.extend_from_slice.result c.extend_from_slice.new.self.items c.args.out.now.items c.deref.result.now c.extend_from_slice.ensures.items;
}

pub returns-in-None-clause-printed : goal.returns-in-None-clause-printed
returns-in-None-clause-printed g c = IfOk-weaker c.report_conflict.result _ _ (λ _ said. (said.0, inr said.1, said.2)) c.report_conflict.ensures.part
