use Rattle.std.proofs.Common.{◌++◌, ◌∙◌, ap}
use Rattle.stn_site.{specs.Bounds.all_bounds, proofs.Printing.{appended_part, kept_err}}
use Rattle.stn_questions.specs.Ready.{IsReadyWith}
use Rattle.stn_questions.proofs.ready.print_ready_with.Goals as goal

pub returns : goal.returns
returns g c =
    let (text, said, is) = c.in_ok-append_ready.ensures in
    let whole = c.deref.ensures.value ∙ is ∙ ap (λ old. old ++ text) c.new-text.ensures.items in
    let Is = IsReadyWith (all_bounds c.args.plan.now.source c.args.plan.now.state) c.args.done.now c.args.now in
    let result = c.extend_from_slice in
    record {
      printed = appended_part result.result result.new.self.items c.args.out.now.items c.deref.result.now text whole result.ensures.items Is said;
      kept = kept_err result.result result.new.self.items c.args.out.now.items c.deref.result.now result.ensures.items;
    }
