use Rattle.std.proofs.Common.{refl}
use Rattle.stn_drawing.proofs.Grown.{then, last}
use Rattle.stn_chart.proofs.frame.append_overdue.Goals as goal

pub returns-in_ok-print_event-in-Some : goal.returns-in_ok-print_event-in-Some
returns-in_ok-print_event-in-Some g c =
    let out = c.args.out.now.items in
    let event = then out _ _ c.in_ok-extend_from_slice-in-Some.ensures.items c.in_ok-print_event-in-Some.ensures.printed in
    last c.extend_from_slice-in-Some.result out _ _ _ event c.extend_from_slice-in-Some.ensures.items (rw c.in-Some.is refl)
