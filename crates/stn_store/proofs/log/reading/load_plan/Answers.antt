use Rattle.std.proofs.Common.{refl, ap, arith, Ok, Err, option_map, ◌∙◌}
use Rattle.stn_wire.{specs.{Frame.content, Stream.{pending, Held.Stream}}, proofs.Streams.measure_falls}
use Rattle.stn_device.{specs.declared.whole.ReadFault.ReadFault, proofs.Known.{fails_more, fault_or, not_err}}
use Rattle.stn_device.specs.declared.whole.ReadFault.TheVariants as stream
use Rattle.stn_store.{specs.{Log.{Faults.of_stream, Opening.opened_so_far}, declared.log.fault.LoadFault.TheVariants.Read}, proofs.log.{Answered.{uncut, loaded}, Progress.{begun, read_on, used_within, next_held, refuses, shows_fault, closes, closes_empty, cuts, stream_fails, stream_open, stream_used, stream_bound, stream_read}}, proofs.Lacks.passed_on}
use Rattle.stn_store.proofs.log.reading.load_plan.Goals as goal

pub frames-init : goal.frames-init
frames-init g c = record {
  reading = ap (λ (s : Stream). s.broken) c.new-frames.ensures;
  progress = begun (ap pending c.new-frames.ensures) (ap (λ (s : Stream). s.count) c.new-frames.ensures);
  site = tt;
  kept = refl;
}

pub returns-in_err-frame : goal.returns-in_err-frame
returns-in_err-frame g c =
    let gave = c.in_err-frame.ensures.gives in
    let fault = c.in_err-frame.field-0.0 in
    let i = c.frames.invariant in
    let q = read_on _ _ _ _ _ i.progress gave.bytes gave.consumed in
    rw (passed_on _ _ c.from_residual.ensures.1) (record {
      meaning = stream_fails _ _ _ _ _ q g.row.A.Denot c.next.new.self fault gave.next gave.counted;
      end = tt;
      site = tt;
      «open» = λ e. stream_open _ _ _ _ _ q g.row.A.Denot c.next.new.self fault (ap (fault_or Read) e) gave.next;
      read = λ e. fails_more _ _ _ (c.in_err-frame.ensures.read (ap Err (stream_read (ap (fault_or Read) e)))) i.kept c.requires;
      bound = λ e. stream_bound _ _ _ _ _ q g.row.A.Denot c.next.new.self fault (ap (fault_or Read) e) gave.counted;
      kept = λ other. c.in_err-frame.ensures.kept (λ e. other (ap (λ (s : ReadFault). Err (of_stream s)) (ap (fault_or stream.Read) e))) ∙ i.kept;
      used = stream_used _ _ _ _ _ q g.row.A.Denot c.next.new.self fault gave.counted;
    })

pub returns-in_err-taken-in-Frame : goal.returns-in_err-taken-in-Frame
returns-in_err-taken-in-Frame g c =
    let gave = rw c.in-Frame.is at c.in_ok-frame.ensures.gives in
    let fault = c.in_err-taken-in-Frame.field-0.0 in
    let refused = c.in_err-taken-in-Frame.ensures.refused in
    let q = read_on _ _ _ _ _ c.frames.invariant.progress gave.bytes gave.consumed in
    rw (passed_on _ _ c.from_residual-in_err-taken-in-Frame.ensures.1) (uncut _ _ _ _ refused.0 (refuses _ _ _ _ _ q gave.counted.1 (pending c.next.new.self) gave.next.0 gave.next.1 fault refused)
    (c.in_ok-frame.ensures.kept (not_err _ _) ∙ c.frames.invariant.kept) (used_within _ _ _ _ _ q gave.counted.1))

pub frames-smaller : goal.frames-smaller
frames-smaller g c =
    let gave = rw c.in-Frame.is at c.in_ok-frame.ensures.gives in
    omega (arith, measure_falls (pending c.frames.frames) gave.bytes (pending c.next.new.self) (content c.in-Frame.frame) gave.next.1 c.frames.frames.count c.next.new.self.count gave.counted.0 gave.counted.1)

pub frames-preserved : goal.frames-preserved
frames-preserved g c =
    let gave = rw c.in-Frame.is at c.in_ok-frame.ensures.gives in
    let q = read_on _ _ _ _ _ c.frames.invariant.progress gave.bytes gave.consumed in
    record {
      reading = gave.next.2;
      progress = next_held _ _ _ _ _ q gave.next.0 gave.next.1 gave.counted.0 c.in_ok-taken-in-Frame.ensures.opened c.in_ok-taken-in-Frame.ensures.taken;
      site = c.in_ok-taken-in-Frame.ensures.site;
      kept = c.in_ok-frame.ensures.kept (not_err _ _) ∙ c.frames.invariant.kept;
    }

pub returns-in-Faulty : goal.returns-in-Faulty
returns-in-Faulty g c =
    let gave = rw c.in-Faulty.is at c.in_ok-frame.ensures.gives in
    let q = read_on _ _ _ _ _ c.frames.invariant.progress gave.bytes gave.consumed in
    rw c.from.ensures (uncut _ _ _ _ refl (shows_fault _ _ _ _ _ q gave.counted.1 gave.next)
    (c.in_ok-frame.ensures.kept (not_err _ _) ∙ c.frames.invariant.kept) (used_within _ _ _ _ _ q gave.counted.1))

pub returns-in-Cut : goal.returns-in-Cut
returns-in-Cut g c =
    let gave = rw c.in-Cut.is at c.in_ok-frame.ensures.gives in
    let q = read_on _ _ _ _ _ c.frames.invariant.progress gave.bytes gave.consumed in
    uncut _ _ _ _ refl (cuts _ _ _ _ _ q gave.counted.1 (c.in_ok-frame.ensures.cut (ap Ok c.in-Cut.is)) gave.next.0 gave.next.1)
    (c.in_ok-frame.ensures.kept (not_err _ _) ∙ c.frames.invariant.kept) (used_within _ _ _ _ _ q gave.counted.1)

pub returns-in-Some : goal.returns-in-Some
returns-in-Some g c =
    let gave = rw c.in-Closed.is at c.in_ok-frame.ensures.gives in
    let end = c.in_ok-frame.ensures.closed (ap Ok c.in-Closed.is) in
    let q = read_on _ _ _ _ _ c.frames.invariant.progress gave.bytes gave.consumed in
    loaded _ _ _ _ (closes _ _ _ _ _ q gave.counted.1 end gave.next (ap (option_map opened_so_far) c.in-Some.is)) end (rw c.in-Some.is at c.frames.invariant.site)
    (c.in_ok-frame.ensures.kept (not_err _ _) ∙ c.frames.invariant.kept) (used_within _ _ _ _ _ q gave.counted.1)

pub returns-in-None : goal.returns-in-None
returns-in-None g c =
    let gave = rw c.in-Closed.is at c.in_ok-frame.ensures.gives in
    let end = c.in_ok-frame.ensures.closed (ap Ok c.in-Closed.is) in
    let q = read_on _ _ _ _ _ c.frames.invariant.progress gave.bytes gave.consumed in
    uncut _ _ _ _ refl (closes_empty _ _ _ _ _ q gave.counted.1 end gave.next (ap (option_map opened_so_far) c.in-None.is))
    (c.in_ok-frame.ensures.kept (not_err _ _) ∙ c.frames.invariant.kept) (used_within _ _ _ _ _ q gave.counted.1)
