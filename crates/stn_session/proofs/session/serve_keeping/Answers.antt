use Rattle.std.proofs.{Common.{◌≡◌, ◌+◌, ◌≤◌, Ok, Err, length, refl, ap, subst, ◌∙◌, arith}, lemmas.Result.err_from_is_err_and}
use Rattle.stn_effects.specs.Printing.{device_of}
use Rattle.stn_lift.specs.PlanSource.{PlanSource}
use Rattle.stn_wire.{specs.{Frame.content, Stream.{unread, pending, Held.Stream}}, proofs.Streams.{count_fits, measure_falls}}
use Rattle.stn_session.{specs.{Session.answer, Serving.talk, Turns.AnswersFrame}, proofs.Sessions.{begun, closes, cuts, stream_fails, refuses, refusal_fails, frame_fails, frame_answered, frame_ends}}
use Rattle.stn_session.proofs.session.serve_keeping.Goals as goal

none_pending : (s : Stream) → s ≡ unread → 0 + length (pending s) ≤ s.count
none_pending s is = omega (arith, ap (λ (s : Stream). length (pending s)) is)

pub frames-init : goal.frames-init
frames-init g c = record {
  reading = ap (λ (s : Stream). s.broken) c.new-frames.ensures;
  progress = begun _ _ _ _ _ (ap pending c.new-frames.ensures) (ap (λ (s : Stream). s.count) c.new-frames.ensures);
  source = refl;
  site = refl;
  few = none_pending c.new-frames.result c.new-frames.ensures;
}

pub returns-in_err-frame-clause-served : goal.returns-in_err-frame-clause-served
returns-in_err-frame-clause-served g c =
    let p = err_from_is_err_and c.from_residual.result c.from_residual.ensures.1 in
    let gave = c.in_err-frame.ensures.gives in
    let fault = c.in_err-frame.field-0.0 in
    let i = c.frames.invariant in
    rw (p.1, p.2) (stream_fails i.progress _ gave.bytes gave.consumed g.row.A.Denot c.next.new.self fault gave.next gave.counted c.requires.reader_counts _ refl c.in_err-frame.ensures.read c.in_err-frame.ensures.kept)

pub returns-in_err-turn-in-Frame-clause-served : goal.returns-in_err-turn-in-Frame-clause-served
returns-in_err-turn-in-Frame-clause-served g c =
    let p = err_from_is_err_and c.from_residual-in_err-turn-in-Frame.result c.from_residual-in_err-turn-in-Frame.ensures.1 in
    let gave = rw c.in-Frame.is at c.in_ok-frame.ensures.gives in
    let i = c.frames.invariant in
    let fault = c.in_err-turn-in-Frame.field-0.0 in
    let heard = device_of g.R.Read.remaining c.next.new.reader in
    let told = device_of g.W.Write.contents in
    let held = g.C.SiteCopy.held in
    let lost = subst (λ (s : PlanSource). AnswersFrame (g.K.Keeper.keeps c.args.keeper.now s) (answer s (held c.frames.copy).state c.frames.greeted (content c.in-Frame.frame))
    (talk heard (told c.frames.writer) (held c.frames.copy).state c.frames.place)
    (talk heard (told c.answer_frame-answered.new.writer) (held c.answer_frame-answered.new.copy).state c.answer_frame-answered.new.place) (Err fault)) i.source
    (c.in_err-turn-in-Frame.ensures.answered heard) in
    rw (p.1, p.2) (frame_fails i.progress _ gave.bytes gave.consumed gave.counted.1 (c.in_ok-frame.ensures.kept (λ e. cc)) (content c.in-Frame.frame) (pending c.next.new.self) gave.next.0 gave.next.1 _
    (g.C.SiteCopy.held c.answer_frame-answered.new.copy).state c.requires.writer_counts c.answer_frame-answered.new.place fault lost)

pub frames-smaller : goal.frames-smaller
frames-smaller g c =
    let gave = rw c.in-Frame.is at c.in_ok-frame.ensures.gives in
    omega (arith, measure_falls (pending c.frames.frames) gave.bytes (pending c.next.new.self) (content c.in-Frame.frame) gave.next.1 c.frames.frames.count c.next.new.self.count gave.counted.0 gave.counted.1)

pub frames-preserved : goal.frames-preserved
frames-preserved g c =
    let gave = rw c.in-Frame.is at c.in_ok-frame.ensures.gives in
    let i = c.frames.invariant in
    let turn = c.in_ok-turn-in-Frame in
    record {
      reading = gave.next.2;
      progress = frame_answered i.progress _ gave.bytes gave.consumed gave.counted.1 (c.in_ok-frame.ensures.kept (λ e. cc)) (content c.in-Frame.frame) (pending c.next.new.self) gave.next.0 gave.next.1 _
          (g.C.SiteCopy.held c.answer_frame-answered.new.copy).state c.answer_frame-answered.new.place turn.turn (rw i.source at (turn.ensures.answered (device_of g.R.Read.remaining c.next.new.reader))) c.in_default.is c.next.new.self.count gave.counted.0;
      source = turn.ensures.source ∙ i.source;
      site = turn.ensures.site ∙ i.site;
      few = count_fits (pending c.frames.frames) gave.bytes (pending c.next.new.self) (content c.in-Frame.frame) gave.next.1 c.frames.frames.count c.next.new.self.count gave.counted.0 c.frames.count i.few;
    }

pub returns-in-Some-clause-served : goal.returns-in-Some-clause-served
returns-in-Some-clause-served g c =
    let gave = rw c.in-Frame.is at c.in_ok-frame.ensures.gives in
    let i = c.frames.invariant in
    let turn = c.in_ok-turn-in-Frame in
    rw c.ended_after.ensures (frame_ends i.progress _ gave.bytes gave.consumed gave.counted.1 (c.in_ok-frame.ensures.kept (λ e. cc)) (content c.in-Frame.frame) (pending c.next.new.self) gave.next.0 gave.next.1 _
    (g.C.SiteCopy.held c.answer_frame-answered.new.copy).state c.answer_frame-answered.new.place turn.turn (rw i.source at (turn.ensures.answered (device_of g.R.Read.remaining c.next.new.reader))) c.in-Some.code c.in-Some.is)

pub returns-in_err-refuse-in-Faulty-clause-served : goal.returns-in_err-refuse-in-Faulty-clause-served
returns-in_err-refuse-in-Faulty-clause-served g c =
    let p = err_from_is_err_and c.from_residual-in_err-refuse-in-Faulty.result c.from_residual-in_err-refuse-in-Faulty.ensures.1 in
    let gave = rw c.in-Faulty.is at c.in_ok-frame.ensures.gives in
    let i = c.frames.invariant in
    rw (p.1, p.2) (refusal_fails i.progress _ gave.bytes gave.consumed gave.counted.1 (c.in_ok-frame.ensures.kept (λ e. cc)) c.in-Faulty.fault gave.next _ c.requires.writer_counts
    c.in_err-refuse-in-Faulty.field-0.0 c.code-code.result c.code-code.ensures c.in_err-refuse-in-Faulty.ensures)

pub returns-in-Faulty-clause-served : goal.returns-in-Faulty-clause-served
returns-in-Faulty-clause-served g c =
    let gave = rw c.in-Faulty.is at c.in_ok-frame.ensures.gives in
    let i = c.frames.invariant in
    rw c.ended_after-in-Faulty.ensures (refuses i.progress _ gave.bytes gave.consumed gave.counted.1 (c.in_ok-frame.ensures.kept (λ e. cc)) c.in-Faulty.fault gave.next _ c.code-code.result c.code-code.ensures c.in_ok-refuse-in-Faulty.ensures)

pub returns-in-Closed-clause-served : goal.returns-in-Closed-clause-served
returns-in-Closed-clause-served g c =
    let gave = rw c.in-Closed.is at c.in_ok-frame.ensures.gives in
    let i = c.frames.invariant in
    rw c.ended_after-in-Closed.ensures (closes i.progress _ gave.bytes gave.consumed gave.counted.1 (c.in_ok-frame.ensures.kept (λ e. cc)) gave.next (c.in_ok-frame.ensures.closed (ap Ok c.in-Closed.is)))

pub returns-in-Cut-clause-served : goal.returns-in-Cut-clause-served
returns-in-Cut-clause-served g c =
    let gave = rw c.in-Cut.is at c.in_ok-frame.ensures.gives in
    let i = c.frames.invariant in
    rw c.ended_after-in-Cut.ensures (cuts i.progress _ gave.bytes gave.consumed gave.counted.1 (c.in_ok-frame.ensures.kept (λ e. cc)) gave.next.0 gave.next.1 (c.in_ok-frame.ensures.cut (ap Ok c.in-Cut.is)))
