use Rattle.std.proofs.{Common.{◌≡◌, ◌≢◌, ◌+◌, ◌-◌, ◌^◌, ◌++◌, ◌∷◌, [], min, length, refl, ap, inl, ◌∙◌, arith}, KnownBytes.{Consumes-nil, Consumes-kept}, lemmas.Grind.common_steps}
use Rattle.stn_text.specs.Bytes.{line_feed}
use Rattle.stn_shell.proofs.Bytes.{within_more, one_taken, taken_more, at_end}
use Rattle.stn_store.proofs.Lacks.{passed_on}
use Rattle.stn_shell.proofs.lines.read_line.Goals as goal

pub bytes-init : goal.bytes-init
bytes-init g c = record {
  byte_len = refl;
  within = rw c.new-line.ensures.items tt;
  taken = rw c.new-line.ensures.items (Consumes-nil _, omega arith, refl);
}

pub returns-in-Ok-eq0 : goal.returns-in-Ok-eq0
returns-in-Ok-eq0 g c =
    let i = c.bytes.invariant in
    let last = c.in-Ok-eq0.ensures in
    at_end _ _ _ _ _ c.in-Ok-eq0.field-0 _ c.bytes.line c.last_line.result c.last_line.ensures.none c.last_line.ensures.some i.within i.taken
    c.in-Ok-eq0.field-0-test last.bytes.0 (last.bytes.1 c.in-Ok-eq0.field-0-test (grind (arith, common_steps, c.read.auto.buf, i.byte_len))) last.passed

pub returns-then-room-eq0 : goal.returns-then-room-eq0
returns-then-room-eq0 g c =
    let i = c.bytes.invariant in
    let one = one_taken c.read.new.buf _ c.in-Ok.field-0 (grind (arith, common_steps, c.read.auto.buf, i.byte_len)) refl (omega (arith, c.in-Ok.field-0-test.1)) in (
      c.bytes.line.items,
      one.0,
      i.within,
      omega (arith, i.taken.1, c.if-room-eq0.true),
      taken_more _ _ _ _ _ _ _ _ _ i.taken (rw one.2 at c.in-Ok.ensures.bytes.0) c.in-Ok.ensures.passed (omega arith),
    )

pub returns-then-byte-eq-LINE_FEED : goal.returns-then-byte-eq-LINE_FEED
returns-then-byte-eq-LINE_FEED g c =
    let i = c.bytes.invariant in
    let one = one_taken c.read.new.buf _ c.in-Ok.field-0 (grind (arith, common_steps, c.read.auto.buf, i.byte_len)) refl (omega (arith, c.in-Ok.field-0-test.1)) in
    let feed : one.0 ≡ line_feed = rw one.1 at c.if-byte-eq-LINE_FEED.true in (
      c.bytes.line.items ++ line_feed ∷ [],
      (i.within, inl refl),
      taken_more _ _ _ _ _ _ _ _ _ i.taken (rw (one.2 ∙ ap (λ b. b ∷ []) feed) at c.in-Ok.ensures.bytes.0) c.in-Ok.ensures.passed (omega (arith, c.if-room-eq0.false)),
    )

pub bytes-smaller : goal.bytes-smaller
bytes-smaller g c = omega arith

pub bytes-preserved : goal.bytes-preserved
bytes-preserved g c =
    let i = c.bytes.invariant in
    let long : length c.read.new.buf ≡ 1 = grind (arith, common_steps, c.read.auto.buf, i.byte_len) in
    let one = one_taken c.read.new.buf _ c.in-Ok.field-0 long refl (omega (arith, c.in-Ok.field-0-test.1)) in
    let other : one.0 ≢ line_feed = rw one.1 at c.if-byte-eq-LINE_FEED.false in
    let items : c.extend_from_slice.new.self.items ≡ c.bytes.line.items ++ one.0 ∷ [] = cc (c.in_ok-extend_from_slice-in-Ok.ensures.items, one.1)
    in
    record {
      byte_len = long;
      within = rw items (within_more _ _ i.within other);
      taken = rw items (taken_more _ _ _ _ _ _ _ _ _ i.taken (rw one.2 at c.in-Ok.ensures.bytes.0) c.in-Ok.ensures.passed (omega (arith, c.if-room-eq0.false)));
    }

pub returns-in_err-extend_from_slice-in-Ok : goal.returns-in_err-extend_from_slice-in-Ok
returns-in_err-extend_from_slice-in-Ok g c =
    let i = c.bytes.invariant in
    let one = one_taken c.read.new.buf _ c.in-Ok.field-0 (grind (arith, common_steps, c.read.auto.buf, i.byte_len)) refl (omega (arith, c.in-Ok.field-0-test.1)) in
    let other : one.0 ≢ line_feed = rw one.1 at c.if-byte-eq-LINE_FEED.false in
    rw (passed_on _ _ c.from_residual.ensures.1) (
      c.bytes.line.items ++ one.0 ∷ [],
      within_more _ _ i.within other,
      taken_more _ _ _ _ _ _ _ _ _ i.taken (rw one.2 at c.in-Ok.ensures.bytes.0) c.in-Ok.ensures.passed (omega (arith, c.if-room-eq0.false)),
    )

pub returns-in-Err : goal.returns-in-Err
returns-in-Err g c =
    let i = c.bytes.invariant in (
      c.bytes.line.items,
      i.within,
      Consumes-kept _ _ _ _ i.taken.0 c.in-Err.ensures.bytes,
      i.taken.1,
      c.in-Err.ensures.failed ∙ ap (λ n. min (n + 1) (2 ^ 64 - 1)) i.taken.2,
    )
