use Rattle.std.proofs.Common.{Ok, None, Some, Err, ◌+◌, refl, ap, arith}
use Rattle.stn_effects.specs.{Effects.{stopped, went, broke, over, again}, Printing.device_of}
use Rattle.stn_shell.{specs.{Coprocess.{Standing, beginning, further}, Outside.outside}, proofs.{Bytes.less_room, Turns.refused_status}}
use Rattle.stn_store.proofs.Lacks.{passed_on}
use Rattle.stn_shell.proofs.coprocess.run_shell.Goals as goal

pub returns-in_err-find_log-clause-ran : goal.returns-in_err-find_log-clause-ran
returns-in_err-find_log-clause-ran g c =
    let here = beginning (outside (g.S.Store.entries c.args.store.now) (device_of g.R.Read.remaining c.args.reader.now) (device_of g.W.Write.contents c.args.out.now) (device_of g.E.Write.contents c.args.err.now)) in
    rw (passed_on _ _ c.from_residual.ensures.1) (here, Err _, stopped _ (((refl, c.in_err-find_log.ensures), refl, refl, refl), refl, refl, refl) refl, refl, refl)

pub turns-init : goal.turns-init
turns-init g c =
    let found = c.in_ok-find_log.ensures in
    let here = beginning (outside (g.S.Store.entries c.args.store.now) (device_of g.R.Read.remaining c.args.reader.now) (device_of g.W.Write.contents c.args.out.now) (device_of g.E.Write.contents c.args.err.now)) in
    record { rest = λ last ended all. went found.0 here (((refl, found.1), refl, refl, refl), refl, refl, refl) all; few = omega arith }

pub returns-in_err-text-clause-ran : goal.returns-in_err-text-clause-ran
returns-in_err-text-clause-ran g c =
    let unread = device_of g.R.Read.remaining c.read_line.new.reader in
    let room = c.read_line.new.room in
    let old : Standing = record { around = outside (g.S.Store.entries c.turns.store) (device_of g.R.Read.remaining c.turns.reader) (device_of g.W.Write.contents c.turns.out) (device_of g.E.Write.contents c.turns.err); lines = c.turns.lines; room = c.turns.room; refused = c.turns.refused } in
    rw (passed_on _ _ c.from_residual-in_err-text.ensures.1) (
      further old unread old.lines room,
      Err _,
      c.turns.invariant.rest _ _ (broke _ _ _ (stopped _ (unread, room, c.in_err-text.ensures, refl) refl)),
      refl,
      refl,
    )

pub returns-in_err-refused-clause-ran : goal.returns-in_err-refused-clause-ran
returns-in_err-refused-clause-ran g c =
    let is = rw c.in-Some.is at c.in_ok-text.ensures in
    let unread = device_of g.R.Read.remaining c.read_line.new.reader in
    let room = c.read_line.new.room in
    let old : Standing = record { around = outside (g.S.Store.entries c.turns.store) (device_of g.R.Read.remaining c.turns.reader) (device_of g.W.Write.contents c.turns.out) (device_of g.E.Write.contents c.turns.err); lines = c.turns.lines; room = c.turns.room; refused = c.turns.refused } in
    let new = outside (g.S.Store.entries c.do_line.new.store) unread (device_of g.W.Write.contents c.do_line.new.out) (device_of g.E.Write.contents c.do_line.new.err) in
    rw (passed_on _ _ c.from_residual-in_err-refused.ensures.1) (
      record { around = new; lines = old.lines + 1; room = room; refused = old.refused },
      Err _,
      c.turns.invariant.rest _ _ (broke _ _ _ (went (Some c.in-Some.text.items) (further old unread (old.lines + 1) room) (unread, room, is, refl)
          (stopped _ (rw c.deref.ensures.value at (c.in_err-refused.ensures unread), refl, refl, refl) refl))),
      refl,
      refl,
    )

pub returns-clause-ran : goal.returns-clause-ran
returns-clause-ran g c =
    let is = rw c.in_default.is at c.in_ok-text.ensures in
    let unread = device_of g.R.Read.remaining c.read_line.new.reader in
    let room = c.read_line.new.room in
    let old : Standing = record { around = outside (g.S.Store.entries c.turns.store) (device_of g.R.Read.remaining c.turns.reader) (device_of g.W.Write.contents c.turns.out) (device_of g.E.Write.contents c.turns.err); lines = c.turns.lines; room = c.turns.room; refused = c.turns.refused } in (
      further old unread old.lines room,
      Ok tt,
      c.turns.invariant.rest _ _ (over _ _ (went None (further old unread old.lines room) (unread, room, is, refl) (refl, refl))),
      refl,
      ap Ok (refused_status _ _ c.from.ensures),
    )

pub turns-smaller : goal.turns-smaller
turns-smaller g c = less_room _ _ _ _ _ (rw c.in-Some.is at c.in_ok-text.ensures)

pub turns-preserved : goal.turns-preserved
turns-preserved g c =
    let is = rw c.in-Some.is at c.in_ok-text.ensures in
    let unread = device_of g.R.Read.remaining c.read_line.new.reader in
    let room = c.read_line.new.room in
    let old : Standing = record { around = outside (g.S.Store.entries c.turns.store) (device_of g.R.Read.remaining c.turns.reader) (device_of g.W.Write.contents c.turns.out) (device_of g.E.Write.contents c.turns.err); lines = c.turns.lines; room = c.turns.room; refused = c.turns.refused } in
    let new = outside (g.S.Store.entries c.do_line.new.store) unread (device_of g.W.Write.contents c.do_line.new.out) (device_of g.E.Write.contents c.do_line.new.err) in
    record {
      rest = λ last ended all. c.turns.invariant.rest last ended (again _ _ last ended (went (Some c.in-Some.text.items) (further old unread (old.lines + 1) room) (unread, room, is, refl)
          (went c.in_ok-refused.field-0 (record { around = new; lines = old.lines + 1; room = room; refused = old.refused })
          (rw c.deref.ensures.value at (c.in_ok-refused.ensures unread), refl, refl, refl) (refl, refl))) all);
      few = omega (arith, less_room _ _ _ _ _ is, c.turns.invariant.few);
    }
