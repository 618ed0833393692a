use Rattle.std.proofs.Common.{refl}
use Rattle.stn_effects.specs.{Effects.went, Printing.device_of}
use Rattle.stn_shell.{specs.Outside.outside, proofs.Turns.tells_some}
use Rattle.stn_shell.proofs.coprocess.answer_line.Goals as goal

pub returns-in-Ok : goal.returns-in-Ok
returns-in-Ok g c =
    λ unread out. went tt (outside (g.S.Store.entries c.args.store.now) unread out (device_of g.E.Write.contents c.tell_made.new.err)) ((tells_some _ _ _ _ c.waiting_of.ensures c.tell_made.ensures, refl, refl, refl), refl) (
      outside (g.S.Store.entries c.answer_with.new.store) unread out (device_of g.E.Write.contents c.tell_made.new.err),
      (c.in-Ok.ensures, refl, refl, refl),
      (c.tell_hints.ensures, refl, refl, refl),
    )

pub returns-in-Err-Refused : goal.returns-in-Err-Refused
returns-in-Err-Refused g c =
    let undone = rw c.in-Err-Refused.field-0-is at c.in-Err-Refused.ensures in
    λ unread out. went tt (outside (g.S.Store.entries c.args.store.now) unread out (device_of g.E.Write.contents c.tell_made.new.err)) ((tells_some _ _ _ _ c.waiting_of.ensures c.tell_made.ensures, refl, refl, refl), refl) (
      outside (g.S.Store.entries c.answer_with.new.store) unread out (device_of g.E.Write.contents c.tell_made.new.err),
      (undone, refl, refl, refl),
      (tells_some _ _ _ _ c.reason_in_line.ensures c.tell_made-in-Err-Refused.ensures, refl, refl, refl),
    )

pub returns-in-Err-Failed : goal.returns-in-Err-Failed
returns-in-Err-Failed g c =
    let undone = rw c.in-Err-Failed.field-0-is at c.in-Err-Failed.ensures in
    λ unread out. went tt (outside (g.S.Store.entries c.args.store.now) unread out (device_of g.E.Write.contents c.tell_made.new.err)) ((tells_some _ _ _ _ c.waiting_of.ensures c.tell_made.ensures, refl, refl, refl), refl) (undone, refl, refl, refl)
