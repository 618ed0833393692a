use Rattle.std.proofs.Common.{rules, inl}
use Rattle.stn_device.proofs.Known.{on_given}
use Rattle.stn_device.proofs.partner.Partner.part.Goals as goal

pub returns-then-is_ok : goal.returns-then-is_ok
returns-then-is_ok g c =
    let told = on_given c.finish.result c.if-is_ok.ensures.value c.finish.ensures.told in
    let rest = c.drain.ensures in
    (search rules, inl (told, record { bytes = rest.bytes; heard = rest.used; few = rest.few; all = rest.all }, search rules))
