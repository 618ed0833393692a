use Rattle.std.proofs.Common.{◌≡◌, rules}
use Rattle.stn_site.proofs.own.flags_among.Goals as goal

pub loop-number-preserved : goal.loop-number-preserved
loop-number-preserved g c =
    let is : c.unwrap-event.result ≡ c.loop-number.number = rw c.unwrap-event.ensures at c.new.ensures.value in
    search rules
