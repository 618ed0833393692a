use Rattle.std.proofs.Common.{length, ap, arith}
use Rattle.stn_world.specs.World.{World}
use Rattle.stn_world.proofs.world.World.next_packet.Goals as goal

pub returns-then-len-lt-MOST_PACKETS-clause-room : goal.returns-then-len-lt-MOST_PACKETS-clause-room
returns-then-len-lt-MOST_PACKETS-clause-room g c = omega (arith, ap (λ (world : World). length world.packets) c.self.view_is)
