use Rattle.stn_world.proofs.world.World.packet_place.Goals as goal

pub returns-else-packet-ge1-clause-missing : goal.returns-else-packet-ge1-clause-missing
returns-else-packet-ge1-clause-missing g c = c.refused.ensures
