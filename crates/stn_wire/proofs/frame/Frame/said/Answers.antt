use Rattle.stn_wire.proofs.frame.Frame.said.Goals as goal

pub returns-in-OldHello : goal.returns-in-OldHello
returns-in-OldHello g c = rw c.in-OldHello.is tt
