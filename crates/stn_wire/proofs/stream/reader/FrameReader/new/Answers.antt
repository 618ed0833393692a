use Rattle.std.proofs.Common.{rules}
use Rattle.stn_wire.proofs.stream.reader.FrameReader.new.Goals as goal

pub returns : goal.returns
returns g c = search rules
