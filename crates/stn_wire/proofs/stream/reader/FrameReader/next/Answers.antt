use Rattle.std.proofs.Common.{rules}
use Rattle.stn_wire.proofs.Streams.{filled_more, fill_fails}
use Rattle.stn_wire.proofs.stream.reader.FrameReader.next.Goals as goal

pub returns-in_err-more-clause-gives : goal.returns-in_err-more-clause-gives
returns-in_err-more-clause-gives g c = search (rules, fill_fails)

pub pieces-preserved : goal.pieces-preserved
pieces-preserved g c = search (rules, filled_more)
