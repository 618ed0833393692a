use Rattle.std.proofs.Common.{◌≡◌, ◌+◌, ◌-◌, ◌≤◌, length}
use Rattle.stn_effects.specs.Printing.{device_of}
use Rattle.stn_wire.specs.Stream.{pending, IsReading}
use Rattle.stn_session.{specs.Serving.talk, proofs.Sessions.Progress}
use Rattle.stn_session.proofs.session.serve_keeping.Given as goal

abbrev pub invariant-frames : goal.invariant-frames
invariant-frames g l = record {
  reading : IsReading l.frames;
  progress : Progress (g.K.Keeper.keeps l.fn.keeper (g.C.SiteCopy.held l.fn.copy).source) (g.C.SiteCopy.held l.fn.copy).source
      (talk (device_of g.R.Read.remaining l.fn.reader) (device_of g.W.Write.contents l.fn.writer) (g.C.SiteCopy.held l.fn.copy).state l.fn.place)
      (talk (device_of g.R.Read.remaining l.reader) (device_of g.W.Write.contents l.writer) (g.C.SiteCopy.held l.copy).state l.place)
      (pending l.frames) l.frames.count l.greeted l.count;
  source : (g.C.SiteCopy.held l.copy).source ≡ (g.C.SiteCopy.held l.fn.copy).source;
  site : (g.C.SiteCopy.held l.copy).site ≡ (g.C.SiteCopy.held l.fn.copy).site;
  few : l.count + length (pending l.frames) ≤ l.frames.count;
}

abbrev pub decreases-frames : goal.decreases-frames
decreases-frames g l = 16777216 + length (pending l.frames) - l.frames.count
