-- What a reader of frames holds.
use Rattle.std.specs.Prelude.{ℕ, List, Option}
use Rattle.stn_wire.specs.declared.fault.WireFault.{WireFault}

-- the bytes of a frame that is not finished, the bytes after them that were read, how many bytes were read in all, and the
-- fault that was met
pub record Stream : Type 0 where
  pub held : List ℕ
  pub behind : List ℕ
  pub count : ℕ
  pub broken : Option WireFault
