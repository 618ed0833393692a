-- For proofs alone: no public clause cites these words.
-- What is kept of a number of milliseconds of any size.
use Rattle.std.specs.Prelude.{◌≡◌, ℤ}
use Rattle.stn_time.specs.Time.{IsWithinHorizon}

-- the number kept is the number itself where either lies within the horizon
pub record IsNear (millis kept : ℤ) : Type 0 where
  pub near : IsWithinHorizon millis → kept ≡ millis
  pub far : IsWithinHorizon kept → kept ≡ millis
