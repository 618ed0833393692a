use Rattle.std.specs.Prelude.{◌≡◌, ℕ, ◌≤◌, List, decimal}
pub use Rattle.stn_text.specs.Names.{event_text}

-- a plan has at most so many steps
abbrev pub most_steps : ℕ
most_steps = 256

-- the two events of each of them
abbrev pub most_events : ℕ
most_events = 512

-- the text is the decimal form of a step's number
pub record IsStepText (text : List ℕ) (step : ℕ) : Type 0 where
  pub digits : text ≡ decimal step
  pub least : 1 ≤ step
  pub most : step ≤ most_steps
