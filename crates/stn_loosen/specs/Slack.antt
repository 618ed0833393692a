-- By how much the duration of a step may differ from its plan.
use Rattle.std.specs.{Prelude.{ℤ, pos, ◌+ℤ◌, ◌-ℤ◌, ◌≤ℤ◌}, Int.{int_min, int_max}}
use Rattle.stn_time.specs.Time.{horizon}
use Rattle.stn_net.specs.Difference.{Difference}

-- a step may end so much earlier, and so much later, than its duration says
pub record Slack : Type 0 where
  pub early : ℤ
  pub late : ℤ

-- neither is negative
pub record IsSlack (slack : Slack) : Type 0 where
  pub early : pos 0 ≤ℤ slack.early
  pub late : pos 0 ≤ℤ slack.late

-- the least duration with slack, which is not below 0, and the greatest, which is not past the horizon
abbrev pub least : Slack → ℤ → ℤ
least slack duration = int_max (duration -ℤ slack.early) (pos 0)

abbrev pub most : Slack → ℤ → ℤ
most slack duration = int_min (duration +ℤ slack.late) horizon

-- the bound of a duration with slack
abbrev pub loose : Slack → Difference → Difference
loose slack bound = record bound { lo = least slack bound.lo; hi = most slack bound.hi }
