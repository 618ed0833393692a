-- The chart of a plan and a state.
use Rattle.std.specs.Prelude.{◌≡◌, ℕ, ℤ, List, Option}
use Rattle.stn_lift.specs.PlanSource.{PlanSource}
use Rattle.stn_records.specs.Content.{Content}
use Rattle.stn_chart.specs.{Chart.{Look, AreDrawn, chart_of}, Frame.plan_text}

-- the text is the picture of bounds that have a schedule
pub record IsPlanPicture (look : Look) (names : List (List ℕ)) (source : PlanSource) (state : Content) (text : List ℕ) : Type 0 where
  pub windows : List (ℤ × ℤ)
  pub overdue : Option ℕ
  pub drawn : AreDrawn source state look.present windows overdue
  pub whole : text ≡ plan_text (chart_of look names source state windows overdue)
