use Rattle.std.specs.{Prelude.{ℕ, ℤ, refl}, Coded.{Coded, code_by, coded×, coded_ℕ}}
use Rattle.stn_net.specs.{Difference.Difference, Windows.Rehearsal.fixed_at}
use Rattle.stn_lift.specs.PlanSource.{PlanSource, coded_source}
use Rattle.stn_records.specs.{Content.{Content, coded_content, next_counter}, Id.SiteCounter, declared.record.{Mark.TheVariants.Done, Record.Record}}
pub use Rattle.stn_records.specs.Content.{plain}

-- what a replica holds: its site, what its plan is made from, its state, and the steps of work that its matrix counts; a site without
-- a matrix has done no work on one, so its steps are 0
pub record Held : Type 0 where
  pub site : ℕ
  pub source : PlanSource
  pub state : Content
  pub steps : ℕ

-- a replica of the plan with this state, whatever its site and its work
abbrev pub holding_state : PlanSource → Content → Held
holding_state source state = record { site = 0; source = source; state = state; steps = 0 }

-- the id of the replica's next record
abbrev pub next_id : Held → SiteCounter
next_id held = record { site = held.site; counter = next_counter held.state held.site }

-- the difference that two events and two sides make
abbrev pub difference : ℕ → ℕ → ℤ → ℤ → Difference
difference from to lo hi = record { from = from; to = to; lo = lo; hi = hi }

-- a record that the site executed an event at a time
abbrev pub executed : ℤ → ℕ → Record
executed time event = record { mark = Done; bound = fixed_at time event }

-- as its four fields
abbrev pub coded_held : Coded Held
coded_held = code_by ((ℕ × PlanSource) × (Content × ℕ)) (coded× (coded× coded_ℕ coded_source) (coded× coded_content coded_ℕ))
    (λ h. ((h.site, h.source), (h.state, h.steps)))
    (λ p. record { site = p.0.0; source = p.0.1; state = p.1.0; steps = p.1.1 }) (λ _. refl)
