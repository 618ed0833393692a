-- The visits that serving is made of.
use Rattle.std.specs.Prelude.{◌≡◌, List, [], ◌∷◌, ◌++◌, map, Option, None, Some, Result, Ok}
use Rattle.stn_device.specs.{Partner.PartnerState, Callers.CallersState}
use Rattle.stn_exchanges.specs.Connections.{Meeting, meeting, ServesSite}
use Rattle.stn_lift.specs.PlanSource.{PlanSource}
use Rattle.stn_line.specs.declared.words.SiteLog.{SiteLog}
use Rattle.stn_refusal.specs.declared.failure.Fault.{Fault}
use Rattle.stn_session.specs.declared.session.{Served.Served, ServeFault.ServeFault}

-- a visit of another site: what it was when it came and when it went, and how its session ended
pub record Visit : Type 0 where
  pub met : PartnerState
  pub gone : PartnerState
  pub answer : Result Served ServeFault

-- visits, each of which began with what the one before it left
abbrev pub AreVisits : {Others : Type 0} → (Fault → Type 0) → SiteLog → PlanSource → List Visit → Meeting Others → Meeting Others → Type 0
AreVisits Fails log source [] old new = (new.shared ≡ old.shared) × (new.out ≡ old.out)
AreVisits {Others = Others} Fails log source (visit ∷ visits) old new = (between : Meeting Others)
    × ServesSite Fails log source (meeting visit.met old.shared old.out) (meeting visit.gone between.shared between.out) (Ok visit.answer)
    × AreVisits Fails log source visits between new

-- the next of the sites that were to come made these visits, and no other one came, where they are known
abbrev pub ComeAndGo : Option CallersState → Option CallersState → List Visit → Type 0
ComeAndGo None new visits = new ≡ None
ComeAndGo (Some old) new visits = (later : List PartnerState) × (old.coming ≡ map (λ visit. visit.met) visits ++ later)
    × (new ≡ Some (record { coming = later; gone = old.gone ++ map (λ visit. visit.gone) visits }))
