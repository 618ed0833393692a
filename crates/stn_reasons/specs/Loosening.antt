-- What of a plan is not robust.
use Rattle.std.specs.Prelude.{◌≡◌, ℕ, List, Result, Ok}
use Rattle.stn_lift.specs.PlanSource.{files}
use Rattle.stn_loosen.specs.{Slack.Slack, Fragile.TellsFragile}
use Rattle.stn_store.specs.{Steps.Entries, Store.Spells}
use Rattle.stn_asked.specs.declared.words.RefusedWord.{RefusedWord}

-- what is told of the plan of the texts that stand under two names, with a tolerance: what of it is not robust
pub record SaysFragile (entries : Entries) (domain plan : List ℕ) (tolerance : Result Slack RefusedWord) (text : List ℕ) : Type 0 where
  pub actions : List ℕ
  pub domain_says : Spells entries domain actions
  pub steps : List ℕ
  pub plan_says : Spells entries plan steps
  pub slack : Slack
  pub varies : tolerance ≡ Ok slack
  pub told : TellsFragile (files actions steps) slack text
