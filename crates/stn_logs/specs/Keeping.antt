-- What a shell keeps of its log from one line to the next.
use Rattle.std.specs.Prelude.{ℕ, Bool, List, None, Ok}
use Rattle.stn_command.specs.{Query.{Query, report, foresee, repairs, IsSaid, IsQueryRefusal}, Dispatch.Choice}
use Rattle.stn_site.specs.Held.{Held}
use Rattle.stn_store.specs.{Log.{log_held, IsLog}, Look.Saw, declared.look.Look.Look}
use Rattle.stn_logs.specs.declared.answered.{AskedBefore.AskedBefore, Answered.Answered}
use Rattle.stn_logs.specs.declared.answered.AskedBefore.TheVariants as kept

-- all steps, or the starts of all
abbrev pub of_all : Bool → Choice
of_all starts = record { steps = None; starts = starts }

-- the query that was asked before
abbrev pub asked_query : AskedBefore → Query
asked_query kept.Report = report
asked_query (kept.Foresee outlook now starts) = foresee outlook now (of_all starts)
asked_query kept.Repairs = repairs

-- its answer is that of what a site holds
abbrev pub IsKeptAnswer : {A : Type 0} → Held → Answered A → Type 0
IsKeptAnswer held answered = IsSaid (asked_query answered.asked) held answered.text.items × IsQueryRefusal (asked_query answered.asked) held None

-- the bytes that were seen say what a site holds
abbrev pub SawLogOf : {A : Type 0} → Held → Look A → Type 0
SawLogOf held look = (bytes : List ℕ) × Saw look bytes × IsLog bytes (Ok (log_held held))
