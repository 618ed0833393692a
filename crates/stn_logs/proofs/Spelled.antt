-- The bytes that say what is known of a log.
use Rattle.std.{proofs.Common.{rules, ◌≡◌, ℕ, List, Bool, true, Option, Some, None, Ok}, specs.Prelude.IfSome}
use Rattle.stn_site.specs.Held.{Held}
use Rattle.stn_command.specs.Query.{Query, IsSaid, IsQueryRefusal}
use Rattle.stn_store.specs.{Log.{log_held, IsLog}, Look.Saw, Store.{Entry, Has, Holds, Opens}, declared.look.Look.Look}
use Rattle.stn_logs.specs.{Keeping.{asked_query, IsKeptAnswer, SawLogOf}, declared.answered.Answered.Answered}

-- a log that has them says it
pub opened_by : {entries : Option (List Entry)} {name bytes : List ℕ} {site : ℕ} {held : Held} {has : Bool}
    → IsLog bytes (Ok (log_held held)) × (held.site ≡ site) → Has entries name bytes has → has ≡ true → Opens entries name site held
opened_by said told same = search rules

-- a log whose bytes are those that were seen says it
pub opened_by_look : {A : Type 0} {entries : Option (List Entry)} {name : List ℕ} {site : ℕ} {held : Held} (look : Look A) {seen : Bool}
    → SawLogOf held look × (held.site ≡ site) → ((bytes : List ℕ) → seen ≡ true → Saw look bytes → Holds entries name (Some bytes))
    → seen ≡ true → Opens entries name site held
opened_by_look look said stands same = search rules

-- what was seen before a log was read says it
pub looked_at : {A : Type 0} {entries : Option (List Entry)} {name : List ℕ} {site : ℕ} {held : Held} (look : Option (Look A))
    → IfSome look (λ one. (bytes : List ℕ) → Holds entries name (Some bytes) → Saw one bytes) → Opens entries name site held → IfSome look (SawLogOf held)
looked_at look saw opened = search rules

-- this is what was answered
pub this_answer : {A : Type 0} {kept : Option (Answered A)} {one : Answered A} (held : Held) → kept ≡ Some one → IfSome kept (IsKeptAnswer held) → IsKeptAnswer held one
this_answer held is said = rw is at said

-- what was answered to a query is kept with it
pub answered_of : {A : Type 0} (query : Query) (held : Held) (text : List ℕ) (kept : Option (Answered A))
    → IfSome kept (λ one. (asked_query one.asked ≡ query) × (one.text.items ≡ text)) → IsSaid query held text × IsQueryRefusal query held None
    → IfSome kept (IsKeptAnswer held)
answered_of query held text kept is said = search rules
