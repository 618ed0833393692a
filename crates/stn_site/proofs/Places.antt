-- A walk over the records of a state, one after another.
use Rattle.std.{proofs.{Common.{rules, ◌≡◌, ℕ, ◌+◌, ◌<◌, List, [], ◌∷◌, ◌++◌, length, get_or, take, All}, lemmas.List.{take_more, Elements.{All-push, All-same}}}, specs.FinMap.entries}
use Rattle.stn_records.specs.{Id.SiteCounter, declared.record.Record.Record, Content.{Content, RecordMap}}

-- the records that are walked are those of the state
pub walked_are : (s held : Content) (additions : RecordMap) (items : List (SiteCounter × Record)) → items ≡ entries additions → additions ≡ held.additions → held ≡ s → items ≡ entries s.additions
walked_are s held additions items all part whole = cc

module _ {X : Type 0} where
  -- what holds of each one seen, and of the next, holds of one more
  pub seen_with : (P : X → Type 0) (all items : List X) (place : ℕ) (e : X) → items ≡ all → place < length items → e ≡ get_or items place e
      → All P (take place all) → P e → All P (take (place + 1) all)
  seen_with P all items place e same within at seen this =
      All-same P (take (place + 1) all) (take place all ++ e ∷ []) (search (rules, take_more)) (All-push P (take place all) e seen this)

  -- what holds of all holds of the next
  pub next_of : (P : X → Type 0) (all items : List X) (place : ℕ) (e : X) → items ≡ all → place < length items → e ≡ get_or items place e → All P all → P e
  next_of P all items place e same within at each = search rules
