-- Joins of contents, whatever a content is. `Holds content item` says that the content has the item.
use Rattle.std.specs.Prelude.{◌≡◌, Bool, ◌⊎◌, ◌↔◌, List, [], ◌∷◌, ◌++◌, Option, Some, None, option_and_then, if◌then◌else◌}

-- the join of the contents of a list, from the first on
abbrev pub join_all : {C : Type 0} → (C → C → Option C) → C → List C → Option C
join_all join first [] = Some first
join_all join first (next ∷ rest) = option_and_then (λ both. join_all join both rest) (join first next)

-- one of the contents has the item
abbrev pub HeldByOne : {C I : Type 0} → (C → I → Type 0) → List C → I → Type 0
HeldByOne Holds [] item = ⊥
HeldByOne Holds (content ∷ rest) item = Holds content item ⊎ HeldByOne Holds rest item

-- the contents of the two lists have the same items
abbrev pub SameItems : {C I : Type 0} → (C → I → Type 0) → List C → List C → Type 0
SameItems {I = I} Holds ours theirs = (item : I) → HeldByOne Holds ours item ↔ HeldByOne Holds theirs item

-- takes of contents, in some grouping: a content as it is, or what the first takes leave, which takes what the second leave
pub data GroupedTakes (C : Type 0) : Type 0 where
  alone : C → GroupedTakes C
  both : GroupedTakes C → GroupedTakes C → GroupedTakes C

-- the contents that take part, in their order
abbrev pub contents_taken : {C : Type 0} → GroupedTakes C → List C
contents_taken (alone content) = content ∷ []
contents_taken (both ours theirs) = contents_taken ours ++ contents_taken theirs

-- what the takes leave, where none of them is refused
abbrev pub outcome_of : {C : Type 0} → (C → C → Option C) → GroupedTakes C → Option C
outcome_of taken (alone content) = Some content
outcome_of taken (both ours theirs) = option_and_then (λ a. option_and_then (λ b. taken a b) (outcome_of taken theirs)) (outcome_of taken ours)

-- the content, where it passes the test
abbrev pub passing : {C : Type 0} → (C → Bool) → C → Option C
passing test content = if test content then Some content else None

-- what a take leaves: the join, where it is defined and passes the test
abbrev pub join_within : {C : Type 0} → (C → Bool) → (C → C → Option C) → C → C → Option C
join_within test join a b = option_and_then (passing test) (join a b)

-- a join is the union of the items: contents with the same items are equal, a join has the items of both, and two contents have
-- a join where some content has the items of both
pub record IsJoin {C I : Type 0} (Holds : C → I → Type 0) (join : C → C → Option C) : Type 0 where
  pub same : (c d : C) → ((item : I) → Holds c item ↔ Holds d item) → c ≡ d
  pub union : (a b c : C) → join a b ≡ Some c → (item : I) → Holds c item ↔ (Holds a item ⊎ Holds b item)
  pub defined : (a b c : C) → ((item : I) → Holds a item → Holds c item) → ((item : I) → Holds b item → Holds c item) → (d : C) × (join a b ≡ Some d)
