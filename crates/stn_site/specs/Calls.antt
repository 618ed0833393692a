-- The calls that a replica accepted, the items that they brought, and what a report depends on.
use Rattle.std.specs.Prelude.{◌≡◌, ◌⊎◌, ◌↔◌, List, [], ◌∷◌, Some}
use Rattle.stn_net.specs.Difference.{Difference}
use Rattle.stn_records.specs.{declared.record.Record.Record, Id.SiteCounter, Content.{Content, Item, addition, withdrawal, replacement, HasItem, no_content, plain, one_amendment, with_record, with_amendment, with_tombstone, join_contents}}
use Rattle.stn_site.specs.Held.{Held, next_id}

-- a call that was accepted: it added a record under an id, amended an old id by a bound under an id, withdrew an id, or took in a
-- state
pub data Accepted : Type 0 where
  added : SiteCounter → Record → Accepted
  amended : SiteCounter → SiteCounter → Difference → Accepted
  withdrew : SiteCounter → Accepted
  took : Content → Accepted

-- the state that the call leaves; that of an amendment has all that was there, also what its id replaced
abbrev pub LeavesState : Held → Accepted → Content → Type 0
LeavesState old (added id one) state = (id ≡ next_id old) × (state ≡ with_record old.state id one)
LeavesState old (amended id replaced bound) state =
    (id ≡ next_id old) × (state ≡ with_amendment old.state id replaced bound) × (join_contents old.state (one_amendment id replaced bound) ≡ Some state)
LeavesState old (withdrew id) state = state ≡ with_tombstone old.state id
LeavesState old (took other) state = join_contents old.state other ≡ Some state

-- the replica that the call leaves: its site and its plan stay
pub record Leaves (old : Held) (call : Accepted) (new : Held) : Type 0 where
  pub site : new.site ≡ old.site
  pub source : new.source ≡ old.source
  pub state : LeavesState old call new.state

-- the replica that the calls leave, one after the other
abbrev pub AllLeave : Held → List Accepted → Held → Type 0
AllLeave old [] new = new ≡ old
AllLeave old (call ∷ calls) new = (next : Held) × Leaves old call next × AllLeave next calls new

-- a replica that held nothing has become this one by the calls
pub record CameBy (calls : List Accepted) (held : Held) : Type 0 where
  pub first : Held
  pub nothing : first.state ≡ no_content
  pub steps : AllLeave first calls held

-- the call brought the item: its own addition, the record and the entry of its own amendment, its own withdrawal, or one of the
-- state that it took in
abbrev pub Brought : Accepted → Item → Type 0
Brought (added id one) item = item ≡ addition id one
Brought (amended id replaced bound) item = (item ≡ addition id (plain bound)) ⊎ (item ≡ replacement id replaced)
Brought (withdrew id) item = item ≡ withdrawal id
Brought (took other) item = HasItem other item

-- one of the calls brought the item
abbrev pub Took : List Accepted → Item → Type 0
Took [] item = ⊥
Took (call ∷ calls) item = Brought call item ⊎ Took calls item

-- some of the items replaces the id: its withdrawal, or an entry with the id of another record
abbrev pub Replaces : (Item → Type 0) → SiteCounter → Type 0
Replaces Has old = Has (withdrawal old) ⊎ ((id : SiteCounter) × Has (replacement id old))

-- items count alike where they have the same additions and replace the same ids: a report depends on nothing else
pub record CountAlike (Has Have : Item → Type 0) : Type 0 where
  pub additions : (id : SiteCounter) (one : Record) → Has (addition id one) ↔ Have (addition id one)
  pub replaced : (old : SiteCounter) → Replaces Has old ↔ Replaces Have old

-- the calls of the two lists brought the same additions and withdrawals; an amendment is the addition of its record and the withdrawal
-- of the id that it replaces
abbrev pub TookSame : List Accepted → List Accepted → Type 0
TookSame ours theirs = CountAlike (Took ours) (Took theirs)

-- the calls of the two lists brought the same items
abbrev pub TookSameItems : List Accepted → List Accepted → Type 0
TookSameItems ours theirs = (item : Item) → Took ours item ↔ Took theirs item
