-- The items of the state that calls leave.
use Rattle.std.proofs.Common.{rules, ◌≡◌, ◌↔◌, ◌⊎◌, ℕ, false, List, [], ◌∷◌, Some}
use Rattle.stn_net.specs.Difference.{Difference}
use Rattle.stn_records.{specs.{declared.record.Record.Record, Id.SiteCounter, ContentLaws.contents_join, Content.{Content, Item, AllAmend, addition, withdrawal, replacement, HasItem, CountsSame, is_known, join_contents, one_amendment, plain, with_amendment, with_record, with_tombstone, next_counter}}, proofs.{OneItem.{record_items, tombstone_items, amendment_items as amended_items, two_items}, Counters.next_is_new}}
pub use Rattle.stn_records.proofs.OneItem.{nothing_there}
use Rattle.stn_site.{specs.{Held.Held, Calls.{Accepted, added, amended, withdrew, took, LeavesState, AllLeave, CameBy, Brought, Took, TookSame, TookSameItems}}, proofs.Counts.{counts_alike, alike_unions}}

-- a record under an id that is not known is one item more
pub addition_items : (s : Content) (id : SiteCounter) (one : Record) → is_known s id ≡ false → (item : Item) → HasItem (with_record s id one) item ↔ (HasItem s item ⊎ (item ≡ addition id one))
addition_items s id one unknown = search (rules, record_items)

-- an amendment that is joined is two items more
pub amendment_brought : (s new : Content) (id old : SiteCounter) (bound : Difference) → join_contents s (one_amendment id old bound) ≡ Some new
    → (item : Item) → HasItem new item ↔ (HasItem s item ⊎ ((item ≡ addition id (plain bound)) ⊎ (item ≡ replacement id old)))
amendment_brought s new id old bound joins item =
    let union = contents_join.union s (one_amendment id old bound) new joins item in
    search (rules, two_items)

-- an amendment under an id that is not known is two items more
pub amendment_items : (s : Content) (id old : SiteCounter) (bound : Difference) → AllAmend s → is_known s id ≡ false
    → (item : Item) → HasItem (with_amendment s id old bound) item ↔ (HasItem s item ⊎ ((item ≡ addition id (plain bound)) ⊎ (item ≡ replacement id old)))
amendment_items s id old bound amends unknown = search (rules, amended_items)

record_brought : (s new : Content) (site : ℕ) (id : SiteCounter) (one : Record) → id ≡ record { site = site; counter = next_counter s site } → new ≡ with_record s id one
    → (item : Item) → HasItem new item ↔ (HasItem s item ⊎ (item ≡ addition id one))
record_brought s new site id one next is item = search (rules, next_is_new, addition_items)

pub withdrawal_brought : (s new : Content) (id : SiteCounter) → new ≡ with_tombstone s id → (item : Item) → HasItem new item ↔ (HasItem s item ⊎ (item ≡ withdrawal id))
withdrawal_brought s new id is item = rw is (tombstone_items s id item)

-- a call leaves the items that were there and those that it brought
pub one_brought : (old : Held) (call : Accepted) (new : Content) → LeavesState old call new → (item : Item) → HasItem new item ↔ (HasItem old.state item ⊎ Brought call item)
one_brought old (added id one) new left item = search (rules, record_brought)
one_brought old (amended id replaced bound) new left item = search (rules, amendment_brought)
one_brought old (withdrew id) new left item = search (rules, withdrawal_brought)
one_brought old (took other) new left item = contents_join.union old.state other new left item

-- three parts in a row
pub regroup : {A B C N L : Type 0} → (L ↔ (N ⊎ C)) → (N ↔ (A ⊎ B)) → L ↔ (A ⊎ (B ⊎ C))
regroup last first = search rules

all_brought : (old new : Held) (calls : List Accepted) → AllLeave old calls new → (item : Item) → HasItem new.state item ↔ (HasItem old.state item ⊎ Took calls item)
all_brought old new [] same item = search rules
all_brought old new (call ∷ calls) left item =
    regroup (all_brought left.0 new calls left.2 item) (one_brought old call left.0.state left.1.state item)

-- a replica has what its calls brought
pub state_is_union : (calls : List Accepted) (held : Held) → CameBy calls held → (item : Item) → HasItem held.state item ↔ Took calls item
state_is_union calls held came item =
    let all = all_brought came.first held calls came.steps item in
    search (rules, nothing_there)

-- calls that brought the same items leave the same state
pub same_state : (ours theirs : List Accepted) (one other : Held) → CameBy ours one → CameBy theirs other → TookSameItems ours theirs → one.state ≡ other.state
same_state ours theirs one other p q same = contents_join.same one.state other.state (λ item. (
  λ h. (state_is_union theirs other q item).1 ((same item).0 ((state_is_union ours one p item).0 h)),
  λ h. (state_is_union ours one p item).1 ((same item).1 ((state_is_union theirs other q item).0 h)),
))

-- calls that brought the same additions and withdrawals leave states that count the same
pub same_counts : (ours theirs : List Accepted) (one other : Held) → CameBy ours one → CameBy theirs other → TookSame ours theirs → CountsSame one.state other.state
same_counts ours theirs one other p q same =
    (counts_alike one.state other.state).0 (alike_unions one.state other.state (Took ours) (Took theirs) (state_is_union ours one p) (state_is_union theirs other q) same)
