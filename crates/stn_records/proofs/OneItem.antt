-- A content and one item more.
use Rattle.std.{proofs.{Common.{rules, ◌≡◌, ◌≢◌, ◌⊎◌, ◌↔◌, true, false, cond, Option, Some, is_some, is_eq, sym, refl, ap, ◌∙◌, inl, inr}, lemmas.Bool.{false≢true, cond_both}}, specs.{FinMap.{FinMap, get-empty, get-insert}, Cmp.{Equal-is, tied_itself}}}
use Rattle.stn_records.specs.{Content.{Content, Item, addition, withdrawal, replacement, HasItem, join_contents, no_content, plain, with_record, with_tombstone, with_amendment, one_record, one_tombstone, one_amendment}, ContentLaws.{ids_total, ids_exact, contents_join}, Id.{SiteCounter, id_cmp}, declared.record.Record.Record, Maps.AgreesAt, JoinLaws.join_is}
use Rattle.std.specs.FinMap as fin
use Rattle.stn_net.specs.Difference.{Difference}

-- what an insertion leaves of an id is the value put in, or what was there
pub inserted_value : {X : Type 0} (m : FinMap id_cmp X) (id : SiteCounter) (x : X) (q : SiteCounter) (y : X) → fin.get (fin.insert m id x) q ≡ Some y → ((q ≡ id) × (x ≡ y)) ⊎ (fin.get m q ≡ Some y)
inserted_value m id x q y e = elim (is_eq (id_cmp q id)) as (λ b. is_eq (id_cmp q id) ≡ b → cond b (Some x) (fin.get m q) ≡ Some y → ((q ≡ id) × (x ≡ y)) ⊎ (fin.get m q ≡ Some y)) [
  | true ↦ λ t f. inl (ids_exact q id ((Equal-is (id_cmp q id)).0 t), cc)
  | false ↦ λ t f. inr f
] refl (sym (get-insert ids_total m id x q) ∙ e)

pub inserted_here : {X : Type 0} (m : FinMap id_cmp X) (id : SiteCounter) (x : X) → fin.get (fin.insert m id x) id ≡ Some x
inserted_here m id x = cc (get-insert ids_total m id x id, tied_itself ids_total id)

-- and what was there stays, where the value is not another
pub kept_value : {X : Type 0} (m : FinMap id_cmp X) (id : SiteCounter) (x : X) (q : SiteCounter) (y : X) → ((z : X) → fin.get m id ≡ Some z → z ≡ x) → fin.get m q ≡ Some y → fin.get (fin.insert m id x) q ≡ Some y
kept_value m id x q y same e = get-insert ids_total m id x q ∙ elim (is_eq (id_cmp q id)) as (λ b. is_eq (id_cmp q id) ≡ b → cond b (Some x) (fin.get m q) ≡ Some y) [
  | true ↦ λ t. ap Some (sym (same y (ap (fin.get m) (sym (ids_exact q id ((Equal-is (id_cmp q id)).0 t))) ∙ e)))
  | false ↦ λ t. e
] refl

-- a map with an entry put in, whose value is not another than that of before, has that entry as an item more
put : {X : Type 0} (m : FinMap id_cmp X) (id : SiteCounter) (x : X) → AgreesAt m id x → (make : SiteCounter → X → Item) → ((q : SiteCounter) (y : X) → make q y ≡ make id x → (q ≡ id) × (y ≡ x))
    → (q : SiteCounter) (y : X) → (fin.get (fin.insert m id x) q ≡ Some y) ↔ ((fin.get m q ≡ Some y) ⊎ (make q y ≡ make id x))
put m id x agrees make only q y = search (rules, inserted_value, kept_value, inserted_here)

stays : {A B : Type 0} → ¬ B → A ↔ (A ⊎ B)
stays never = search rules

-- a content with one record, which it has or whose id is new
pub record_items : (s : Content) (id : SiteCounter) (r : Record) → AgreesAt s.additions id r → (item : Item) → HasItem (with_record s id r) item ↔ (HasItem s item ⊎ (item ≡ addition id r))
record_items s id r agrees (addition q y) = put s.additions id r agrees addition (λ q y e. (cc, cc)) q y
record_items s id r agrees (withdrawal q) = stays (λ e. cc)
record_items s id r agrees (replacement q y) = stays (λ e. cc)

-- with one withdrawn id
pub tombstone_items : (s : Content) (id : SiteCounter) (item : Item) → HasItem (with_tombstone s id) item ↔ (HasItem s item ⊎ (item ≡ withdrawal id))
tombstone_items s id (addition q y) = stays (λ e. cc)
tombstone_items s id (withdrawal q) = put s.tombstones id tt (λ z e. refl) (λ q u. withdrawal q) (λ q u e. (cc, refl)) q tt
tombstone_items s id (replacement q y) = stays (λ e. cc)

-- and with one amendment, whose record and entry it has or whose id is new
pub amendment_items : (s : Content) (id old : SiteCounter) (bound : Difference) → AgreesAt s.additions id (plain bound) → AgreesAt s.replacements id old
    → (item : Item) → HasItem (with_amendment s id old bound) item ↔ (HasItem s item ⊎ ((item ≡ addition id (plain bound)) ⊎ (item ≡ replacement id old)))
amendment_items s id old bound agrees same item = both item (record_items s id (plain bound) agrees item)
  where
    both : (item : Item) → HasItem (with_record s id (plain bound)) item ↔ (HasItem s item ⊎ (item ≡ addition id (plain bound)))
        → HasItem (with_amendment s id old bound) item ↔ (HasItem s item ⊎ ((item ≡ addition id (plain bound)) ⊎ (item ≡ replacement id old)))
    both (addition q y) first = let never : addition q y ≢ replacement id old = λ e. cc in search rules
    both (withdrawal q) first = let never : withdrawal q ≢ replacement id old = λ e. cc in search rules
    both (replacement q y) first =
        let never : replacement q y ≢ addition id (plain bound) = λ e. cc in
        let at = put s.replacements id old same replacement (λ q y e. (cc, cc)) q y in
        search rules

-- nothing has no item
nothing_at : {X : Type 0} (q : SiteCounter) (y : X) {P : Type 0} → fin.get {R = id_cmp} fin.empty q ≡ Some y → P
nothing_at q y none = absurd (false≢true (ap is_some (sym (get-empty id_cmp q) ∙ none)))

pub nothing_there : (item : Item) → ¬ HasItem no_content item
nothing_there (addition id one) there = nothing_at id one there
nothing_there (withdrawal id) there = nothing_at id tt there
nothing_there (replacement id old) there = nothing_at id old there

-- one record has one item, one withdrawn id has one, one amendment has two
pub one_addition : (id : SiteCounter) (r : Record) (item : Item) → HasItem (one_record id r) item ↔ (item ≡ addition id r)
one_addition id r item = let all = record_items no_content id r (λ z e. nothing_at id z e) item in search (rules, nothing_there)

pub one_withdrawal : (id : SiteCounter) (item : Item) → HasItem (one_tombstone id) item ↔ (item ≡ withdrawal id)
one_withdrawal id item = let all = tombstone_items no_content id item in search (rules, nothing_there)

pub two_items : (id old : SiteCounter) (bound : Difference) (item : Item) → HasItem (one_amendment id old bound) item ↔ ((item ≡ addition id (plain bound)) ⊎ (item ≡ replacement id old))
two_items id old bound item =
    let all = amendment_items no_content id old bound (λ z e. nothing_at id z e) (λ z e. nothing_at id z e) item in
    search (rules, nothing_there)

through : {A B C L : Type 0} → (L ↔ (A ⊎ B)) → (C ↔ B) → L ↔ (A ⊎ C)
through whole part = search rules

-- a content and these join to the content with them
pub record_joins : (s : Content) (id : SiteCounter) (r : Record) → AgreesAt s.additions id r → join_contents s (one_record id r) ≡ Some (with_record s id r)
record_joins s id r agrees = join_is contents_join s (one_record id r) (with_record s id r) (λ item. through (record_items s id r agrees item) (one_addition id r item))

pub tombstone_joins : (s : Content) (id : SiteCounter) → join_contents s (one_tombstone id) ≡ Some (with_tombstone s id)
tombstone_joins s id = join_is contents_join s (one_tombstone id) (with_tombstone s id) (λ item. through (tombstone_items s id item) (one_withdrawal id item))

pub amendment_joins : (s : Content) (id old : SiteCounter) (bound : Difference) → AgreesAt s.additions id (plain bound) → AgreesAt s.replacements id old → join_contents s (one_amendment id old bound) ≡ Some (with_amendment s id old bound)
amendment_joins s id old bound agrees same = join_is contents_join s (one_amendment id old bound) (with_amendment s id old bound) (λ item. through (amendment_items s id old bound agrees same item) (two_items id old bound item))

-- what is there already changes nothing
pub again : {X : Type 0} (m : FinMap id_cmp X) (id : SiteCounter) (x : X) → fin.get m id ≡ Some x → m ≡ fin.insert m id x
again m id x e = fin.same_map ids_total ids_exact m (fin.insert m id x) (λ q. sym (get-insert ids_total m id x q
    ∙ cond_both (is_eq (id_cmp q id)) (Some x) (fin.get m q) (λ o. o ≡ fin.get m q) (λ t. sym e ∙ ap (fin.get m) (sym (ids_exact q id ((Equal-is (id_cmp q id)).0 t)))) (λ t. refl)))

-- what a set has at an id that is there
pub gone : (o : Option (Unit {0})) → is_some o ≡ true → o ≡ Some tt
gone o e = search rules

pub record_again : (s : Content) (id : SiteCounter) (r : Record) → fin.get s.additions id ≡ Some r → s ≡ with_record s id r
record_again s id r e i = record s { additions = again s.additions id r e i }

pub tombstone_again : (s : Content) (id : SiteCounter) → fin.contains_key s.tombstones id ≡ true → s ≡ with_tombstone s id
tombstone_again s id there i = record s { tombstones = again s.tombstones id tt (gone (fin.get s.tombstones id) there) i }

pub amendment_again : (s : Content) (id old : SiteCounter) (bound : Difference) → fin.get s.additions id ≡ Some (plain bound) → fin.get s.replacements id ≡ Some old → s ≡ with_amendment s id old bound
amendment_again s id old bound there entry i = record s { additions = again s.additions id (plain bound) there i; replacements = again s.replacements id old entry i }
