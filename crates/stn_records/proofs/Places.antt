-- What a search for an id finds, and what an edit at that place does.
use Rattle.std.{proofs.{lemmas.{Grind.common_steps, Float.T_from_true, List.{get_or_default, Sorted.{searchable_from_sorted, list_any-IsPermutation}, Elements.All-same}, Bool.cases_lt}, Common.{rules, ◌≡◌, ◌<◌, Bool, Equal, ℕ, suc, is_ok, true, false, cond, List, [], ◌∷◌, length, get_or, Option, Some, None, Result, Ok, Err, IfOk, IfErr, filter, sym, refl, ap, ◌∙◌, arith, All}}, specs.{List.{insert, Sorted.{IsSearchInRange, IsBinarySearchResult, IsSorted, IsPermutation}}, Cmp.tied_back, Prelude.IsTrue, Set.is_member, FinMap.{FinMap, is_sorted, put, entries-from_sorted, get-from_sorted, get-entries, entries-insert, same_entries_map, same_map, get-retain_keys, empty_of_len, len-entries, Entries.{is_sorted-where_key, find-where_key}}}}
use Rattle.std.specs.FinMap as fin
use Rattle.stn_records.{specs.{Id.{SiteCounter, id_cmp}, Sorted.{IsPlaceOf, IsGapFor, merge}, Maps.{union, AgreesAt, AllFit}, Content.same_ids, ContentLaws.{ids_total, ids_exact}}, proofs.{OneItem.again, Gets.get_from_entries, Entries.{T_true, in_order, less_back, greater_back, neighbours_rise, find_at, find_gap, put_gap, merge_entries}}}

alike : (p : SiteCounter → Bool) (q x : SiteCounter) → id_cmp q x ≡ Equal → p x ≡ p q
alike p q x t = ap p (sym (ids_exact q x t))

module _ {X : Type 0} where
  -- a binary search ends at the place of the id, or at the gap for it
  pub searched : (es : List (SiteCounter × X)) → is_sorted id_cmp es ≡ true → (id : SiteCounter) (r : Result ℕ ℕ) → IsSearchInRange r (length es) → IsBinarySearchResult (λ e. id_cmp e.0 id) es r → record { found : IfOk r (IsPlaceOf es id); absent : IfErr r (IsGapFor es id) }
  searched es sorted id (Ok at) in_range equal = record {
    found = record {
      in_range = in_range;
      found = λ entry is. find_at ids_total es sorted id at entry in_range (tied_back ids_total (get_or es at entry).0 id (equal entry)) ∙ ap (λ (e : SiteCounter × X). Some e.1) is;
    };
    absent = tt;
  }
  searched es sorted id (Err at) in_range parted =
      let both = parted (searchable_from_sorted ids_total (λ e. e.0) es id (neighbours_rise ids_total es sorted)) in
      record {
        found = tt;
        absent = record {
          in_range = in_range;
          absent = find_gap ids_total es id at (λ j d l. both.0 j d (omega arith) l) (λ j d l m. both.1 j d l m);
          inserted = λ x. put_gap ids_total es id x at in_range (λ j d l. both.0 j d (omega arith) l) (λ j d l m. both.1 j d l m);
        };
      }

  -- the map of a list in order has its entries
  pub map_of_sorted : (es : List (SiteCounter × X)) → is_sorted id_cmp es ≡ true → fin.entries (fin.from_sorted {R = id_cmp} es) ≡ es
  map_of_sorted es sorted = entries-from_sorted id_cmp es (T_from_true _ sorted)

  pub entries_of_sorted : (es : List (SiteCounter × X)) (m : FinMap id_cmp X) → is_sorted id_cmp es ≡ true → fin.from_sorted es ≡ m → fin.entries m ≡ es
  entries_of_sorted es m sorted is = cc (map_of_sorted es sorted)

  -- a list that is the entries of a map makes that map, and is in order
  pub made_is : (es : List (SiteCounter × X)) (m : FinMap id_cmp X) → es ≡ fin.entries m → fin.from_sorted es ≡ m
  made_is es m is = cc (same_entries_map _ m (map_of_sorted (fin.entries m) (in_order m)))

  pub made : (Fits : X → Type 0) (es : List (SiteCounter × X)) (m : FinMap id_cmp X) → es ≡ fin.entries m → AllFit Fits m → IsTrue (is_sorted id_cmp es) × AllFit Fits (fin.from_sorted {R = id_cmp} es)
  made Fits es m is fits = search (rules, in_order, made_is)

  -- the values of a list in order are fit in its map
  pub listed_fits : (Fits : X → Type 0) (es seen : List (SiteCounter × X)) → seen ≡ es → is_sorted id_cmp es ≡ true → All (λ e. Fits e.1) seen → AllFit Fits (fin.from_sorted {R = id_cmp} es)
  listed_fits Fits es seen read sorted all = get_from_entries ids_total ids_exact (fin.from_sorted {R = id_cmp} es) (λ e. Fits e.1) (All-same (λ e. Fits e.1) (fin.entries (fin.from_sorted {R = id_cmp} es)) seen (map_of_sorted es sorted ∙ sym read) all)

  same_listed : (es : List (SiteCounter × X)) (m : FinMap id_cmp X) → is_sorted id_cmp es ≡ true → ((id : SiteCounter) → fin.find id_cmp id es ≡ fin.get m id) → es ≡ fin.entries m
  same_listed es m sorted found =
      cc (map_of_sorted es sorted, same_map ids_total ids_exact _ m (λ id. get-from_sorted id_cmp es id (T_from_true _ sorted) ∙ found id))

  -- the merge of two maps' entries is the entries of the union
  pub union_entries : (a b : FinMap id_cmp X) → merge id_cmp (fin.entries a) (fin.entries b) ≡ fin.entries (union a b)
  union_entries a b = merge_entries ids_total ids_exact (fin.entries a) b (in_order a)

  -- and those with wanted ids are the entries that the map retains
  pub wanted_entries : (p : SiteCounter → Bool) (m : FinMap id_cmp X) → filter (λ e. p e.0) (fin.entries m) ≡ fin.entries (fin.retain_keys m p)
  wanted_entries p m = same_listed _ (fin.retain_keys m p) (T_true _ (is_sorted-where_key id_cmp p (fin.entries m) (T_from_true _ (in_order m)))) (λ id.
      find-where_key id_cmp p id (alike p id) (fin.entries m)
      ∙ ap (λ v. cond (p id) v None) (sym (get-entries m id))
      ∙ sym (get-retain_keys m p id (alike p id)))

  -- where the entries of a map were searched for an id
  module _ (m : FinMap id_cmp X) (seen : List (SiteCounter × X)) (id : SiteCounter) (at : ℕ) (read : seen ≡ fin.entries m) where
    found_in : (v : Option X) → fin.find id_cmp id seen ≡ v → fin.get m id ≡ v
    found_in v found = get-entries m id ∙ ap (fin.find id_cmp id) (sym read) ∙ found

    -- the value of the entry at the place
    pub read_at_place : (d : SiteCounter × X) → IsPlaceOf seen id at → Some (get_or seen at d).1 ≡ fin.get m id
    read_at_place d place =
        let entry = get_or seen at d in
        sym (found_in (Some entry.1) (place.found entry (get_or_default seen at entry d place.in_range)))

    -- at a gap the map has nothing
    pub none_at_gap : IsGapFor seen id at → None ≡ fin.get m id
    none_at_gap gap = sym (found_in None gap.absent)

    -- an entry that was put into its gap is in the map
    pub inserted_entries : (es now : List (SiteCounter × X)) (x : X) → IsGapFor seen id at → fin.entries m ≡ es → now ≡ insert es at (id, x) → now ≡ fin.entries (fin.insert m id x)
    inserted_entries es now x gap same is =
        is ∙ ap (λ l. insert l at (id, x)) (sym same ∙ sym read) ∙ gap.inserted x ∙ ap (put id_cmp id x) read ∙ sym (entries-insert ids_total m id x)

    -- one that is there already changes nothing
    pub there_already : (x : X) → IsPlaceOf seen id at → AgreesAt m id x → m ≡ fin.insert m id x
    there_already x place agrees =
        let there = sym (read_at_place (id, x) place) in
        again m id x (there ∙ ap Some (agrees (get_or seen at (id, x)).1 there))

-- the map of no entry
pub nothing_sorted : (X : Type 0) → (let m : FinMap id_cmp X = fin.from_sorted [] in m) ≡ fin.empty
nothing_sorted X = let m : FinMap id_cmp X = fin.from_sorted [] in empty_of_len m (len-entries m ∙ ap length (entries-from_sorted id_cmp [] tt))

pub nothing_listed : (X : Type 0) → (let m : FinMap id_cmp X = fin.empty in [] ≡ fin.entries m)
nothing_listed X = sym (map_of_sorted [] refl) ∙ ap fin.entries (nothing_sorted X)

-- an id at a place is a member, and one that is at none is not
member_at : (ids : List SiteCounter) (id : SiteCounter) (at : ℕ) → at < length ids → id_cmp (get_or ids at id) id ≡ Equal → is_member same_ids ids id ≡ true
member_at ids id at within e = grind (arith, common_steps)

no_member : (ids : List SiteCounter) (id : SiteCounter) → ((k : ℕ) → k < length ids → same_ids id (get_or ids k id) ≡ false) → is_member same_ids ids id ≡ false
no_member [] id apart = refl
no_member (x ∷ ids) id apart = cc (apart 0 (omega arith), no_member ids id (λ k l. apart (suc k) (omega arith)))

-- a binary search of ids in order finds exactly a member
pub id_searched : (ids : List SiteCounter) (id : SiteCounter) → IsSorted id_cmp ids → (r : Result ℕ ℕ) → IsSearchInRange r (length ids) → IsBinarySearchResult (λ x. id_cmp x id) ids r → is_ok r ≡ is_member same_ids ids id
id_searched ids id sorted (Ok at) in_range equal = sym (member_at ids id at in_range (equal id))
id_searched ids id sorted (Err at) in_range parted =
    let both = parted (searchable_from_sorted ids_total (λ x. x) ids id sorted) in
    search (rules, no_member, less_back, greater_back, cases_lt)

-- sorted ids are the same ids, as they are read
pub same_wanted : {X : Type 0} (es : List (SiteCounter × X)) (wanted copy sorted ids : List SiteCounter) → copy ≡ wanted → IsPermutation copy sorted → ids ≡ sorted → filter (λ e. is_member same_ids ids e.0) es ≡ filter (λ e. is_member same_ids wanted e.0) es
same_wanted es wanted copy sorted ids same moved is = search (rules, list_any-IsPermutation)
