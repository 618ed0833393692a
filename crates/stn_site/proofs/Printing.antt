-- The parts of a report, from what was appended.
use Rattle.std.{proofs.{Common.{rules, ◌≡◌, ℕ, ℤ, ◌+◌, Bool, IsNone, IsSome, List, ◌++◌, length, Option, Some, IfSome, sym, subst, All}, lemmas.List.length-map}, specs.{Prelude.{Result, is_ok, OnOk, OnErr, if◌then◌else◌}, List.flat_map}}
use Rattle.stn_net.specs.{Difference.{Difference, NamesEvents}, Windows.Window.IsWindow}
use Rattle.stn_lift.specs.PlanSource.{PlanSource, base_bounds}
use Rattle.stn_records.specs.{Id.SiteCounter, Content.Content}
use Rattle.stn_conflict.specs.{declared.links.Link.Link, Arcs.{weight_of, IsNegativeCycle}, Named.IsNamedCycle}
use Rattle.stn_site.specs.{Bounds.live_bounds, Names.live_ids, Lines.{window_line, conflict_line, link_line}, Report.{IsWindowLines, IsConflictPart}}

-- one more line
pub one_more_line : (bounds : List Difference) (done : ℕ → Bool) (n event : ℕ) (earliest latest : ℤ) (text : List ℕ)
    → IsWindowLines bounds done n text → event ≡ n + 1 → IsWindow bounds event earliest latest
    → IsWindowLines bounds done (n + 1) (text ++ window_line event earliest latest (done event))
one_more_line bounds done n event earliest latest text before is window = search rules

-- the same bounds name as many events
pub bounds_named : (live bounds : List Difference) (events n : ℕ) → n ≡ events → bounds ≡ live → All (NamesEvents events) live → All (NamesEvents n) bounds
bounds_named live bounds events n e is named = subst (λ k. All (NamesEvents k) bounds) (sym e) (subst (All (NamesEvents events)) (sym is) named)

-- there are as many ids as bounds
pub one_each : (state : Content) (ids : List SiteCounter) (bounds : List Difference) → ids ≡ live_ids state → bounds ≡ live_bounds state → length ids ≡ length bounds
one_each state ids bounds i b = search (rules, length-map)

-- the conflict part
pub conflict_part : (source : PlanSource) (state : Content) (base others : List Difference) (ids : List SiteCounter) (links : List Link) (sum : ℤ)
    → base ≡ base_bounds source → ids ≡ live_ids state → others ≡ live_bounds state
    → IsNamedCycle (base ++ others) links → IsNegativeCycle (base ++ others) links → sum ≡ weight_of (base ++ others) links
    → IsConflictPart source state (conflict_line sum ++ flat_map (link_line base ids others) links)
conflict_part source state base others ids links sum b i o named negative s = search rules

-- what a text that is appended whole or not at all leaves
pub appended_ok : {T E : Type 0} (r : Result T E) (new old text : List ℕ) → new ≡ (if is_ok r then old ++ text else old) → OnOk r (new ≡ old ++ text)
appended_ok r new old text is = search rules

pub kept_err : {T E : Type 0} (r : Result T E) (new old text : List ℕ) → new ≡ (if is_ok r then old ++ text else old) → OnErr r (new ≡ old)
kept_err r new old text is = search rules

-- where it is that of a vector, which has these bytes
pub appended_part : {T E : Type 0} (r : Result T E) (new old part text : List ℕ) → part ≡ text → new ≡ (if is_ok r then old ++ part else old) → (P : List ℕ → Type 0) → P text
    → OnOk r ((text : List ℕ) × P text × (new ≡ old ++ text))
appended_part r new old part text same is P holds = search rules

-- an option that is not none holds a value
pub some_if : {X : Type 0} (o : Option X) → (IsNone o → ⊥) → IsSome o
some_if o h = search rules

-- what holds of the value that an option holds
pub if_some : {X : Type 0} (o : Option X) (x : X) (P : X → Type 0) → o ≡ Some x → IfSome o P → P x
if_some o x P e h = search rules
