-- When an amendment is refused, and what it leaves where it is not.
use Rattle.std.{proofs.{Common.{rules, ◌≡◌, ◌≢◌, ℕ, ◌+◌, ◌-◌, ◌≤◌, Bool, true, false, cond, Option, Some, None, is_some, sym, refl, ap, ◌∙◌, arith, ltb}, lemmas.Bool.{false≢true, or_parts}}, specs.Bool.Decides}
use Rattle.std.specs.FinMap as fin
use Rattle.stn_net.specs.Difference.{Difference}
use Rattle.stn_records.{specs.{Id.{SiteCounter, same_ids}, Maps.{differ, AgreesAt}, Refusals.{clashes, is_too_much, amendment_refusal, replace_refusal}, Content.{Content, IsSound, plain, is_known, known_count, with_amendment}}, proofs.{OneItem.amendment_again, Replaced.replaced_by_entry, Limits.amended_count}}

agreed : {X : Type 0} (same : X → X → Bool) → ((x y : X) → Decides (same x y) (x ≡ y)) → (o : Option X) (x : X) → differ same o (Some x) ≡ false → (there : X) → o ≡ Some there → there ≡ x
agreed same decides o x e there is = search rules

alike : {X : Type 0} (same : X → X → Bool) → ((x y : X) → Decides (same x y) (x ≡ y)) → (o : Option X) (x : X) → o ≡ Some x → differ same o (Some x) ≡ false
alike same decides o x is = cc ((decides x x).1 refl)

-- where nothing clashes, what is there is the amendment's
pub no_clash : (s : Content) (id old : SiteCounter) (bound : Difference) → clashes s id old bound ≡ false → AgreesAt s.additions id (plain bound) × AgreesAt s.replacements id old
no_clash s id old bound e = grind (arith, or_parts)

pub apart : (a b : SiteCounter) → a ≢ b → same_ids a b ≡ false
apart a b h = search rules

-- a chain of refusals that gives none passed each
passed : {F : Type 0} (b : Bool) (f : F) (rest : Option F) → cond b (Some f) rest ≡ None → (b ≡ false) × (rest ≡ None)
passed true f rest e = absurd (false≢true (ap is_some (sym e)))
passed false f rest e = (refl, e)

skipped : {F : Type 0} (b : Bool) (f : F) (rest : Option F) → b ≡ false → rest ≡ None → cond b (Some f) rest ≡ None
skipped b f rest p q = ap (λ t. cond t (Some f) rest) p ∙ q

-- an amendment that is not refused
pub amend_unrefused : (s : Content) (id old : SiteCounter) (bound : Difference) → amendment_refusal s id old bound ≡ None → (clashes s id old bound ≡ false) × (is_too_much s id old bound ≡ false)
amend_unrefused s id old bound e = search (rules, passed)

pub replace_unrefused : (s : Content) (id old : SiteCounter) (bound : Difference) → replace_refusal s id old bound ≡ None → (clashes s id old bound ≡ false) × (is_too_much s id old bound ≡ false)
replace_unrefused s id old bound e = search (rules, passed)

-- one that is there already is not refused
module _ (s : Content) (sound : IsSound s) (id old : SiteCounter) (bound : Difference) (there : fin.get s.additions id ≡ Some (plain bound)) (entry : fin.get s.replacements id ≡ Some old) where
  differs : same_ids id old ≡ false
  differs = search rules

  none_clashes : clashes s id old bound ≡ false
  none_clashes = search rules

  fits : is_too_much s id old bound ≡ false
  fits = search (rules, amendment_again)

  pub amend_again : amendment_refusal s id old bound ≡ None
  amend_again = search (rules, differs, none_clashes, replaced_by_entry, fits)

  pub replace_again : replace_refusal s id old bound ≡ None
  replace_again = search (rules, none_clashes, fits)

-- how many ids would be known
module _ (s : Content) (id old : SiteCounter) (bound : Difference) (other : id ≢ old) (agrees : clashes s id old bound ≡ false) where
  more : known_count (with_amendment s id old bound) ≡ known_count s + cond (is_known s old) 0 1 + cond (is_known s id) 0 1
  more = search (rules, amended_count, no_clash)

  pub too_much_told : (one other : ℕ) → one ≡ cond (is_known s old) 0 1 → other ≡ cond (is_known s id) 0 1 → one ≤ 1 → other ≤ 1 → ltb (4096 - one - other) (known_count s) ≡ is_too_much s id old bound
  too_much_told one other p q few fewer = search (rules, more)
