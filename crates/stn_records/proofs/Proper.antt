-- Which changes of a map keep its values fit.
use Rattle.std.{proofs.{Common.{rules, ◌≡◌, Bool, cond, Option, Some, None, is_some, sym, ap, ◌∙◌, ⊎_elim}, lemmas.Bool.false≢true}, specs.FinMap.{FinMap, get-empty, get-retain_keys}}
use Rattle.std.specs.FinMap as fin
use Rattle.stn_records.{specs.{Id.{SiteCounter, id_cmp}, Maps.{union, AllFit}, MapLaws.{get-union, either_value}, ContentLaws.{ids_total, ids_exact}}, proofs.OneItem.inserted_value}

retained : {X : Type 0} (b : Bool) (o : Option X) (x : X) → cond b o None ≡ Some x → o ≡ Some x
retained b o x e = search rules

pub retained_value : {X : Type 0} (m : FinMap id_cmp X) (p : SiteCounter → Bool) (id : SiteCounter) (x : X) → fin.get (fin.retain_keys m p) id ≡ Some x → fin.get m id ≡ Some x
retained_value m p id x e = retained (p id) (fin.get m id) x (sym (get-retain_keys m p id (λ k t. ap p (sym (ids_exact id k t)))) ∙ e)

module _ {X : Type 0} (Fits : X → Type 0) where
  pub empty_fits : AllFit {R = id_cmp} Fits fin.empty
  empty_fits id x e = absurd (false≢true (ap is_some (sym (get-empty id_cmp id) ∙ e)))

  pub union_fits : (a b : FinMap id_cmp X) → AllFit Fits a → AllFit Fits b → AllFit Fits (union a b)
  union_fits a b p q id x e = ⊎_elim (p id x) (q id x) (either_value (fin.get a id) (fin.get b id) x (sym (get-union ids_total ids_exact a b id) ∙ e))

  pub insert_fits : (m : FinMap id_cmp X) (id : SiteCounter) (x : X) → AllFit Fits m → Fits x → AllFit Fits (fin.insert m id x)
  insert_fits m id x p q other y e = search (rules, inserted_value)

  pub retain_fits : (m : FinMap id_cmp X) (p : SiteCounter → Bool) → AllFit Fits m → AllFit Fits (fin.retain_keys m p)
  retain_fits m p h id x e = h id x (retained_value m p id x e)
