-- The repairs among one record more.
use Rattle.std.proofs.{Common.{rules, ◌≡◌, ℕ, ◌+◌, ◌<◌, List, [], ◌∷◌, ◌++◌, length, take, get_or, sym, ap, subst, ◌∙◌, inl, inr, ⊎_elim}, lemmas.List.take_more}
use Rattle.stn_net.specs.{Difference.Difference, Schedule.HasSchedule}
use Rattle.stn_records.specs.{Id.SiteCounter, declared.record.Record.Record}
use Rattle.stn_repairs.specs.{declared.repair.Repair.Repair, Repairs.{others, IsRepair, AreRepairs}}

module _ (base : List Difference) (live : List (SiteCounter × Record)) where
  none_more : (front : List (SiteCounter × Record)) (repairs : List Repair) (entry : SiteCounter × Record) → AreRepairs base live front repairs
      → ¬ HasSchedule (others base live entry.0) → AreRepairs base live (front ++ entry ∷ []) repairs
  none_more [] repairs entry are none = inl (none, are)
  none_more (first ∷ front) repairs entry are none =
      ⊎_elim (λ h. inl (h.0, none_more front repairs entry h.1 none)) (λ h. inr (h.0, h.1, h.2, none_more front h.1 entry h.3 none, h.4)) are

  one_more : (front : List (SiteCounter × Record)) (repairs : List Repair) (entry : SiteCounter × Record) (repair : Repair) → AreRepairs base live front repairs
      → IsRepair (others base live entry.0) entry.0 entry.1.bound repair → AreRepairs base live (front ++ entry ∷ []) (repairs ++ repair ∷ [])
  one_more [] repairs entry repair are is = search rules
  one_more (first ∷ front) repairs entry repair are is =
      ⊎_elim
      (λ h. inl (h.0, one_more front repairs entry repair h.1 is))
      (λ h. inr (h.0, h.1 ++ repair ∷ [], h.2, one_more front h.1 entry repair h.3 is, ap (λ some. some ++ repair ∷ []) h.4))
      are

  module _ (place : ℕ) (entry : SiteCounter × Record) (there : place < length live) (is_at : entry ≡ get_or live place entry) where
    next : take (place + 1) live ≡ take place live ++ entry ∷ []
    next = take_more live place entry there ∙ ap (λ (e : SiteCounter × Record). take place live ++ e ∷ []) (sym is_at)

    -- one that mends nothing
    pub repairs_pass : (repairs : List Repair) → AreRepairs base live (take place live) repairs → ¬ HasSchedule (others base live entry.0)
        → AreRepairs base live (take (place + 1) live) repairs
    repairs_pass repairs are none = subst (λ (front : List (SiteCounter × Record)). AreRepairs base live front repairs) (sym next) (none_more (take place live) repairs entry are none)

    -- one that mends
    pub repairs_grow : (repairs : List Repair) (repair : Repair) → AreRepairs base live (take place live) repairs
        → IsRepair (others base live entry.0) entry.0 entry.1.bound repair → AreRepairs base live (take (place + 1) live) (repairs ++ repair ∷ [])
    repairs_grow repairs repair are is =
        subst (λ (front : List (SiteCounter × Record)). AreRepairs base live front (repairs ++ repair ∷ [])) (sym next) (one_more (take place live) repairs entry repair are is)
