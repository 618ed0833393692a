-- Reading the two texts of a source.
use Rattle.std.proofs.{lemmas.Grind.common_steps, Common.{rules, ◌≡◌, ◌≢◌, ℕ, ◌<◌, ◌^◌, List, [], ◌∷◌, length, drop, Option, None, Some, sym, ap, ◌∙◌, append-nil}}
use Rattle.stn_lift.specs.PlanSource.{PlanSource, bare, files}
use Rattle.stn_wire.{specs.{Spelling.measured, Frame.{source_bytes, IsSaidSource}, Reading.{IsReadFrom, measured_then}}, proofs.Chunks.measured_cut}

-- what is read as a text after its length
abbrev pub IsTextReading : List ℕ → Option (List ℕ × List ℕ) → Type 0
IsTextReading = IsReadFrom (λ found. length found.0 < 2 ^ 32) measured_then

-- the texts of a source stand after its form
abbrev pub NoSource : List ℕ → Type 0
NoSource texts = (source : PlanSource) → IsSaidSource source → (1 ∷ texts) ≢ source_bytes source

pub no_domain : (texts : List ℕ) → IsTextReading texts None → NoSource texts
no_domain texts none (bare steps) said is = cc
no_domain texts none (files domain plan) said is = none (domain, measured plan) said.0 (ap (drop 1) is)

module _ (texts domain rest : List ℕ) (first : IsTextReading texts (Some (domain, rest))) where
  behind_domain : (d p : List ℕ) → IsSaidSource (files d p) → (1 ∷ texts) ≡ source_bytes (files d p) → rest ≡ measured p
  behind_domain d p said is = search (rules, measured_cut)

  pub no_plan : IsTextReading rest None → NoSource texts
  no_plan none (bare steps) said is = cc
  no_plan none (files d p) said is = none (p, []) said.1 (behind_domain d p said is ∙ sym (append-nil (measured p)))

  pub plan_and_more : (plan left : List ℕ) → IsTextReading rest (Some (plan, left)) → left ≢ [] → NoSource texts
  plan_and_more plan left second more h said is = search (rules, common_steps, measured_cut)
