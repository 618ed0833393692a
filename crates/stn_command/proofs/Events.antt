-- The event that a word names.
use Rattle.std.{proofs.{Common.{rules, ◌≡◌, ◌≢◌, ℕ, ◌<◌, Bool, List, Some, None, find, refl, ap, ◌∙◌, arith, bytes_eq, get_or}, lemmas.{Slice.Eq.bytes_eq-Decides, List.{Recursion.{found_at, found_nowhere}, FromFn.{get_or-range_with_len, length-range_with_len}}, Bool.false_from_ne_true, Option.same_Some}}, specs.List.range_with_len}
use Rattle.stn_net.specs.Event.{event_text}
use Rattle.stn_command.specs.Words.{event_below}

module _ (count : ℕ) (word : List ℕ) where
  abbrev names : ℕ → Bool
  names e = bytes_eq word (event_text e)

  place : (e : ℕ) → e < count → get_or (range_with_len 0 count) e 0 ≡ e
  place e lt = search (rules, get_or-range_with_len)

  -- a word that names an event
  pub event_below-some : (event : ℕ) → event < count → word ≡ event_text event → ((e : ℕ) → e < count → word ≡ event_text e → Some event ≡ Some e) → event_below count word ≡ Some event
  unfolding event_below
  event_below-some event lt named one =
      cc (found_at (find names) names (λ e. Some e) None refl (λ _ _. refl) (range_with_len 0 count) event 0 (omega (arith, length-range_with_len 0 count)) (λ e before. let within : e < count = omega arith in ap names (place e within) ∙ false_from_ne_true (names e) (λ yes. let same = same_Some event e (one e within ((bytes_eq-Decides word (event_text e)).0 yes)) in omega (arith, same))) (ap names (place event lt) ∙ (bytes_eq-Decides word (event_text event)).1 named), place event lt)

  -- a word that names none
  pub event_below-none : ((e : ℕ) → e < count → word ≢ event_text e) → event_below count word ≡ None
  unfolding event_below
  event_below-none other =
      found_nowhere (find names) names (λ e. Some e) None refl (λ _ _. refl) (range_with_len 0 count) 0
      (λ e below.
      let within : e < count = omega (arith, length-range_with_len 0 count) in
      ap names (place e within) ∙ false_from_ne_true (names e) (λ yes. other e within ((bytes_eq-Decides word (event_text e)).0 yes)))
