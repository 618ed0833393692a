-- The events that hold the starts of steps, bound by bound.
use Rattle.std.{proofs.{lemmas.{Grind.common_steps, List.{ext_get_or, length-replicate, get_or-replicate, FromFn.{get_or-map-range_with_len, length-map-range_with_len}}}, Common.{rules, ◌≡◌, ℕ, ℤ, ◌+◌, ◌==◌, if◌then◌else◌, Option, None, List, [], ◌∷◌, ◌++◌, ◌<◌, length, take, map, get_or, replicate, refl, sym, ap, ◌∙◌, arith}}, specs.{List.range_with_len, Option.option_or}}
use Rattle.stn_net.specs.Difference.{Difference}
use Rattle.stn_chart.specs.Chart.{start_of, held_by, holder_in}

-- of three holders, the first that there is
or_chain : (a b c : Option ℕ) → option_or (option_or a b) c ≡ option_or a (option_or b c)
or_chain a b c = search rules

or_none : (a : Option ℕ) → option_or a None ≡ a
or_none a = search rules

-- the first holder of two lists of bounds
holder_append : (windows : List (ℤ × ℤ)) (step : ℕ) (xs ys : List Difference)
    → holder_in windows step (xs ++ ys) ≡ option_or (holder_in windows step xs) (holder_in windows step ys)
holder_append windows step [] ys = refl
holder_append windows step (bound ∷ xs) ys =
    cc (holder_append windows step xs ys, or_chain (held_by windows step bound) (holder_in windows step xs) (holder_in windows step ys))

-- what stands at a step after the two events of a bound were noted
pub noted_bound : (windows : List (ℤ × ℤ)) (step : ℕ) (bound : Difference) (old middle new : Option ℕ)
    → middle ≡ (if bound.from == start_of step then option_or old (held_by windows step bound) else old)
    → new ≡ (if bound.to == start_of step then option_or middle (held_by windows step bound) else middle) → new ≡ option_or old (held_by windows step bound)
noted_bound windows step bound old middle new first second = search rules

-- the first holder of one bound more
holder_more : (windows : List (ℤ × ℤ)) (step : ℕ) (bounds : List Difference) (bound : Difference)
    → holder_in windows step (bounds ++ bound ∷ []) ≡ option_or (holder_in windows step bounds) (held_by windows step bound)
holder_more windows step bounds bound = search (rules, holder_append, or_none)

-- what stands at a step after one bound more was noted
pub noted_more : (windows : List (ℤ × ℤ)) (step : ℕ) (bounds : List Difference) (place : ℕ) (bound : Difference) (front old new : Option ℕ) → place < length bounds
    → bound ≡ get_or bounds place bound → old ≡ option_or front (holder_in windows step (take place bounds)) → new ≡ option_or old (held_by windows step bound)
    → new ≡ option_or front (holder_in windows step (take (place + 1) bounds))
noted_more windows step bounds place bound front old new within is was grown = grind (arith, common_steps, or_chain, holder_more)

-- what stands at each step after the bounds of the plan and the others were noted
pub noted_all : (windows : List (ℤ × ℤ)) (base others : List Difference) (steps : ℕ) (fresh middle last : List (Option ℕ)) → fresh ≡ replicate (steps + 1) None
    → length middle ≡ length fresh → length last ≡ length middle
    → ((step : ℕ) → step < length fresh → get_or middle step None ≡ option_or (get_or fresh step None) (holder_in windows step base))
    → ((step : ℕ) → step < length middle → get_or last step None ≡ option_or (get_or middle step None) (holder_in windows step others))
    → last ≡ map (λ step. holder_in windows step (base ++ others)) (range_with_len 0 (steps + 1))
noted_all windows base others steps fresh middle last is one two first second =
    let holder : ℕ → Option ℕ = λ step. holder_in windows step (base ++ others) in
    let many : length fresh ≡ steps + 1 = ap length is ∙ length-replicate (steps + 1) None in
    let many_last : length last ≡ steps + 1 = two ∙ one ∙ many in
    ext_get_or None last (map holder (range_with_len 0 (steps + 1))) (many_last ∙ sym (length-map-range_with_len holder 0 (steps + 1)))
    (λ step within.
    let few : step < steps + 1 = omega (arith, within, many_last) in
    let none : get_or fresh step None ≡ None = ap (λ xs. get_or xs step None) is ∙ get_or-replicate (steps + 1) step None None few in
    let base_first : get_or middle step None ≡ holder_in windows step base =
    first step (omega (arith, few, many)) ∙ ap (λ o. option_or o (holder_in windows step base)) none in
    second step (omega (arith, few, many, one))
    ∙ ap (λ o. option_or o (holder_in windows step others)) base_first
    ∙ sym (holder_append windows step base others)
    ∙ sym (get_or-map-range_with_len holder 0 (steps + 1) step step None few (omega arith)))
