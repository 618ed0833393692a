-- Texts that grow by a line.
use Rattle.std.{proofs.{lemmas.{Grind.common_steps, List.{length-append, map-append, Elements.filter-append}}, Common.{rules, ◌≡◌, ℕ, ℤ, suc, ◌+◌, not, Bool, cond, if◌then◌else◌, List, [], ◌∷◌, ◌++◌, length, filter, map, drop, get_or, ◌<◌, ◌≤◌, ap, ◌∙◌, add-one, arith, append_assoc}}, specs.{List.range_with_len, Prelude.{Some, find}, Int.from_bool}}
use Rattle.stn_records.specs.Content.{Content}
use Rattle.stn_site.specs.Report.{is_done}
use Rattle.stn_text.proofs.Growing.{range_push}
use Rattle.stn_chart.specs.{declared.parts.Part.Part, Frame.{entry_at, left_after, entries_text}, Chart.{Chart, floor, floors_at}, Seen.present_floor}

-- nine pieces, joined from the right or from the left
pub regrouped : (out a b c d e f g h i : List ℕ) → out ++ (a ++ (b ++ (c ++ (d ++ (e ++ (f ++ (g ++ (h ++ i)))))))) ≡ out ++ ((((((((a ++ b) ++ c) ++ d) ++ e) ++ f) ++ g) ++ h) ++ i)
regrouped out a b c d e f g h i = simp append_assoc

first_case : (b : Bool) (x : ℕ) (rest : List ℕ) → length (cond b (x ∷ rest) rest) ≡ cond b 1 0 + length rest
first_case b x rest = search rules

-- whether the first is counted
pub one_first : (p : ℕ → Bool) (x : ℕ) (xs : List ℕ) → length (filter p (x ∷ xs)) ≡ cond (p x) 1 0 + length (filter p xs)
one_first p x xs = first_case (p x) x (filter p xs)

-- how many of one number more are so
count_more : (p : ℕ → Bool) (n : ℕ) → length (filter p (range_with_len 1 (n + 1))) ≡ length (filter p (range_with_len 1 n)) + cond (p (n + 1)) 1 0
count_more p n =
    let before = filter p (range_with_len 1 n) in
    let more : length (filter p (range_with_len 1 (n + 1))) ≡ length before + length (filter p ((n + 1) ∷ [])) =
    ap (λ events. length (filter p events)) (ap (range_with_len 1) (add-one n) ∙ range_push 1 n (n + 1) (omega arith))
    ∙ ap length (filter-append p (range_with_len 1 n) ((n + 1) ∷ [])) ∙ length-append before (filter p ((n + 1) ∷ [])) in
    omega (arith, more, one_first p (n + 1) [])

flagged : (so : Bool) → (from_bool so ≡ cond so 1 0) × (from_bool so ≤ 1)
flagged so = search rules

-- the count goes on with the next number
pub count_step : (p : ℕ → Bool) (before count one next : ℕ) → count ≡ length (filter p (range_with_len 1 before)) → count ≤ before → one ≡ from_bool (p (before + 1))
    → next ≡ count + one → (next ≡ length (filter p (range_with_len 1 (before + 1)))) × (next ≤ before + 1)
count_step p before count one next was most is grown = omega (arith, flagged, count_more)

left_case : (done : Bool) (now : ℤ) (event : ℕ) → map (floor now) (cond (not done) (event ∷ []) []) ≡ present_floor done now event
left_case done now event = search rules

-- the floors of one event more
pub floors_more : (state : Content) (now : ℤ) (n : ℕ) → floors_at state (n + 1) now ≡ floors_at state n now ++ present_floor (is_done state (n + 1)) now (n + 1)
floors_more state now n =
    let left : ℕ → Bool = λ event. not (is_done state event) in
    ap (λ events. map (floor now) (filter left events)) (ap (range_with_len 1) (add-one n) ∙ range_push 1 n (n + 1) (omega arith))
    ∙ ap (map (floor now)) (filter-append left (range_with_len 1 n) ((n + 1) ∷ []))
    ∙ map-append (floor now) (filter left (range_with_len 1 n)) (filter left ((n + 1) ∷ []))
    ∙ ap (λ more. floors_at state n now ++ more) (left_case (is_done state (n + 1)) now (n + 1))

-- the search for the first such number goes on
pub find_next : (p : ℕ → Bool) (n left more : ℕ) → left ≡ suc more
    → find p (range_with_len n left) ≡ (if p n then Some n else find p (range_with_len (n + 1) more))
find_next p n left more e = cc

-- the legend goes on with the next part
pub legend_step : (chart : Chart) (base place left next i : ℕ) (xs : List Part) (one : Part) (front old new : List ℕ) → place ≡ base → i < length xs → one ≡ get_or xs i one
    → front ≡ old ++ entries_text chart base left (drop i xs) → new ≡ old ++ entry_at chart place left one → next ≡ left_after chart left one
    → front ≡ new ++ entries_text chart base next (drop (i + 1) xs)
legend_step chart base place left next i xs one front old new same within is was grown moved = grind (arith, common_steps, add-one, append_assoc)
