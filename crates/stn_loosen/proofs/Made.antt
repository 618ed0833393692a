-- Records that are made one after the other.
use Rattle.std.proofs.{Common.{rules, ◌≡◌, ℕ, ◌+◌, ◌<◌, ◌≤◌, inr, List, [], ◌∷◌, ◌++◌, map, length, take, drop, get_or, refl, sym, ap, subst, ◌∙◌, arith, append_assoc, append-nil, length-append}, lemmas.List.{length-map, map_more, map-append, take_more, take-append-drop}}
use Rattle.stn_refusal.specs.declared.{code.Code.TheVariants.Full, failure.Failure.Failure}
use Rattle.stn_net.{specs.{Difference.Difference, Schedule.{Meets, IsSchedule, HasSchedule}}, proofs.{Closure.schedule_before, Schedules.{met_behind, schedule_with}}}
use Rattle.stn_records.specs.Content.{most_known}
use Rattle.stn_loosen.{specs.{Slack.{Slack, loose}, Making.{Loosening, made_bounds, with_more, AreMadeBehind, IsCauseOf, IsCauseWith}, Stepped.{IsCauseBehind, IsCauseIn}}, proofs.{Refused.refused_for, Lists.{in_first, in_second}, Kept.{AreKept-join, kept_schedule}}}

-- all bounds, where there are more
pub bounds_more : (made : Loosening) (more : List Difference) → made_bounds (with_more made more) ≡ made_bounds made ++ more
bounds_more made more = search (rules, append_assoc)

-- with a schedule of all bounds and more, all bounds have one
front_schedule : (made : Loosening) (more : List Difference) → HasSchedule (made_bounds (with_more made more)) → HasSchedule (made_bounds made)
front_schedule made more s = (s.0, schedule_before (made_bounds made) more s.0 (subst (λ l. IsSchedule l s.0) (bounds_more made more) s.1))

-- after the first durations the next one is made
module _ (slack : Slack) (old now : Loosening) (durations : List Difference) (place : ℕ) (duration bound : Difference) (within : place < length durations)
    (here : duration ≡ get_or durations place duration) (is : bound ≡ loose slack duration) (made : now ≡ with_more old (map (loose slack) (take place durations))) where
  pub made_more : with_more now (bound ∷ []) ≡ with_more old (map (loose slack) (take (place + 1) durations))
  made_more =
      let next : bound ≡ loose slack (get_or durations place duration) = is ∙ ap (loose slack) here in
      let more = ap (λ b. map (loose slack) (take place durations) ++ b ∷ []) next ∙ sym (map_more (loose slack) durations place duration within) in
      search (rules, append_assoc)

  pub duration_possible : HasSchedule (made_bounds (with_more old (map (loose slack) durations))) → HasSchedule (made_bounds (with_more now (bound ∷ [])))
  duration_possible possible =
      let first = map (loose slack) (take (place + 1) durations) in
      let rest = map (loose slack) (drop (place + 1) durations) in
      let parts : map (loose slack) durations ≡ first ++ rest =
      ap (map (loose slack)) (sym (take-append-drop (place + 1) durations)) ∙ map-append (loose slack) (take (place + 1) durations) (drop (place + 1) durations) in
      let whole : with_more old (map (loose slack) durations) ≡ with_more (with_more now (bound ∷ [])) rest = search (rules, append_assoc, made_more)
      in
      front_schedule (with_more now (bound ∷ [])) rest (subst (λ m. HasSchedule (made_bounds m)) whole possible)

  pub duration_room : length old.records + length durations ≤ most_known → length now.records < most_known
  duration_room few = search (rules, length-map, length-append)

pub nothing_more : (made : Loosening) → made ≡ with_more made []
nothing_more made = search rules

pub none_made : (old : Loosening) → AreMadeBehind old [] old
none_made old = ([], nothing_more old, refl)

module _ (old middle : Loosening) (first second : List Difference) (made : AreMadeBehind old first middle) where
  pub made_behind : (new : Loosening) → AreMadeBehind middle second new → AreMadeBehind old (first ++ second) new
  made_behind new other = search (rules, append_assoc, AreKept-join)

  -- what can be made after these, and more, can be made after the first
  pub possible_behind : (others : List Difference) → HasSchedule (made_bounds (with_more old (first ++ (second ++ others)))) → HasSchedule (made_bounds (with_more middle second))
  possible_behind others s =
      let front = made_bounds old in
      let whole : IsSchedule (front ++ (first ++ (second ++ others))) s.0 = subst (λ l. IsSchedule l s.0) (bounds_more old (first ++ (second ++ others))) s.1 in
      let met = met_behind front (first ++ (second ++ others)) s.0 whole in
      let here = kept_schedule front first made.0 made.2 s.0
      (schedule_with front first s.0 (schedule_before front (first ++ (second ++ others)) s.0 whole) (in_first first second others (Meets s.0) met)) in
      let there : IsSchedule (made_bounds middle) s.0 = subst (λ l. IsSchedule l s.0) (sym (ap made_bounds made.1 ∙ bounds_more old made.0)) here in
      (s.0, subst (λ l. IsSchedule l s.0) (sym (bounds_more middle second)) (schedule_with (made_bounds middle) second s.0 there (in_second first second others (Meets s.0) met)))

  pub cause_behind : (others : List Difference) (failure : Failure) → IsCauseBehind middle second failure → IsCauseBehind old (first ++ (second ++ others)) failure
  cause_behind others = search (rules, refused_for, possible_behind)

-- where all bounds have no schedule, they have none with more
pub cause_now : (made : Loosening) (others : List Difference) (failure : Failure) → IsCauseIn (made_bounds made) failure → IsCauseBehind made others failure
cause_now made others = search (rules, refused_for, front_schedule)

-- so no more can be made of these
pub cause_in : (old new : Loosening) (bounds : List Difference) → AreMadeBehind old bounds new → (failure : Failure) → IsCauseIn (made_bounds new) failure → IsCauseBehind old bounds failure
cause_in old new bounds made failure cause =
    subst (λ l. IsCauseBehind old l failure) (append-nil bounds) (cause_behind old new bounds [] made [] failure (cause_now new [] failure cause))

-- the first of some bounds were looked at, and what they stand for was made; then the next one is
module _ (stand_for : List Difference → List Difference) (join : (some others : List Difference) → stand_for (some ++ others) ≡ stand_for some ++ stand_for others)
    (old now : Loosening) (bounds : List Difference) (place : ℕ) (sofar : AreMadeBehind old (stand_for (take place bounds)) now)
    (bound : Difference) (within : place < length bounds) (here : bound ≡ get_or bounds place bound) where
  next : stand_for (take (place + 1) bounds) ≡ stand_for (take place bounds) ++ stand_for (bound ∷ [])
  next = search (rules, take_more)

  all : stand_for bounds ≡ stand_for (take place bounds) ++ (stand_for (bound ∷ []) ++ stand_for (drop (place + 1) bounds))
  all = search (rules, take-append-drop, next, append_assoc)

  pub made_next : (new : Loosening) → AreMadeBehind now (stand_for (bound ∷ [])) new → AreMadeBehind old (stand_for (take (place + 1) bounds)) new
  made_next new made = subst (λ l. AreMadeBehind old l new) (sym next) (made_behind old now (stand_for (take place bounds)) (stand_for (bound ∷ [])) sofar new made)

  pub possible_next : HasSchedule (made_bounds (with_more old (stand_for bounds))) → HasSchedule (made_bounds (with_more now (stand_for (bound ∷ []))))
  possible_next s =
      possible_behind old now (stand_for (take place bounds)) (stand_for (bound ∷ [])) sofar (stand_for (drop (place + 1) bounds))
      (subst (λ l. HasSchedule (made_bounds (with_more old l))) all s)

  pub refused_next : (failure : Failure) → IsCauseBehind now (stand_for (bound ∷ [])) failure → IsCauseBehind old (stand_for bounds) failure
  refused_next failure cause =
      subst (λ l. IsCauseBehind old l failure) (sym all)
      (cause_behind old now (stand_for (take place bounds)) (stand_for (bound ∷ [])) sofar (stand_for (drop (place + 1) bounds)) failure cause)

-- the next order is needed, and there are as many records as may be
pub order_refused : (old now : Loosening) (orders : List Difference) (place : ℕ) → AreMadeBehind old (take place orders) now → (order : Difference) → place < length orders
    → order ≡ get_or orders place order → (failure : Failure) → IsCauseOf now order failure → IsCauseWith old orders failure
order_refused old now orders place sofar order within here = refused_for Full (λ p. record {
  first = take (place + 1) orders;
  others = drop (place + 1) orders;
  parts = sym (take-append-drop (place + 1) orders);
  made = with_more now (order ∷ []);
  behind = made_next (λ l. l) (λ _ _. refl) old now orders place sofar order within here (with_more now (order ∷ [])) (order ∷ [], refl, inr (p.0, ([], refl, refl)));
  many = omega (arith, p.1, length-append now.records (order ∷ []));
})
