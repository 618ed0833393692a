-- One guard is made of bounds and owners.
use Rattle.std.{proofs.{Common.{◌≡◌, ℕ, ◌+◌, ℤ, List, [], ◌∷◌, ◌++◌, refl, sym, ap, subst, ◌∙◌}, lemmas.List.Elements.{All-head, All-tail, All-weaker}}, specs.Prelude.All}
use Rattle.stn_net.{specs.{Difference.Difference, Schedule.HasSchedule, Windows.Window.IsWindow}, proofs.WindowEnds.one_window}
use Rattle.stn_guard.{specs.{declared.splitting.Arc.Arc, Splitting.Implies, Making.{shared_arcs, window_bound, split_of, IsSplit, AreSplit, AreSharedWindows, IsGuardOf}}, proofs.{Ranges.same_in_range, Split.{split_left, are_left}, Made.arcs_implied}}

pub one_pair : {bounds : List Difference} {event : ℕ} {one other : ℤ × ℤ} → HasSchedule bounds → IsWindow bounds event one.0 one.1 → IsWindow bounds event other.0 other.1 → one ≡ other
one_pair {bounds} {event} {one} {other} possible these those =
    let same = one_window bounds event one.0 one.1 other.0 other.1 possible these those in
    let pair : (one.0, one.1) ≡ (other.0, other.1) = rw (same.0, same.1) refl in
    pair

one_split : {bounds : List Difference} {arc : Arc} {one other : List Difference} → HasSchedule bounds → IsSplit bounds arc one → IsSplit bounds arc other → one ≡ other
one_split {bounds} {arc} possible these those =
    let from = one_pair possible these.from_window those.from_window in
    let to = one_pair possible these.to_window those.to_window in
    these.split_is ∙ ap (λ pair. bounds ++ split_of arc pair these.to) from ∙ ap (λ pair. bounds ++ split_of arc those.from pair) to ∙ sym those.split_is

one_end : (arcs : List Arc) {bounds one other : List Difference} → HasSchedule bounds → All (Implies bounds) arcs → AreSplit bounds arcs one → AreSplit bounds arcs other → one ≡ other
one_end [] possible implied these those = these ∙ sym those
one_end (arc ∷ arcs) {bounds} {one} {other} possible implied these those =
    let next = those.0 in
    let same : these.0 ≡ next = one_split possible these.1 those.1 in
    let first = split_left those.1 possible (All-head (Implies bounds) arc arcs implied) in
    let still : All (Implies next) arcs = All-weaker (Implies bounds) (Implies next) (λ other given time schedule. given time (first.before time schedule)) arcs (All-tail (Implies bounds) arc arcs implied) in
    one_end arcs first.possible still (subst (λ n. AreSplit n arcs one) same these.2) those.2

one_list : {owner : ℕ → ℕ} {events : ℕ} {bounds within one other : List Difference} → HasSchedule within
    → AreSharedWindows owner events bounds within one → AreSharedWindows owner events bounds within other → one ≡ other
one_list {events} {within} possible these those =
    cc (same_in_range (λ event. window_bound event (these.ends event)) events (λ event after most. ap (window_bound event) (one_pair possible (these.true_ends event most) (those.true_ends event most))))

pub one_made : (owner : ℕ → ℕ) (events : ℕ) (bounds one other : List Difference) → HasSchedule bounds
    → IsGuardOf owner events bounds one → IsGuardOf owner events bounds other → one ≡ other
one_made owner events bounds one other possible these those =
    let implied = arcs_implied owner in
    let same : these.split ≡ those.split = one_end (shared_arcs owner bounds) possible implied these.are_split those.are_split in
    let left = are_left (shared_arcs owner bounds) those.are_split possible implied in
    one_list left.possible (subst (λ s. AreSharedWindows owner events bounds s one) same these.windows) those.windows
