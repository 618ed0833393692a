use Rattle.std.{proofs.{Common.{[], ◌∷◌, ◌++◌, ap, ◌∙◌, arith}, lemmas.{Int.ints, Result.IfOk-weaker, List.Elements.All-head}}, specs.Prelude.{◌-ℤ◌, ◌<ℤ◌}}
use Rattle.stn_conflict.specs.Listing.{ListedBounds}
use Rattle.stn_guard.{specs.{Making.{split_time, window_bound}, Splitting.{LeavesTime, NamesEnds}}, proofs.{Restricting.{both_possible, first_possible, leaves_known, nothing_to_split, two_to_split}, splitting.split.{Given.Over, Goals.After-middle}}}
use Rattle.stn_guard.proofs.splitting.split.Goals as goal

pub window-from-requires : goal.window-from-requires
window-from-requires g c = (All-head (NamesEnds c.args.windows.now.events) c.args.arc [] c.requires.named).from_within

pub window-to-requires : goal.window-to-requires
window-to-requires g c = (All-head (NamesEnds c.args.windows.now.events) c.args.arc [] c.requires.named).to_within

pub window_bound-requires-clause-beside : goal.window_bound-requires-clause-beside
window_bound-requires-clause-beside g c = (All-head (NamesEnds c.args.windows.now.events) c.args.arc [] c.requires.named).to_beside

pub window_bound-requires-clause-within : goal.window_bound-requires-clause-within
window_bound-requires-clause-within g c = rw c.events-events.ensures (All-head (NamesEnds c.args.windows.now.events) c.args.arc [] c.requires.named).to_within

pub window_bound-requires-2-clause-beside : goal.window_bound-requires-2-clause-beside
window_bound-requires-2-clause-beside g c = (All-head (NamesEnds c.args.windows.now.events) c.args.arc [] c.requires.named).from_beside

pub returns-then-get : goal.returns-then-get
returns-then-get g c =
    nothing_to_split c.args.arc c.args.windows.now c.window-from.result c.window-to.result c.requires c.window-from.ensures c.window-to.ensures
    (omega (arith, ints))

pub middle-requires : goal.middle-requires
middle-requires g c =
    leaves_known c.args.arc c.args.windows.now c.window-from.result c.window-to.result c.requires c.window-from.ensures c.window-to.ensures
    (omega (arith, ints))

-- the windows don't imply the arc
wider : (g : Over) (c : After-middle g) → c.args.arc.weight <ℤ (c.window-to.result.1 -ℤ c.window-from.result.0)
wider g c = omega (arith, ints)

leaves : (g : Over) (c : After-middle g) → LeavesTime c.args.arc c.window-from.result c.window-to.result (split_time c.args.arc c.window-from.result c.window-to.result)
leaves g c = leaves_known c.args.arc c.args.windows.now c.window-from.result c.window-to.result c.requires c.window-from.ensures c.window-to.ensures (wider g c)

pub window_bound-requires-clause-ordered : goal.window_bound-requires-clause-ordered
window_bound-requires-clause-ordered g c =
    let l = leaves g (goal.at.window_bound-requires-clause-ordered g c).After-middle in
    omega (arith, ints, l.to_first, c.middle.ensures.latest)

pub narrow-requires-clause-possible : goal.narrow-requires-clause-possible
narrow-requires-clause-possible g c =
    rw (c.window_bound.ensures.made, c.middle.ensures.latest)
    (first_possible c.args.arc c.args.windows.now c.window-from.result c.window-to.result c.requires c.window-from.ensures c.window-to.ensures (wider g (goal.at.narrow-requires-clause-possible g c).After-middle))

pub window_bound-requires-2-clause-within : goal.window_bound-requires-2-clause-within
window_bound-requires-2-clause-within g c = rw c.events-events.ensures (All-head (NamesEnds c.args.windows.now.events) c.args.arc [] c.requires.named).from_within

pub window_bound-requires-2-clause-ordered : goal.window_bound-requires-2-clause-ordered
window_bound-requires-2-clause-ordered g c =
    let l = leaves g (goal.at.window_bound-requires-2-clause-ordered g c).After-middle in
    omega (arith, ints, l.from_last, c.middle.ensures.earliest)

pub narrow-requires-2-clause-possible : goal.narrow-requires-2-clause-possible
narrow-requires-2-clause-possible g c =
    rw (c.in_ok-narrow.ensures.narrowed, c.window_bound.ensures.made, c.window_bound-2.ensures.made, c.middle.ensures.latest, c.middle.ensures.earliest)
    (both_possible c.args.arc c.args.windows.now c.window-from.result c.window-to.result c.requires c.window-from.ensures c.window-to.ensures (wider g (goal.at.narrow-requires-2-clause-possible g c).After-middle))

pub returns : goal.returns
returns g c =
    let old = c.args.windows.now in
    let middle = rw (c.window_bound.ensures.made, c.middle.ensures.latest) at c.in_ok-narrow.ensures.narrowed in
    IfOk-weaker c.narrow-2.result _ _ (λ _ last. two_to_split c.args.arc old c.window-from.result c.window-to.result c.requires c.window-from.ensures c.window-to.ensures (wider g (goal.at.returns g c).After-middle)
    (ap (λ (l : ListedBounds). l.events) last ∙ ap (λ (l : ListedBounds). l.events) middle)
    (ap (λ (l : ListedBounds). l.bounds) last ∙ ap (λ (l : ListedBounds). l.bounds ++ window_bound c.args.arc.from (split_time c.args.arc c.window-from.result c.window-to.result -ℤ c.args.arc.weight, c.window-from.result.1) ∷ []) middle))
    (rw (c.window_bound-2.ensures.made, c.middle.ensures.earliest) at c.narrow-2.ensures.narrowed)
