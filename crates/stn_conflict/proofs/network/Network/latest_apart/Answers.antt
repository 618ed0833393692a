use Rattle.std.proofs.{Common.{◌≡◌, ℕ, ℤ, List, ◌+◌, ◌≤◌, ◌-ℤ◌, w64, of_z, to_z, pos, true, get_or, length, replicate, rules, ap, subst, ◌∙◌, arith}, lemmas.{Int.ints, List.get_or_default}}
use Rattle.stn_time.specs.Time.{IsWithinHorizon}
use Rattle.stn_net.specs.{Schedule.times_of, Ranges.CanBeApart}
use Rattle.stn_conflict.{specs.{Listing.ListedBounds, Relaxation.AreDistances}, proofs.{Relaxing.distances_taken, Searches.{pending_all, pending_none}}}
use Rattle.stn_conflict.proofs.network.Network.latest_apart.Goals as goal

-- an estimate that the code reads
read : (far : List ℤ) (size events event place : ℕ) (found default : ℤ) → length far ≡ size + 1 → size ≡ events → event ≤ events → place ≡ event
    → found ≡ get_or far place default → found ≡ times_of far event
read far size events event place found default long same within at is =
    is ∙ ap (λ k. get_or far k default) at ∙ get_or_default far event default (pos 0) (omega arith)

-- the difference that the code computes
difference : (end begin x y : ℤ) → end ≡ x → begin ≡ y → IsWithinHorizon end → IsWithinHorizon begin
    → (x -ℤ y) ≡ to_z w64 (of_z w64 (to_z w64 (of_z w64 end) -ℤ to_z w64 (of_z w64 begin)))
difference end begin x y end_is begin_is end_within begin_within = omega (arith, ints)

pub invariant_of-self-then-not-branch : goal.invariant_of-self-then-not-branch
invariant_of-self-then-not-branch g c =
    let is = c.self.inside in
    let old = c.self.invariant in
    let e = rw c.deref.ensures.value at c.extend.ensures in
    let counted : c.extend.new.latest.fresh.len ≡ is.events + 1 = search rules ∙ e.late.tables.fresh in
    let filled : c.fill.new.self.items ≡ replicate (is.events + 1) true = rw counted at (c.fill.ensures.items (λ _ e. e)) in
    record { few = old.few; network = old.network; first = e.rows; pending = pending_all is.events is.bounds.items c.extend.new.latest e.late old.network filled; tables = old.tables }

pub invariant_of-self-2 : goal.invariant_of-self-2
invariant_of-self-2 g c =
    let is = c.self.inside in
    let old = c.self.invariant in
    let e = rw c.deref.ensures.value at c.extend.ensures in
    let exact = rw c.deref.ensures.value at (c.in_ok-extend.ensures.distances c.if-not-branch.false) in
    record { few = old.few; network = old.network; first = e.rows; pending = pending_none is.events is.bounds.items c.extend.new.latest e.late exact; tables = old.tables }

pub returns-clause-taken : goal.returns-clause-taken
returns-clause-taken g c =
    let far = c.extend.new.latest.far.items in
    let bounds = c.args.self.now.bounds in
    let whole : c.deref.result.now ≡ bounds = c.deref.ensures.value ∙ ap (λ (l : ListedBounds). l.bounds) c.self.view_is in
    let exact : AreDistances bounds 0 far = rw whole at (c.in_ok-extend.ensures.distances c.if-not-branch.false) in
    let long : length far ≡ c.self.inside.events + 1 = c.extend.ensures.late.tables.far in
    let events : c.self.inside.events ≡ c.args.self.now.events = ap (λ (l : ListedBounds). l.events) c.self.view_is in
    let end = c.get-end.ensures.value ∙ read far _ _ c.args.to _ _ c.index.result.now long events c.requires.to (c.from.ensures ∙ c.number.ensures.value) c.index.ensures in
    let begin = c.get.ensures.value ∙ read far _ _ c.args.from _ _ c.index-2.result.now long events c.requires.from (c.from-2.ensures ∙ c.number-2.ensures.value) c.index-2.ensures in
    subst (CanBeApart bounds c.args.from c.args.to) (difference c.get-end.result c.get.result _ _ end begin c.get-end.ensures.within c.get.ensures.within) (distances_taken {far = far} {from = c.args.from} {to = c.args.to} exact)
