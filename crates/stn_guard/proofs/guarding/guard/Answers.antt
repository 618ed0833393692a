use Rattle.std.{proofs.{Common.{◌≡◌, ℕ, ◌+◌, List, ◌++◌, length, sym, ◌∙◌, rules}, lemmas.{Bool.false≢true, List.{with_items_is, Elements.All-append}}}, specs.{Prelude.All, Vec.with_items}}
use Rattle.stn_net.{proofs.Horizons.known_first, specs.{Difference.{Difference, NamesEvents}, Schedule.HasSchedule}}
use Rattle.stn_conflict.specs.Listing.{ListedBounds}
use Rattle.stn_guard.{specs.{Owners.owner_of, Making.IsGuardOf}, proofs.{Made.{made_guard, made_windows}, Whole.{can_first, can_second, AreNamed, noted, owned, still_possible, whole_guard}, guarding.guard.{Given.Over, Goals.In-Some}}}
use Rattle.stn_guard.proofs.guarding.guard.Goals as goal

-- the windows that were found are those of the bounds, which have a schedule
record Found (events : ℕ) (bounds : List Difference) (windows : ListedBounds) : Type 0 where
  is : windows ≡ record { events = events; bounds = bounds }
  possible : HasSchedule bounds
  named : All (NamesEvents events) bounds

found : (g : Over) (c : In-Some g) → Found c.args.events (c.args.base.now ++ c.args.extra.now) c.in-Some.windows
found g c = record {
  is = rw c.in-Some.is at c.in_ok-windows.ensures.found;
  possible = rw c.in-Some.is at c.in_ok-windows.ensures.possible;
  named = All-append (NamesEvents c.args.events) c.args.base.now c.args.extra.now c.requires.base_named c.requires.extra_named;
}

pub split_shared-requires-clause-owned : goal.split_shared-requires-clause-owned
split_shared-requires-clause-owned g c = owned c.args.base.now c.requires.one_each c.requires.base_named

pub split_shared-requires-2-clause-owned : goal.split_shared-requires-2-clause-owned
split_shared-requires-2-clause-owned g c = owned c.args.extra.now c.requires.one_each c.requires.extra_named

pub note_named-requires-clause-owned : goal.note_named-requires-clause-owned
note_named-requires-clause-owned g c = owned c.args.base.now c.requires.one_each c.requires.base_named

pub note_named-requires-2-clause-owned : goal.note_named-requires-2-clause-owned
note_named-requires-2-clause-owned g c = owned c.args.extra.now c.requires.one_each c.requires.extra_named

pub split_shared-requires-clause-can : goal.split_shared-requires-clause-can
split_shared-requires-clause-can g c =
    let f = found g (goal.at.split_shared-requires-clause-can g c).In-Some in
    rw f.is (can_first (owner_of c.args.owners.now) c.args.base.now c.args.extra.now f.possible f.named)

pub split_shared-requires-2-clause-can : goal.split_shared-requires-2-clause-can
split_shared-requires-2-clause-can g c =
    let f = found g (goal.at.split_shared-requires-2-clause-can g c).In-Some in
    can_second (owner_of c.args.owners.now) c.args.base.now c.args.extra.now f.possible f.named (rw f.is at c.in_ok-split_shared.ensures)

pub named_windows-requires-clause-possible : goal.named_windows-requires-clause-possible
named_windows-requires-clause-possible g c =
    let f = found g (goal.at.named_windows-requires-clause-possible g c).In-Some in
    still_possible
    (can_second (owner_of c.args.owners.now) c.args.base.now c.args.extra.now f.possible f.named (rw f.is at c.in_ok-split_shared.ensures)) c.in_ok-split_shared-2.ensures

pub returns : goal.returns
returns g c =
    let owner = owner_of c.args.owners.now in
    let bounds = c.args.base.now ++ c.args.extra.now in
    let events = c.args.events in
    let f = found g (goal.at.returns g c).In-Some in
    let first = c.note_named.new.named in
    let second = c.note_named-2.new.named in
    let again : c.deref_mut-2.result.now ≡ first = c.deref_mut-2.ensures.value ∙ with_items_is c.in_ok-named.named first (c.note_named.ensures.one_each ∙ c.deref_mut.ensures.len) in
    let last : c.deref.result.now ≡ second = c.deref.ensures.value ∙ with_items_is (with_items c.in_ok-named.named first) second (c.note_named-2.ensures.one_each ∙ c.deref_mut-2.ensures.len) in
    let named : AreNamed owner bounds c.deref.result.now = noted owner c.args.base.now c.args.extra.now _
    (c.in_ok-named.ensures.items_if_clones_equal (λ y same. same)) c.deref_mut.ensures.value c.note_named.ensures.one_each c.note_named.ensures.named again c.note_named-2.ensures.one_each c.note_named-2.ensures.named last in
    let long : length c.deref.result.now ≡ c.split_shared-2.new.windows.events + 1 = search rules in
    let guard = c.in_ok-named_windows.field-0.items in
    let made : IsGuardOf owner events bounds guard =
    whole_guard c.args.base.now c.args.extra.now
    (rw f.is at c.in_ok-split_shared.ensures) c.in_ok-split_shared-2.ensures long named c.in_ok-named_windows.ensures in
    let begins = known_first events c.args.base.now c.args.extra.now c.requires.begins in
    record {
      none = ((λ e has. absurd (false≢true (sym e))), (λ none. absurd (none f.possible)));
      guards = made_guard owner events bounds guard (record { possible = f.possible; named = f.named; begins = begins; made = made });
      windows = made_windows owner events bounds guard (record { possible = f.possible; named = f.named; begins = begins; made = made });
      made = made;
    }
