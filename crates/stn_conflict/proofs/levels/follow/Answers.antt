use Rattle.std.proofs.{Common.{rules, ◌≡◌, ℕ, Some, ◌<◌, ◌∷◌, ◌++◌, [], None, length, take, refl, sym, ap, ◌+◌, ◌∙◌, arith}, lemmas.{Bool.false≢true, List.{get_or_read, take_more, take_all}}}
use Rattle.stn_conflict.{specs.{declared.levels.Walk.Walk, Arcs.arc_of, Relaxation.IsLook, Search.{event_at, level_at, LeadsOn}}, proofs.{Tightness.link_among, levels.follow.{Given.Over, Goals.{After-from-event, After-look-item, then-leads_on+in_ok-push, else-leads_on}}, Walks.{reached_at, level_low, following_begins, following_reaches, following_passes, following_ends}}}
use Rattle.stn_conflict.proofs.levels.follow.Goals as goal

-- the event at the place
place_is : (g : Over) (c : After-from-event g) → c.from-event.result ≡ event_at c.args.walk.now.reached.items c.args.place
place_is g c = cc (get_or_read c.args.walk.now.reached.items _ _ c.requires.there c.index.ensures 0)

-- is one of those that have a level
reached : (g : Over) (c : After-from-event g) → (i : ℕ) × (c.from-event.result < length c.args.far.now) × (level_at c.args.walk.now.levels.items c.from-event.result ≡ Some i)
reached g c = reached_at c.requires.walk c.requires.there (place_is g c)

pub index-requires-2 : goal.index-requires-2
index-requires-2 g c =
    let (i, within, at) = reached g (goal.at.index-requires-2 g c).After-from-event in
    omega (arith, within, c.requires.walk.whole, c.args.walk.now.levels.ok.0)

pub unwrap-level-requires : goal.unwrap-level-requires
unwrap-level-requires g c =
    let walk = c.args.walk.now in
    let (i, within, at) = reached g (goal.at.unwrap-level-requires g c).After-from-event in
    let below : c.from-event.result < length walk.levels.items = omega (arith, within, c.requires.walk.whole) in
    rw (get_or_read walk.levels.items _ _ below c.index-2.ensures None ∙ at) refl

pub row-look-items-requires : goal.row-look-items-requires
row-look-items-requires g c =
    let (i, within, at) = reached g (goal.at.row-look-items-requires g c).After-from-event in
    omega (arith, within, c.requires.long)

pub loop-look-init : goal.loop-look-init
loop-look-init g c =
    let walk = c.args.walk.now in
    let at_place = (goal.at.loop-look-init g c).After-from-event in
    let (i, within, at) = reached g at_place in
    let below : c.from-event.result < length walk.levels.items = omega (arith, within, c.requires.walk.whole) in
    let entry = get_or_read walk.levels.items _ _ below c.index-2.ensures None in
    following_begins c.requires.walk c.requires.there (sym (place_is g at_place))
    (sym entry ∙ c.unwrap-level.ensures) refl

pub overflow_add-level : goal.overflow_add-level
overflow_add-level g c = omega (arith, level_low)

-- the look whose turn it is
looked : (g : Over) (c : After-look-item g) → IsLook c.args.graph.now.bounds c.from-event.result c.look-item.result
looked g c = search rules

pub loop-look-preserved : goal.loop-look-preserved
loop-look-preserved g c =
    let bounds = c.args.graph.now.bounds in
    let start = c.args.start in
    let event = c.from-event.result in
    let count = length c.args.far.now in
    let level = c.unwrap-level.result in
    let looks = c.row-look-items.result.now in
    let index = c.loop-look.look-index in
    let old = c.loop-look.walk in
    let new = c.if-leads_on.walk in
    let look = c.look-item.result in
    let is = looked g (goal.at.loop-look-preserved g c).After-look-item in
    let h = c.loop-look.invariant in
    let more : take (index + 1) looks ≡ take index looks ++ look ∷ [] = take_more looks index look c.loop-look-test.true ∙ ap (λ l. take index looks ++ l ∷ []) (sym c.look-item.is) in
    rw more (elim c.if-leads_on.branch [
      | then-leads_on+in_ok-push w ↦
          let leads : LeadsOn bounds start (level_at old.levels.items) look.link = rw c.deref.ensures.value at (c.leads_on.ensures.0 w.if-leads_on.true) in
          let ends = link_among bounds look.link c.requires.far.named is.there in
          let end : w.from.result ≡ look.to = w.from.ensures ∙ w.number-then-leads_on.ensures.value in
          let to : w.from.result ≡ (arc_of bounds look.link).to = end ∙ sym is.to in
          following_reaches look h leads is.from to (rw to ends.1)
          (ap (λ (v : Walk g.row.A.Denot). v.levels.items) w.walk-is)
          (ap (λ (v : Walk g.row.A.Denot). v.reached.items) w.walk-is ∙ w.in_ok-push.ensures.items ∙ ap (λ z. old.reached.items ++ z ∷ []) (sym end))
      | else-leads_on w ↦ rw w.walk-is (following_passes look h
          (λ leads. false≢true (sym w.if-leads_on.false ∙ c.leads_on.ensures.1 (rw c.deref.ensures.value leads))))
    ])

pub returns : goal.returns
returns g c =
    following_ends c.requires.whole c.row-look-items.ensures
    (rw (take_all c.loop-look.look-index c.row-look-items.result.now c.loop-look-test.false) at c.loop-look.invariant)
