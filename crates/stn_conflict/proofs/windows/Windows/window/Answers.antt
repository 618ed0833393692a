use Rattle.std.{proofs.{Common.{◌≡◌, ◌<◌, pos, length, ap, subst, ◌∙◌, arith}, lemmas.List.get_or_read}, specs.Prelude.{neg_ℤ}}
use Rattle.stn_net.{specs.{Schedule.times_of, Windows.Window.IsWindow}, proofs.WindowEnds.window_of_ends}
use Rattle.stn_conflict.{specs.{Listing.ListedBounds}, proofs.Turned.tightest_of_turned}
use Rattle.stn_conflict.proofs.windows.Windows.window.Goals as goal

pub returns : goal.returns
returns g c =
    let is = c.self.inside in
    let h = c.self.invariant in
    let bounds = is.bounds.items in
    let early = is.earliest.search.far.items in
    let late = is.latest.search.far.items in
    let events = ap (λ (l : ListedBounds). l.events) c.self.view_is in
    let at : c.from-place.result ≡ c.args.event = c.from-place.ensures ∙ c.number.ensures.value in
    let in_early : c.args.event < length early = omega (arith, h.earliest_are.tables.far, c.requires, events) in
    let in_late : c.args.event < length late = omega (arith, h.latest_are.tables.far, c.requires, events) in
    let first : c.neg.result ≡ neg_ℤ (times_of early c.args.event) = c.neg.ensures ∙ ap neg_ℤ (get_or_read early _ _ (rw at in_early) c.index.ensures (pos 0) ∙ ap (times_of early) at) in
    let last : c.index-2.result.now ≡ times_of late c.args.event = get_or_read late _ _ (rw at in_late) c.index-2.ensures (pos 0) ∙ ap (times_of late) at in
    let window = window_of_ends is.bounds.items c.args.event (times_of early c.args.event) (times_of late c.args.event)
    (tightest_of_turned (h.earliest_are.far.tightest c.args.event in_early)) (h.latest_are.far.tightest c.args.event in_late) in
    rw (first, last) (subst (λ (l : ListedBounds). IsWindow l.bounds c.args.event (neg_ℤ (times_of early c.args.event)) (times_of late c.args.event)) c.self.view_is window)
