use Rattle.std.proofs.{Common.{rules, ◌≡◌, [], ◌+◌, ◌∷◌, ◌∙◌, map, sym, ap, arith, to_z, of_z, w64}, lemmas.{Int.to_z-of_z, Result.on_ok_weaker}}
use Rattle.stn_site.proofs.Printing.{appended_ok}
use Rattle.stn_loosen.{specs.{Fragile.origin_place, Stepped.as_bound}, proofs.StartBounds.{span_at, origin_at, line_made}}
use Rattle.stn_loosen.proofs.fragile.append_line.Goals as goal

pub returns : goal.returns
returns g c =
    let events = c.args.events in
    let bounds = c.args.bounds.now in
    let link = c.args.link in
    let place = c.origin_place-place.result in
    let bound = c.index-bounds-place.result in
    let span = c.index-starts-link.result in
    let is : place ≡ origin_place events link.place = c.origin_place-place.ensures ∙ ap (λ n. origin_place n link.place) c.from-events.ensures in
    let limit : to_z w64 (of_z w64 c.limit_of.result) ≡ c.limit_of.result = to_z-of_z w64 c.limit_of.result (search rules) in
    let pieces = rw (c.side_text.ensures, c.from.ensures.value, c.to.ensures.value, limit, c.limit_of.ensures) at c.in_ok-append_pieces.ensures.text in
    let movers = rw c.from-events.ensures at c.in_ok-append_movers.ensures in
    on_ok_weaker c.extend_from_slice.result (line_made events c.args.durations.now bounds (map as_bound c.args.starts.now) link (place + 1) bound (as_bound span) c.args.out.now.items _ _ _
    (ap (λ n. n + 1) is) (origin_at events bounds link.place place bound c.requires.horizon (omega (arith, c.requires.there, c.requires.counted)) is c.index-bounds-place.is)
    (sym (span_at c.args.starts.now link.place span c.requires.there c.index-starts-link.is))
    pieces movers) (appended_ok c.extend_from_slice.result c.extend_from_slice.new.self.items c.append_movers.new.out.items (10 ∷ []) c.extend_from_slice.ensures.items)
