use Rattle.std.proofs.Common.{rules, ◌≡◌, ◌++◌, ◌<◌, length, ap, sym, ◌∙◌, arith}
use Rattle.stn_conflict.{specs.Relaxation.{row_of, IsCutAt, Searched}, proofs.Rows.{row_before, row_is}}
use Rattle.stn_conflict.proofs.graph.Graph.row.Goals as goal

pub looks_before-requires : goal.looks_before-requires
looks_before-requires g c =
    let first = c.self.invariant.stand.first.stand in
    let ordered = (first.row c.args.event (omega (arith, c.requires, ap (λ (s : Searched). s.events) c.self.view_is))).ordered in
    search (rules, row_is)

pub returns : goal.returns
returns g c =
    let s = c.self.inside in
    let rows = s.rows.now.outgoing.items in
    let there : c.args.event < length rows = omega (arith, c.requires, ap (λ (s : Searched). s.events) c.self.view_is, c.self.invariant.stand.first.stand.long) in
    let row = row_of rows c.args.event in
    let read = row_is rows there c.index-row.ensures in
    let tested : row ≡ c.deref-2.result.now = read ∙ sym c.deref-2.ensures.value in
    let sliced : row ≡ c.deref.result.now = read ∙ sym c.deref.ensures.value in
    let cut : IsCutAt row s.end c.looks_before.result = rw tested c.looks_before.ensures in
    let is = row_before s.events s.end c.args.event c.looks_before.result (s.base.now ++ s.extra.now) s.rows.now c.self.invariant (omega (arith, there, c.self.invariant.stand.first.stand.long)) cut in
    rw c.self.view_is at (rw sliced at is)
