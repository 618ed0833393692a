use Rattle.std.{proofs.{Common.{[], ◌≡◌, ◌++◌, ◌∷◌, sym, ap, subst, ◌∙◌}, lemmas.Option.same_Some}, specs.FinMap.get}
use Rattle.stn_records.{specs.{declared.record.Record.Record, Content.Content, ContentLaws.{ids_total, ids_exact}}, proofs.Gets.get_from_entries}
use Rattle.stn_net.{specs.Difference.NamesEvents, proofs.Closure.schedule_before}
use Rattle.stn_replica.{specs.Invariant.IsSettled, proofs.{Settled.settled_tightened, Sound.{settled_exact, settled_conflict}}}
use Rattle.stn_replica.proofs.matrices.tighten_by.Goals as goal

pub tighten-requires : goal.tighten-requires
tighten-requires g c =
    let found = c.get.ensures ∙ ap (λ m. get m c.args.id) (c.additions.ensures ∙ ap (λ (s : Content). s.additions) c.state.ensures.value) in
    get_from_entries ids_total ids_exact c.args.records.now.additions (λ entry. NamesEvents c.args.current.now.events entry.1.bound) c.requires.named c.args.id c.unwrap-one.result (sym found ∙ c.unwrap-one.ensures)

pub returns-then-possible-clause-settled : goal.returns-then-possible-clause-settled
returns-then-possible-clause-settled g c = λ one there bounds settled.
    let found = c.get.ensures ∙ ap (λ m. get m c.args.id) (c.additions.ensures ∙ ap (λ (s : Content). s.additions) c.state.ensures.value) in
    let same : c.unwrap-one.result ≡ one = same_Some c.unwrap-one.result one (sym c.unwrap-one.ensures ∙ found ∙ there) in
    let exact = settled_exact c.if-possible.true settled in
    subst (λ (r : Record). IsSettled (bounds ++ r.bound ∷ []) c.tighten.new.self c.tighten.result) same
    (settled_tightened bounds c.unwrap-one.result.bound (c.tighten.ensures.possible bounds exact) (c.tighten.ensures.exact bounds exact))

pub returns-else-possible-clause-settled : goal.returns-else-possible-clause-settled
returns-else-possible-clause-settled g c = λ one there bounds settled.
    subst (λ possible. IsSettled (bounds ++ one.bound ∷ []) c.args.current.now possible) (sym c.if-possible.false)
    (λ s. settled_conflict c.args.current.now c.if-possible.false settled (s.0, schedule_before bounds (one.bound ∷ []) s.0 s.1))
