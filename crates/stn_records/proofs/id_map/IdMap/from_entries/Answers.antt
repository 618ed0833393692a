use Rattle.std.{proofs.{Common.{rules, ◌≡◌, true, sym, ap, ◌∙◌}, lemmas.{Bool.false≢true, List.Elements.All-same}}, specs.FinMap.is_sorted}
use Rattle.std.specs.FinMap as fin
use Rattle.stn_records.{specs.{Id.id_cmp, ContentLaws.{ids_total, ids_exact}}, proofs.{Entries.in_order, Gets.entries_from_get, Places.{map_of_sorted, made_is, listed_fits}, id_map.IdMap.from_entries.Goals.{else-is_rising-via-then-is_rising+else-are_fit, else-is_rising-via-else-is_rising}}}
use Rattle.stn_records.proofs.id_map.IdMap.from_entries.Goals as goal

pub invariant_of-result : goal.invariant_of-result
invariant_of-result g c =
    let sorted : is_sorted id_cmp c.args.entries.items ≡ true = ap (is_sorted id_cmp) (sym c.deref.ensures.value) ∙ c.is_rising.ensures.0 c.if-is_rising.true in
    (sorted, listed_fits g.X.MapValue.Fits c.args.entries.items c.deref-then-is_rising.result.now c.deref-then-is_rising.ensures.value sorted (c.are_fit.ensures.0 c.if-are_fit.true))

pub returns-then-are_fit-clause-made : goal.returns-then-are_fit-clause-made
returns-then-are_fit-clause-made g c = search (rules, map_of_sorted)

pub returns-then-are_fit-clause-fit : goal.returns-then-are_fit-clause-fit
returns-then-are_fit-clause-fit g c =
    let sorted : is_sorted id_cmp c.args.entries.items ≡ true = search rules in
    listed_fits g.X.MapValue.Fits c.args.entries.items c.deref-then-is_rising.result.now c.deref-then-is_rising.ensures.value sorted (c.are_fit.ensures.0 c.if-are_fit.true)

pub returns-then-are_fit-clause-all : goal.returns-then-are_fit-clause-all
returns-then-are_fit-clause-all g c m fits is = cc (made_is c.args.entries.items m (sym is))

-- a list that is refused is no map's
pub returns-else-is_rising-clause-all : goal.returns-else-is_rising-clause-all
returns-else-is_rising-clause-all g c m fits is = absurd (elim c.else-is_rising.branch [
  | else-is_rising-via-then-is_rising+else-are_fit w ↦ false≢true (sym w.if-are_fit.false ∙ w.are_fit.ensures.1 (All-same (λ e. g.X.MapValue.Fits e.1) w.deref-then-is_rising.result.now (fin.entries m) (w.deref-then-is_rising.ensures.value ∙ sym is) (entries_from_get ids_total ids_exact m (λ e. g.X.MapValue.Fits e.1) (λ q v there. fits q v there))))
  | else-is_rising-via-else-is_rising w ↦ false≢true (sym w.if-is_rising.false ∙ c.is_rising.ensures.1 (ap (is_sorted id_cmp) (c.deref.ensures.value ∙ sym is) ∙ in_order m))
])
