use Rattle.std.{proofs.{Common.{ℕ, List, Some, map, option_map, refl, sym, ap, ◌∙◌}, lemmas.List.take_all}, specs.Str.bytes_eq}
use Rattle.stn_store.{specs.{Memory.entry_of, Store.bytes_under}, proofs.{Lookups.{under_this, under_earlier}, memory.MemoryStore.get.Goals.{then-eq, else-eq}}}
use Rattle.stn_store.proofs.memory.MemoryStore.get.Goals as goal

pub loop-entry-init : goal.loop-entry-init
loop-entry-init g c = refl

pub loop-entry-preserved : goal.loop-entry-preserved
loop-entry-preserved g c =
    let named = c.eq.ensures ∙ ap (λ (name : List ℕ). bytes_eq name c.args.name.now) c.as_str.ensures.value in
    elim c.if-eq.branch [
      | then-eq w ↦ ap (option_map (λ bytes. bytes.now)) w.found-is ∙ ap Some w.as_slice.ensures.value
          ∙ sym (under_this _ c.args.name.now c.loop-entry-test.true c.entry-item.is (sym named ∙ w.if-eq.true))
      | else-eq w ↦ ap (option_map (λ bytes. bytes.now)) w.found-is ∙ c.loop-entry.invariant
          ∙ sym (under_earlier _ c.args.name.now c.loop-entry-test.true c.entry-item.is (sym named ∙ w.if-eq.false))
    ]

pub returns : goal.returns
returns g c = c.loop-entry.invariant
    ∙ ap (λ all. bytes_under (map entry_of all) c.args.name.now)
    (take_all c.loop-entry.entry-index c.deref-entry-items.result.now c.loop-entry-test.false ∙ c.deref-entry-items.ensures.value)
