use Rattle.std.proofs.Common.{◌≡◌, ◌+◌, ◌++◌, length, refl, rules, ap, ◌∙◌}
use Rattle.stn_conflict.{specs.Relaxation.IsNetwork, proofs.{Relaxing.network_of, Searches.pending_all}}
use Rattle.stn_conflict.proofs.network.Network.new.Goals as goal

pub invariant_of-result : goal.invariant_of-result
invariant_of-result g c =
    let whole : c.extend_from_slice.new.self.items ≡ c.args.base.now ++ c.args.extra.now =
    c.in_ok-extend_from_slice.ensures.items ∙ ap (λ l. l ++ c.args.extra.now) c.in_ok-bounds.ensures.items in
    let network : IsNetwork c.args.events c.extend_from_slice.new.self.items =
    rw whole (network_of c.args.base.now c.args.extra.now c.requires.begins c.requires.base_named c.requires.extra_named) in
    let long : length c.in_ok-latest.latest.far.items ≡ c.args.events + 1 = c.in_ok-latest.ensures.far ∙ ap (λ n. n + 1) c.from-2.ensures in
    let counted : c.begin.new.self.fresh.len ≡ c.args.events + 1 = search rules ∙ c.begin.ensures.tables.fresh ∙ long in
    record {
      few = c.requires.few;
      network = network;
      first = rw c.from.ensures at (c.in_ok-rows.ensures c.extend_from_slice.new.self.items);
      pending = pending_all c.args.events c.extend_from_slice.new.self.items c.begin.new.self
          (record { tables = rw long at c.begin.ensures.tables; from = c.begin.ensures.start ∙ c.origin.ensures; estimates = rw c.origin.ensures at (c.begin.ensures.estimates c.extend_from_slice.new.self.items c.args.events long network) }) network (rw counted at (c.fill.ensures.items (λ _ e. e)));
      tables = rw (← c.from-3.ensures) c.in_ok-search.ensures;
    }

pub returns : goal.returns
returns g c = rw (c.in_ok-extend_from_slice.ensures.items, c.in_ok-bounds.ensures.items) refl
