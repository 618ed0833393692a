use Rattle.std.{proofs.Common.{ap, ◌∙◌, filter}, specs.Set.is_member}
use Rattle.std.specs.FinMap as fin
use Rattle.stn_records.{specs.{Id.SiteCounter, Content.same_ids}, proofs.{Places.{made, made_is, wanted_entries}, Proper.retain_fits}}
use Rattle.stn_records.proofs.id_map.IdMap.part.Goals as goal

pub invariant_of-result : goal.invariant_of-result
invariant_of-result g c =
    let p = λ (id : SiteCounter). is_member same_ids c.args.wanted.now id in
    made g.X.MapValue.Fits c.in_ok-kept.field-0.items (fin.retain_keys c.args.self.now p) (c.in_ok-kept.ensures ∙ ap (filter (λ e. p e.0)) c.entries.ensures.value ∙ wanted_entries p c.args.self.now) (retain_fits g.X.MapValue.Fits c.args.self.now p c.entries.ensures.fit)

pub returns : goal.returns
returns g c =
    let p = λ (id : SiteCounter). is_member same_ids c.args.wanted.now id in
    made_is c.in_ok-kept.field-0.items (fin.retain_keys c.args.self.now p) (c.in_ok-kept.ensures ∙ ap (filter (λ e. p e.0)) c.entries.ensures.value ∙ wanted_entries p c.args.self.now)
