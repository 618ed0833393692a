use Rattle.std.proofs.Common.{sym, ap, subst, ◌∙◌}
use Rattle.std.specs.FinMap as fin
use Rattle.stn_records.{specs.Content.{Content, IsSound, with_tombstone}, proofs.{OneItem.tombstone_again, Outcomes.{left_by, tombstone_sound}}}
use Rattle.stn_records.proofs.records.Records.put_tombstone.Goals as goal

pub returns-then-contains-clause-withdrawn : goal.returns-then-contains-clause-withdrawn
returns-then-contains-clause-withdrawn g c =
    tombstone_again c.args.self.now c.args.id (ap (λ (s : Content). fin.contains_key s.tombstones c.args.id) (sym c.self.view_is) ∙ ap (λ m. fin.contains_key m c.args.id) (sym c.tombstones.ensures) ∙ sym c.contains.ensures ∙ c.if-contains.true)

pub invariant_of-self : goal.invariant_of-self
invariant_of-self g c =
    let sound = tombstone_sound c.args.self.now c.args.id (subst IsSound c.self.view_is c.self.invariant) c.requires.room in
    left_by c.withdraw.result IsSound c.self.inside.state c.withdraw.new.self (with_tombstone c.self.inside.state c.args.id) c.withdraw.ensures.withdrawn c.withdraw.ensures.kept c.self.invariant
    (subst (λ (s : Content). IsSound (with_tombstone s c.args.id)) (sym c.self.view_is) sound)
