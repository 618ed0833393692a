use Rattle.std.{proofs.{Common.{refl, subst}, lemmas.List.Elements.All-filter}, specs.FinMap.entries}
use Rattle.stn_net.specs.Difference.{NamesEvents}
use Rattle.stn_site.specs.{Bounds.RecordsName, Growth.is_risen}
use Rattle.stn_replica.proofs.Sound.{sound_rebuilt, sound_taken, sound_taken_in_conflict}
use Rattle.stn_replica.proofs.matrices.catch_up.Goals as goal

pub returns-then-not-keeps_live-clause-sound : goal.returns-then-not-keeps_live-clause-sound
returns-then-not-keeps_live-clause-sound g c = λ source p.
    sound_rebuilt
    p (subst (λ n. RecordsName n c.args.after.now) p.current_events c.requires.named) c.rebuild.ensures.settled c.rebuild.ensures.events c.rebuild.ensures.counted

pub tighten_each-requires-clause-named : goal.tighten_each-requires-clause-named
tighten_each-requires-clause-named g c =
    rw c.between.ensures
    (All-filter (λ entry. is_risen c.args.before.now c.args.after.now entry.0) (λ entry. NamesEvents c.args.current.now.events entry.1.bound) (entries c.args.after.now.additions) c.requires.named)

pub returns-then-possible-clause-sound : goal.returns-then-possible-clause-sound
returns-then-possible-clause-sound g c = λ source p.
    sound_taken
    p c.if-possible.true (c.if-not-keeps_live.ensures.0 refl) c.requires.extends (subst (λ n. RecordsName n c.args.after.now) p.current_events c.requires.named)
    (rw c.between.ensures at c.tighten_each.ensures.settled) c.tighten_each.ensures.events c.tighten_each.ensures.counted

pub returns-else-possible-clause-sound : goal.returns-else-possible-clause-sound
returns-else-possible-clause-sound g c = λ source p.
    sound_taken_in_conflict
    p c.if-possible.false (c.if-not-keeps_live.ensures.0 refl) c.requires.extends (subst (λ n. RecordsName n c.args.after.now) p.current_events c.requires.named)
