use Rattle.std.proofs.Common.{ap, subst, ◌∙◌, arith}
use Rattle.stn_records.specs.Content.{IsSound, known_count}
use Rattle.stn_records.proofs.records.Records.known.Goals as goal

pub returns : goal.returns
returns g c =
    let count = c.known.ensures ∙ ap known_count c.self.view_is in
    let sound = subst IsSound c.self.view_is c.self.invariant in
    record { count = count; most = omega (arith, count, sound.limited); sound = sound }
