use Rattle.std.proofs.{Common.{ltb, ap, subst, ◌∙◌, arith}, lemmas.Bool.{ltb-true, lt-ltb}}
use Rattle.stn_records.specs.Content.{IsSound, known_count}
use Rattle.stn_records.proofs.records.Records.is_full.Goals as goal

pub returns-clause-full : goal.returns-clause-full
returns-clause-full g c =
    let sound = subst IsSound c.self.view_is c.self.invariant in
    let told = c.knows_more_than.ensures ∙ ap (λ s. ltb 4095 (known_count s)) c.self.view_is in
    rw told (λ many. omega (arith, ltb-true 4095 _ many, sound.limited), λ full. lt-ltb 4095 _ (omega (arith, full)))
