use Rattle.std.proofs.Common.{refl, not-le_of_lt, mul-le-mul_left}
use Rattle.stn_lift.proofs.BareSource.{sound_bare_source}
use Rattle.stn_lift.proofs.base.Base.bare.Goals as goal

pub returns-in_default-clause-limit : goal.returns-in_default-clause-limit
returns-in_default-clause-limit g c = (λ same. cc, λ many. absurd (not-le_of_lt many c.if-steps-gt-MOST_STEPS.false))

pub invariant_of-result : goal.invariant_of-result
invariant_of-result g c = record {
  counted = refl;
  listed = c.in-Ok.ensures;
  timed = λ event. rw c.new.ensures.items refl;
  sound = sound_bare_source c.if-steps-gt-MOST_STEPS.false;
}

pub returns : goal.returns
returns g c =
    let sound = sound_bare_source c.if-steps-gt-MOST_STEPS.false in
    record { made = refl; limit = (λ same. cc, λ many. absurd (not-le_of_lt many c.if-steps-gt-MOST_STEPS.false)); given = sound.based; sound = sound }

pub horizon_bounds-requires : goal.horizon_bounds-requires
horizon_bounds-requires g c = mul-le-mul_left 2 c.if-steps-gt-MOST_STEPS.false
