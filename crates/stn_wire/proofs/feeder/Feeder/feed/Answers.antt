use Rattle.std.proofs.{Common.{Err, refl, sym, ap, rules, ◌∙◌}, lemmas.Option.{none-some, same_Some}}
use Rattle.stn_wire.specs.Feeder.{FeederState}
use Rattle.stn_wire.proofs.feeder.Feeder.feed.Goals as goal

pub invariant_of-self-in-Err-Memory : goal.invariant_of-self-in-Err-Memory
invariant_of-self-in-Err-Memory g c = search rules

pub returns-in-Err-Memory : goal.returns-in-Err-Memory
returns-in-Err-Memory g c = search rules

pub returns-in-Some : goal.returns-in-Some
returns-in-Some g c =
    let was = ap (λ (s : FeederState). s.broken) (sym c.self.view_is) ∙ c.in-Some.is in
    record {
      fed = λ none. absurd (none-some _ (sym none ∙ was));
      broken = λ fault is. (ap (λ f. Err f) (same_Some _ _ (sym was ∙ is)), refl);
    }
