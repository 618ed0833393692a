use Rattle.std.{proofs.Common.{◌≡◌, ◌+◌, ◌∙◌, replicate, refl, rules, arith}, specs.Prelude.pos}
use Rattle.stn_time.specs.Time.{horizon}
use Rattle.stn_conflict.proofs.Relaxing.{network_estimates}
use Rattle.stn_conflict.proofs.relaxation.Search.begin.Goals as goal

pub returns-clause-estimates : goal.returns-clause-estimates
returns-clause-estimates g c = λ bounds events long network.
    let filled = c.fill.ensures.items (λ _ e. e) in
    let counted : c.args.self.now.far.len ≡ events + 1 = search rules ∙ long in
    let items : c.fill.new.self.items ≡ replicate (events + 1) horizon = rw (counted, c.horizon.ensures) at filled in
    let place : c.from.result ≡ c.args.start = c.from.ensures ∙ c.number.ensures.value in
    let zero : c.unwrap.result ≡ pos 0 = search rules in
    network_estimates (rw (items, place, zero) refl) (omega (arith, c.requires.start)) network
