use Rattle.std.{proofs.Common.{◌≡◌, ◌<◌, ◌==◌, ◌↔◌, ℕ, not, length, vec_len, ap, ◌∙◌, arith, rules}, specs.Prelude.IsTrue}
use Rattle.stn_wire.specs.Feeder.{FeederState}
use Rattle.stn_wire.proofs.feeder.Feeder.middle.Goals as goal

not_zero : (n : ℕ) → IsTrue (not (n == 0)) ↔ (0 < n)
not_zero n = search (rules)

pub returns : goal.returns
returns g c =
    let many : vec_len c.self.inside.held ≡ length c.args.self.now.held = omega (arith, c.self.inside.held.ok.0, ap (λ (s : FeederState). length s.held) c.self.view_is) in
    rw (c.is_empty.ensures ∙ ap (λ n. n == 0) many) (not_zero (length c.args.self.now.held))
