use Rattle.std.proofs.Common.{◌≡◌, [], ◌∷◌, ◌++◌, subst, sym, rules}
use Rattle.stn_net.specs.{Difference.Difference, Schedule.HasSchedule, Matrix.Tightest.IsExact, Windows.Rehearsal.fixed_at}
use Rattle.stn_matrix.proofs.windows.rehearsal.fix.Goals as goal

pub returns-clause-exact : goal.returns-clause-exact
returns-clause-exact g c = λ bounds exact possible.
    let bound : c.unwrap-bound.result ≡ fixed_at c.args.time c.args.event = search rules in
    let P : Difference → Type 0 = λ b. HasSchedule (bounds ++ b ∷ []) in
    let Q : Difference → Type 0 = λ b. IsExact (bounds ++ b ∷ []) c.tighten-fits.new.self in
    rw bound at (c.tighten-fits.ensures.exact bounds exact ((c.tighten-fits.ensures.possible bounds exact).1 (subst P (sym bound) possible)))
