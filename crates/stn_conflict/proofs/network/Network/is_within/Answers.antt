use Rattle.std.proofs.{Common.{SFits, ◌≡◌, ℕ, ℤ, List, to_z, of_z, w64, arith}, lemmas.Int.{ints, to_z-of_z}}
use lib.Signed.{le_z}
use Rattle.stn_time.specs.Time.{IsWithinHorizon}
use Rattle.stn_net.specs.{Difference.Difference, Matrix.Tightest.IsTightest}
use Rattle.stn_conflict.specs.Distances.{TellsWithin}
use Rattle.stn_conflict.proofs.network.Network.is_within.Goals as goal

-- the tightest difference tells it
told : (bounds : List Difference) (from to : ℕ) (most far got : ℤ) → IsTightest bounds from to far → got ≡ far → IsWithinHorizon got → SFits w64 most
    → TellsWithin bounds from to most (le_z (to_z w64 (of_z w64 got)) (to_z w64 (of_z w64 most)))
told bounds from to most far got tightest is within fits =
    let (other, other_is, other_at) = tightest.attained in
    rw (to_z-of_z w64 most fits) (record {
      possible = (other, other_is);
      within = (
        λ yes time s. (let below = tightest.bound time s in omega (arith, ints)),
        λ all. (let below = all other other_is in grind (arith, ints)),
      );
    })

pub returns-in-Some-2-clause-told : goal.returns-in-Some-2-clause-told
returns-in-Some-2-clause-told g c =
    told c.args.self.now.bounds c.args.from c.args.to c.args.most c.in-Some-2.far c.get.result
    (rw c.latest_apart.ensures.same at (rw c.in-Some-2.is at c.in_ok-far.ensures.found)) c.get.ensures.value c.get.ensures.within c.ranges.most
