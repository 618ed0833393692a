use Rattle.std.proofs.{Common.{◌≡◌, ◌++◌, ℕ, List, length, ap, ◌∙◌, arith}, lemmas.List.take_all}
use Rattle.stn_net.specs.Difference.{Difference}
use Rattle.stn_conflict.{specs.{declared.{arcs.Direction.Direction, windows.Ends.Ends}, Relaxation.{HasFound, IsEnds}}, proofs.Relaxing.network_of}
use Rattle.stn_conflict.proofs.windows.Windows.of.Goals as goal

-- the ends by all bounds
ends_of : {A : Type 0} {direction : Direction} {events event : ℕ} {bounds : List Difference} {ends : Ends A} → event ≡ 0 → HasFound direction events bounds event ends.rows ends.search
    → IsEnds direction events (length bounds) bounds ends
ends_of {bounds} origin h = record {
  rows_are = rw (take_all (length bounds) bounds (omega arith)) h.rows_are;
  tables = h.tables;
  start = h.start ∙ origin;
  far = rw origin at h.far;
}

pub invariant_of-result : goal.invariant_of-result
invariant_of-result g c =
    let items : c.extend_from_slice.new.self.items ≡ c.args.base.now ++ c.args.extra.now =
    c.in_ok-extend_from_slice.ensures.items ∙ ap (λ l. l ++ c.args.extra.now) c.in_ok-bounds.ensures.items in
    let given : c.len-given.result ≡ length (c.args.base.now ++ c.args.extra.now) = omega (arith, c.len-given.ensures, c.extend_from_slice.new.self.ok.0, ap length items) in
    let network = network_of c.args.base.now c.args.extra.now c.requires.begins c.requires.base_named c.requires.extra_named in
    rw (items, given) (record {
      few = c.requires.few;
      within = omega arith;
      network = rw (take_all (length (c.args.base.now ++ c.args.extra.now)) (c.args.base.now ++ c.args.extra.now) (omega arith)) network;
      named = network.named;
      single = λ place past there. absurd (omega (arith, past, there));
      latest_are = ends_of c.origin-origin.ensures (rw c.in-Some.is at c.in_ok-latest.ensures);
      earliest_are = ends_of c.origin-origin.ensures (rw c.in-Some-2.is at c.in_ok-earliest.ensures);
    })

pub returns-clause-possible : goal.returns-clause-possible
returns-clause-possible g c =
    let ends = ends_of c.origin-origin.ensures (rw c.in-Some.is at c.in_ok-latest.ensures) in
    let (time, s, at) = (ends.far.tightest 0 ends.far.start_named).attained in
    (time, s)
