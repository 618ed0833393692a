use Rattle.std.{proofs.Common.{rules, ◌≡◌}, specs.Prelude.pos}
use Rattle.stn_net.specs.Matrix.Table.{far_of}
use Rattle.stn_matrix.proofs.Coming.{past_told}
use Rattle.stn_matrix.proofs.windows.dispatch.leads.Goals as goal

pub returns : goal.returns
returns g c =
    let zero : c.unwrap-zero.result ≡ pos 0 = search rules in
    let (none, told) = past_told (far_of c.args.matrix.now c.args.event) c.args.done.now c.unwrap-zero.result c.first_before.result c.first_before.ensures.past c.first_before.ensures.none in
    (λ yes. rw zero at (none (search rules)), λ leads. (let is = told (rw zero leads) in search rules))
