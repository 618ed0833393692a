use Rattle.std.{proofs.Common.{◌≡◌, true, sym, subst, rules}, specs.Prelude.OnOk}
use Rattle.stn_guard.{specs.{Owners.{owner_of, is_shared}, Splitting.Splits}, proofs.Steps.arcs_of_one}
use Rattle.stn_guard.proofs.splitting.split_bound.Goals as goal

pub returns : goal.returns
returns g c =
    let shared : is_shared (owner_of c.args.owners.now) c.args.bound.now ≡ true = first_of (cc, search rules) in
    subst (λ arcs. OnOk c.split_sides.result (Splits arcs c.args.windows.now c.split_sides.new.windows)) (sym (arcs_of_one (owner_of c.args.owners.now) c.args.bound.now shared)) c.split_sides.ensures
