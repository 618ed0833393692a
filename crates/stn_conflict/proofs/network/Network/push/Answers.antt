use Rattle.std.proofs.Common.{[], ◌∷◌, ◌++◌, ap, sym, subst, arith}
use Rattle.stn_net.specs.Difference.{NamesEvents}
use Rattle.stn_conflict.{specs.Listing.ListedBounds, proofs.{Relaxing.network_more, Rows.rows_longer, Searches.tables_of}}
use Rattle.stn_conflict.proofs.network.Network.push.Goals as goal

pub freshen-requires : goal.freshen-requires
freshen-requires g c =
    let t = c.self.invariant.pending.late.tables in
    let events = ap (λ (l : ListedBounds). l.events) c.self.view_is in
    record { tables = tables_of c.self.inside.latest t; named = (omega (arith, c.requires.from, events, t.far), omega (arith, c.requires.to, events, t.far)) }

pub invariant_of-self-2 : goal.invariant_of-self-2
invariant_of-self-2 g c =
    let is = c.self.inside in
    let old = c.self.invariant in
    let named : NamesEvents is.events c.args.bound = subst (λ (l : ListedBounds). NamesEvents l.events c.args.bound) (sym c.self.view_is) c.requires in
    rw c.in_ok-push.ensures.items (record {
      few = old.few;
      network = network_more old.network named;
      first = rows_longer (c.args.bound ∷ []) old.first;
      pending = c.freshen.ensures is.events is.bounds.items named old.pending;
      tables = old.tables;
    })

pub returns-clause-pushed : goal.returns-clause-pushed
returns-clause-pushed g c = rw c.in_ok-push.ensures.items (ap (λ (l : ListedBounds). record l { bounds = l.bounds ++ c.args.bound ∷ [] }) c.self.view_is)
