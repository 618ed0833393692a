use Rattle.std.proofs.{Common.{◌≡◌, ◌+◌, [], ◌∷◌, ◌++◌, refl, sym, subst, ap, length, take, ◌∙◌, arith}, Math.Seq.take-append_seam, lemmas.{Bool.true≢false, Grind.common_steps}}
use Rattle.stn_net.specs.{Difference.NamesEvents, Schedule.HasSchedule}
use Rattle.stn_conflict.{specs.{declared.arcs.Direction.TheVariants.Forward, Listing.ListedBounds, Relaxation.{AreFirstRows, HasTables}}, proofs.{Relaxing.network_more, Rows.{first_own, rows_longer}, Searches.{pending_none, tables_of}, network.Network.take.{Given.Over, Goals.After-deref}}}
use Rattle.stn_conflict.proofs.network.Network.take.Goals as goal

-- the bound is about the events
named : (g : Over) (c : After-deref g) → NamesEvents c.self.inside.events c.args.bound
named g c = subst (λ (l : ListedBounds). NamesEvents l.events c.args.bound) (sym c.self.view_is) c.requires

-- the bounds, and it after them
longer : (g : Over) (c : After-deref g) → c.deref.result.now ≡ c.self.inside.bounds.items ++ c.args.bound ∷ []
longer g c = c.deref.ensures.value ∙ c.in_ok-push.ensures.items

pub freshen-requires : goal.freshen-requires
freshen-requires g c =
    let t = c.self.invariant.pending.late.tables in
    let events = ap (λ (l : ListedBounds). l.events) c.self.view_is in
    record { tables = tables_of c.self.inside.latest t; named = (omega (arith, c.requires.from, events, t.far), omega (arith, c.requires.to, events, t.far)) }

pub extend-fits-requires-clause-network : goal.extend-fits-requires-clause-network
extend-fits-requires-clause-network g c =
    let place = (goal.at.extend-fits-requires-clause-network g c).After-deref in
    rw (longer g place) (network_more c.self.invariant.network (named g place))

pub extend-fits-requires-clause-rows : goal.extend-fits-requires-clause-rows
extend-fits-requires-clause-rows g c =
    rw (longer g (goal.at.extend-fits-requires-clause-rows g c).After-deref) (rows_longer (c.args.bound ∷ []) c.self.invariant.first)

pub extend-fits-requires-clause-pending : goal.extend-fits-requires-clause-pending
extend-fits-requires-clause-pending g c =
    let place = (goal.at.extend-fits-requires-clause-pending g c).After-deref in
    rw (longer g place) (c.freshen.ensures c.self.inside.events c.self.inside.bounds.items (named g place) c.self.invariant.pending)

pub invariant_of-self-in-Ok-true : goal.invariant_of-self-in-Ok-true
invariant_of-self-in-Ok-true g c =
    let is = c.self.inside in
    let old = c.self.invariant in
    let place = (goal.at.invariant_of-self-in-Ok-true g c).After-deref in
    let e = rw c.deref.ensures.value at c.extend-fits.ensures in
    let exact = rw c.deref.ensures.value at (c.in-Ok-true.ensures.distances c.in-Ok-true.field-0-test) in
    record {
      few = old.few;
      network = rw c.in_ok-push.ensures.items (network_more old.network (named g place));
      first = e.rows;
      pending = pending_none is.events c.push.new.self.items c.extend-fits.new.latest e.late exact;
      tables = rw old.pending.late.tables.far at c.copy_from.ensures.tables;
    }

pub invariant_of-self-2 : goal.invariant_of-self-2
invariant_of-self-2 g c =
    let is = c.self.inside in
    let old = c.self.invariant in
    let place = (goal.at.invariant_of-self-2 g c).After-deref in
    let saved = c.copy_from.new.self in
    let again = c.copy_from-2.ensures in
    let count : c.len-count.result ≡ length is.bounds.items = omega (arith, c.len-count.ensures, is.bounds.ok.0) in
    let back : c.truncate.new.self.items ≡ is.bounds.items =
    c.truncate.ensures.items ∙ ap (take c.len-count.result) c.in_ok-push.ensures.items ∙ ap (λ n. take n (is.bounds.items ++ c.args.bound ∷ [])) count ∙ take-append_seam is.bounds.items (c.args.bound ∷ []) in
    let rows : AreFirstRows Forward is.events (is.bounds.items ++ c.args.bound ∷ []) (is.events + 1) c.extend-fits.new.rows =
    rw (longer g place) at c.extend-fits.ensures.rows in
    let kept : HasTables (is.events + 1) saved = rw old.pending.late.tables.far at c.copy_from.ensures.tables in
    rw back (record {
      few = old.few;
      network = old.network;
      first = rw (rows.faced, rows.choice, rows.stand.long) at (c.cut.ensures.rows is.bounds.items (c.args.bound ∷ []) count
          (first_own rows));
      pending = record {
        late = record {
          tables = rw kept.far at again.tables;
          from = again.start ∙ c.copy_from.ensures.start ∙ old.pending.late.from;
          estimates = rw (again.far, c.copy_from.ensures.far) old.pending.late.estimates;
        };
        relaxed = rw (again.far, again.fresh, c.copy_from.ensures.far, c.copy_from.ensures.fresh) old.pending.relaxed;
      };
      tables = kept;
    })

pub returns-in-Ok-true-clause-possible : goal.returns-in-Ok-true-clause-possible
returns-in-Ok-true-clause-possible g c =
    let place = (goal.at.returns-in-Ok-true-clause-possible g c).After-deref in
    let fits = subst HasSchedule (longer g place) (c.in-Ok-true.ensures.possible.0 c.in-Ok-true.field-0-test) in
    ((λ yes. subst (λ (l : ListedBounds). HasSchedule (l.bounds ++ c.args.bound ∷ [])) c.self.view_is fits), (λ has. refl))

pub returns-in-Ok-true-clause-refused : goal.returns-in-Ok-true-clause-refused
returns-in-Ok-true-clause-refused g c = λ refused. absurd (true≢false refused)

pub returns-clause-kept : goal.returns-clause-kept
returns-clause-kept g c = grind (arith, common_steps)

pub returns-clause-refused : goal.returns-clause-refused
returns-clause-refused g c = grind (arith, common_steps)
