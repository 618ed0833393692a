use Rattle.std.proofs.{Common.{◌≡◌, ◌<◌, [], ◌++◌, pos, get_or, length, append-nil, sym, ap, subst, ◌∙◌, arith}, lemmas.{List.get_or_default, Grind.common_steps}}
use Rattle.stn_net.specs.{Schedule.times_of, Matrix.Tightest.IsTightest}
use Rattle.stn_conflict.specs.{Directions.facing, Listing.ListedBounds, Relaxation.{AreDistances, Searched}}
use Rattle.stn_conflict.proofs.network.Network.distance.Goals as goal

pub returns-clause-found : goal.returns-clause-found
returns-clause-found g c =
    let far = c.find.new.self.far.items in
    let faced = c.add.ensures.rows.faced ∙ c.self.invariant.first.faced in
    let whole : c.new-graph.result.bounds ≡ c.args.self.now.bounds =
    ap (λ (v : Searched). v.bounds) c.new-graph.ensures ∙ ap (λ d. facing d (c.deref-2.result.now ++ [])) faced ∙ append-nil c.deref-2.result.now ∙ c.deref-2.ensures.value ∙ ap (λ (l : ListedBounds). l.bounds) c.self.view_is in
    let exact : AreDistances c.new-graph.result.bounds c.args.from c.find.new.self.far.items = c.find.ensures.distances c.if-not-find.false in
    let long = c.find.ensures.tables.far in
    let events = ap (λ (v : Searched). v.events) c.new-graph.ensures ∙ ap (λ (l : ListedBounds). l.events) c.self.view_is in
    let there : c.args.to < length c.find.new.self.far.items = omega (arith, long, events, c.requires.to) in
    let at : c.from.result ≡ c.args.to = c.from.ensures ∙ c.number.ensures.value in
    let is : c.index.result.now ≡ times_of c.find.new.self.far.items c.args.to =
    c.index.ensures ∙ ap (λ k. get_or c.find.new.self.far.items k c.index.result.now) at ∙ get_or_default c.find.new.self.far.items c.args.to c.index.result.now (pos 0) there in
    rw whole at (subst (λ m. IsTightest c.new-graph.result.bounds c.args.from c.args.to m) (sym is) (exact.tightest c.args.to there))

pub new-graph-requires-clause-named : goal.new-graph-requires-clause-named
new-graph-requires-clause-named g c = grind (arith, common_steps)
