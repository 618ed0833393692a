use Rattle.stn_loosen.{specs.Stepped.as_bound, proofs.Implied.shown_taken}
use Rattle.stn_loosen.proofs.making.Making.implies.Goals as goal

pub returns : goal.returns
returns g c =
    let named = rw (← c.self.view_is) at c.requires.named in
    let is = shown_taken c.self.inside.records.items c.self.inside.matrix (as_bound c.args.span.now) c.self.invariant named in
    rw (← c.self.view_is) (λ shown. is.0 (c.shows.ensures.0 shown), λ implied. c.shows.ensures.1 (is.1 implied))
