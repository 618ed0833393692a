use Rattle.stn_exchanges.proofs.joining.InLogKeeper.keep.Goals as goal

pub returns : goal.returns
returns g c = c.keep_join.ensures
