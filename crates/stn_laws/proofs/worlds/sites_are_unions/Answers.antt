use Rattle.stn_laws.proofs.worlds.Runs.{sites_are_unions}
use Rattle.stn_laws.proofs.worlds.sites_are_unions.Goals as goal

pub returns : goal.returns
returns c = sites_are_unions
