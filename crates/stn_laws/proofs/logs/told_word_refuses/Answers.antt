use Rattle.stn_laws.proofs.logs.Refused.{told}
use Rattle.stn_laws.proofs.logs.told_word_refuses.Goals as goal

pub returns : goal.returns
returns g c = λ line refused. told g.S.Store.fails refused line
