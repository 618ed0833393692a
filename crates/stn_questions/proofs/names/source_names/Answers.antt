use Rattle.std.proofs.Common.{rules}
use Rattle.stn_questions.{proofs.Lasting.plan_was_read}
use Rattle.stn_questions.proofs.names.source_names.Goals as goal

pub read_again-requires : goal.read_again-requires
read_again-requires g c = search (rules, plan_was_read)
