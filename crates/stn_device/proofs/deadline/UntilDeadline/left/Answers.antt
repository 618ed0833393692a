use Rattle.std.{proofs.Common.{◌≡◌, rules, sym, ◌∙◌}, specs.declared.io.ErrorKind.TheVariants.{TimedOut, Interrupted}}
use Rattle.stn_device.proofs.deadline.UntilDeadline.left.Goals as goal

other_kind : TimedOut ≡ Interrupted → ⊥
other_kind is = cc

pub returns-in-None : goal.returns-in-None
returns-in-None g c = record { left = tt; over = λ is. other_kind (sym c.from.ensures ∙ is) }

pub returns-in-Some-clause-left : goal.returns-in-Some-clause-left
returns-in-Some-clause-left g c = search rules
