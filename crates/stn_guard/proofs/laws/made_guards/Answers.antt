use Rattle.std.proofs.Common.{rules}
use Rattle.stn_guard.proofs.Made.{made_guard, made_windows}
use Rattle.stn_guard.proofs.laws.made_guards.Goals as goal

pub returns-clause-guards : goal.returns-clause-guards
returns-clause-guards c = λ owner events bounds guard possible named begins made.
    made_guard owner events bounds guard (record { possible = possible; named = named; begins = begins; made = made })

pub returns-clause-windows : goal.returns-clause-windows
returns-clause-windows c = search (rules, made_windows)
