use Rattle.std.{proofs.Common.{rules, refl}, specs.Prelude.{Result, OnOk, OnErr}}
use Rattle.stn_text.proofs.appending.all_or_nothing.Goals as goal

on_err : {X E P : Type 0} (outcome : Result X E) → P → OnErr outcome P
on_err outcome p = search rules

on_ok : {X E P : Type 0} (outcome : Result X E) → P → OnOk outcome P
on_ok outcome p = search rules

pub returns-then-is_err-clause-nothing : goal.returns-then-is_err-clause-nothing
returns-then-is_err-clause-nothing g c = on_err c.args.outcome c.truncate.ensures.items

pub returns-else-is_err-clause-all : goal.returns-else-is_err-clause-all
returns-else-is_err-clause-all g c = on_ok c.args.outcome refl
