use Rattle.std.proofs.Common.{rules, Result, subst, sym, ◌∙◌}
use Rattle.stn_text.specs.Lines.{lines_of}
use Rattle.stn_refusal.specs.declared.failure.Failure.{Failure}
use Rattle.stn_exec.{specs.{Heading.{seen_found, IsRead}, Script.Based}, proofs.Blocks.{based-none, based-files, based-bare}}
use Rattle.stn_exec.proofs.heading.read_base.Goals as goal

pub returns-in_err-found-clause-read : goal.returns-in_err-found-clause-read
returns-in_err-found-clause-read g c = search (rules, based-none)

pub returns-then-stands_alone-clause-read : goal.returns-then-stands_alone-clause-read
returns-then-stands_alone-clause-read g c =
    let whole = based-files c.args.last (lines_of c.args.script.now) (seen_found c.in_ok-found.found) c.in_ok-found.ensures.found (sym c.stands_alone.ensures ∙ c.if-stands_alone.true) in
    subst (λ (r : Result Based Failure). IsRead r c.read_files.result) whole c.read_files.ensures.read

pub returns-else-stands_alone-clause-read : goal.returns-else-stands_alone-clause-read
returns-else-stands_alone-clause-read g c =
    let whole = based-bare c.args.last (lines_of c.args.script.now) (seen_found c.in_ok-found.found) c.in_ok-found.ensures.found (sym c.stands_alone.ensures ∙ c.if-stands_alone.false) in
    subst (λ (r : Result Based Failure). IsRead r c.read_bare.result) whole c.read_bare.ensures.read
