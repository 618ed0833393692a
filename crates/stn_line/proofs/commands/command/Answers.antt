use Rattle.std.proofs.{Common.{map, subst, arith}, lemmas.List.take_all}
use Rattle.stn_line.{specs.{Commands.command, Table.{ReadsByShape, read_rule}}, proofs.Shapes.grows}
use Rattle.stn_line.proofs.commands.command.Goals as goal

pub words-preserved : goal.words-preserved
words-preserved c = grows _ _ _ _ _ _ c.argument.result (omega arith) c.words.invariant c.argument.ensures.rule c.argument.ensures.own c.in_ok-command.ensures

pub returns : goal.returns
returns c =
    let row = c.args.row.now in
    record { is = subst (λ words. ReadsByShape (command row.name.now (map read_rule words)) c.words.command) (take_all c.words.word-index row.words.now c.words-test.false) c.words.invariant }
