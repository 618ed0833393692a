use Rattle.std.proofs.Common.{map, take}
use Rattle.stn_line.specs.{Commands.command, Table.{ReadsByShape, read_rule}}
use Rattle.stn_line.proofs.commands.command.Given as goal

abbrev pub invariant-words : goal.invariant-words
invariant-words l = ReadsByShape (command l.row.name.now (map read_rule (take l.word-index l.row.words.now))) l.command
