-- How a command grows, word by word, and the program, command by command.
use Rattle.std.proofs.{lemmas.{Grind.common_steps, List.{map_more, take_all}}, Common.{arith, ◌≡◌, ℕ, ◌+◌, ◌<◌, ◌≤◌, false, List, [], ◌∷◌, ◌++◌, length, map, take, fold, get_or}}
use Rattle.clap.specs.{Built.{AddsArg, AddsSubcommand}, declared.builder.{arg.Arg.Arg, command.Command.Command}, Words.{App, Rule, Shape, Text, app_of, rule_of, with_subcommand}}
use Rattle.stn_line.specs.{Commands.command, Table.{ReadsByShape, read_rule, read_shape}, declared.commands.{Row.Row, Word.Word}}

-- the shape with one rule more, the last
abbrev with_rule : Shape → Rule → Shape
with_rule shape rule = record shape { rules = shape.rules ++ rule ∷ [] }

-- an argument that is added is read last
pub grows : (name : Text) (words : List Word) (i : ℕ) (next : Word) (old new : Command) (a : Arg) → i < length words
    → ReadsByShape (command name (map read_rule (take i words))) old → rule_of a ≡ read_rule (get_or words i next) → a.global ≡ false → AddsArg old a new
    → ReadsByShape (command name (map read_rule (take (i + 1) words))) new
grows name words i next old new a within before rule own adds = grind (arith, common_steps)

-- a program with the commands of the first rows after its own
pub record Joined (start : App) (rows : List Row) (i : ℕ) (program : Command) : Type 0 where
  pub is : app_of program ≡ fold with_subcommand start (map read_shape (take i rows))

-- a command that is added is the last
pub joins : (start : App) (rows : List Row) (i : ℕ) (next : Row) (old sub new : Command) → Joined start rows i old → ReadsByShape (read_shape (get_or rows i next)) sub
    → AddsSubcommand old sub new → i < length rows → Joined start rows (i + 1) new
joins start rows i next old sub new before reads adds within = grind (arith, common_steps, map_more)

-- all of them are the program
pub joined_all : (start : App) (rows : List Row) (i : ℕ) (program : Command) → Joined start rows i program → length rows ≤ i → app_of program ≡ fold with_subcommand start (map read_shape rows)
joined_all start rows i program joined all = cc (take_all i rows all)
