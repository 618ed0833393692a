-- For proofs alone: no public clause cites these words.
-- How clap reads what the table of the commands says.
use Rattle.std.specs.Prelude.{◌≡◌, false, map}
use Rattle.clap.specs.{Words.{Rule, Shape, shape_of}, declared.builder.command.Command.{Command, TheViews.out-Command as fields_of}}
use Rattle.stn_line.specs.{Commands.{command, word_rule, number_rule, maybe_rule, many_rule, option_rule, number_option_rule, flag_rule, options_rule, most_seconds}, declared.commands.{Word.Word, Row.Row}}
use Rattle.stn_line.specs.declared.commands.Word.TheVariants as word

abbrev pub read_rule : Word → Rule
read_rule (word.Text name help) = word_rule name.now
read_rule (word.Number name help least most) = number_rule name.now least most
read_rule (word.MaybeText name help) = maybe_rule name.now
read_rule (word.Texts name help) = many_rule name.now
read_rule (word.Value name value help) = option_rule name.now
read_rule (word.Seconds name help) = number_option_rule name.now 1 most_seconds
read_rule (word.Flag name help) = flag_rule name.now
read_rule (word.Owned name help) = options_rule name.now

abbrev pub read_shape : Row → Shape
read_shape row = command row.name.now (map read_rule row.words.now)

-- clap reads the command's words by this shape
pub record ReadsByShape (shape : Shape) (command : Command) : Type 0 where
  pub is : shape_of command ≡ shape
  pub own : (fields_of command).has_globals ≡ false
