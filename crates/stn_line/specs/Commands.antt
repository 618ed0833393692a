-- The commands of `stn` and their words, as clap reads them.
use Rattle.std.specs.Prelude.{ℕ, List, [], ◌∷◌, Some, true, false, codes}
use Rattle.stn_records.specs.Id.{most_sites}
use Rattle.clap.specs.{Lexer.usize_max, Simple.new_shape, Words.{App, Rule, Shape, Text, new_rule}}
use Rattle.clap.specs.declared.builder.action.ArgAction.TheVariants as action
use Rattle.clap.specs.declared.builder.value_parser.ValueParser.TheVariants as parser

-- the number of steps of a bare plan is read up to this; which of them make a plan is for the plan to say
abbrev pub most_read_steps : ℕ
most_read_steps = 65535

-- the most connections that are served in turn
abbrev pub most_connections : ℕ
most_connections = 1000

-- how many seconds a session or an exchange may take: at most, and where nothing is said
abbrev pub most_seconds : ℕ
most_seconds = 3600

abbrev pub usual_seconds : ℕ
usual_seconds = 60

-- a word that has to be there
abbrev pub word_rule : Text → Rule
word_rule name = record (new_rule name) { required = true }

-- a word that has to be there, and is a number from `least` to `most`
abbrev pub number_rule : Text → ℕ → ℕ → Rule
number_rule name least most = record (word_rule name) { parser = Some (parser.Unsigned least most) }

-- a word that may be left out
abbrev pub maybe_rule : Text → Rule
maybe_rule name = new_rule name

-- any number of words, none too
abbrev pub many_rule : Text → Rule
many_rule name = record (new_rule name) { range = Some (record { start_inclusive = 0; end_inclusive = usize_max }) }

-- an option `--name=T`, which may be left out
abbrev pub option_rule : Text → Rule
option_rule name = record (new_rule name) { long = Some name; value_names = 1 }

-- an option whose value is a number from `least` to `most`
abbrev pub number_option_rule : Text → ℕ → ℕ → Rule
number_option_rule name least most = record (option_rule name) { parser = Some (parser.Unsigned least most) }

-- a flag `--name`, which may be left out
abbrev pub flag_rule : Text → Rule
flag_rule name = record (new_rule name) { long = Some name; action = Some action.SetTrue }

-- an option `--name=VALUE` that may be given any number of times
abbrev pub options_rule : Text → Rule
options_rule name = record (option_rule name) { action = Some action.Append }

-- the options that say by which names steps are told
abbrev pub name_rules : List Rule
name_rules = option_rule (codes "plan") ∷ flag_rule (codes "names") ∷ []

-- the options that choose events, and then those
abbrev pub choice_rules : List Rule
choice_rules = option_rule (codes "steps") ∷ flag_rule (codes "starts") ∷ name_rules

-- a command with its words
abbrev pub command : Text → List Rule → Shape
command name words = record (new_shape name) { rules = words }

-- a command on the log of a site, with its further words
abbrev pub on_log : Text → List Rule → Shape
on_log name words = command name (word_rule (codes "LOG") ∷ number_rule (codes "SITE") 1 most_sites ∷ words)

-- all the commands
abbrev pub commands : List Shape
commands = command (codes "run") []
    ∷ on_log (codes "bare") (number_rule (codes "STEPS") 0 most_read_steps ∷ [])
    ∷ on_log (codes "init") (word_rule (codes "DOMAIN") ∷ word_rule (codes "PLAN") ∷ [])
    ∷ on_log (codes "loosen") (word_rule (codes "DOMAIN") ∷ word_rule (codes "PLAN") ∷ option_rule (codes "early") ∷ option_rule (codes "late")
    ∷ flag_rule (codes "robust") ∷ [])
    ∷ on_log (codes "add") (word_rule (codes "FROM") ∷ word_rule (codes "TO") ∷ option_rule (codes "lo") ∷ option_rule (codes "hi") ∷ [])
    ∷ on_log (codes "amend") (word_rule (codes "ID") ∷ word_rule (codes "FROM") ∷ word_rule (codes "TO") ∷ option_rule (codes "lo") ∷ option_rule (codes "hi") ∷ [])
    ∷ on_log (codes "withdraw") (word_rule (codes "ID") ∷ [])
    ∷ on_log (codes "done") (word_rule (codes "EVENT") ∷ word_rule (codes "TIME") ∷ [])
    ∷ on_log (codes "merge") (word_rule (codes "OTHER") ∷ [])
    ∷ on_log (codes "guard") (options_rule (codes "own") ∷ [])
    ∷ on_log (codes "report") name_rules
    ∷ on_log (codes "next") (word_rule (codes "NOW") ∷ choice_rules)
    ∷ on_log (codes "ready") (word_rule (codes "NOW") ∷ choice_rules)
    ∷ on_log (codes "why") (word_rule (codes "EVENT") ∷ maybe_rule (codes "TO") ∷ name_rules)
    ∷ on_log (codes "repairs") name_rules
    ∷ on_log (codes "records") name_rules
    ∷ on_log (codes "steps") (option_rule (codes "plan") ∷ [])
    ∷ on_log (codes "bounds") name_rules
    ∷ on_log (codes "check") (many_rule (codes "TIME") ∷ [])
    ∷ on_log (codes "rehearse") (word_rule (codes "NOW") ∷ choice_rules)
    ∷ on_log (codes "draw") (option_rule (codes "now") ∷ option_rule (codes "arrows") ∷ option_rule (codes "plan") ∷ options_rule (codes "own") ∷ [])
    ∷ command (codes "explain") (maybe_rule (codes "CODE") ∷ [])
    ∷ on_log (codes "shell") []
    ∷ on_log (codes "serve") (word_rule (codes "ADDR") ∷ number_rule (codes "COUNT") 1 most_connections ∷ number_option_rule (codes "seconds") 1 most_seconds ∷ [])
    ∷ on_log (codes "send") (word_rule (codes "ADDR") ∷ number_option_rule (codes "seconds") 1 most_seconds ∷ [])
    ∷ []

-- the program: help and the version are flags, one of the commands has to be named, and `help` is one that clap adds
abbrev pub top : App
top = record {
  top = record (new_shape (codes "stn")) {
    has_version = true;
    arg_required_else_help = true;
    subcommand_required = true;
  };
  subs = [];
}

-- the program with these commands
abbrev pub program : List Shape → App
program shapes = record { top = record top.top { is_leaf = false }; subs = shapes }

unfoldable pub stn : App
stn = program commands
