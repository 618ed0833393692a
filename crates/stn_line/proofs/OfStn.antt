-- The general law at the program's own commands.
use Rattle.std.{proofs.{Common.{rules, map, Option, Bor, option_map, false, Bool, cond, sym, ◌∷◌, ◌≡◌, ◌⊎◌, true, [], refl, inl, inr, Some, List}, lemmas.Slice.Eq.bytes_eq-Decides}, specs.{Prelude.{IsSomeAnd, find}, Str.bytes_eq}}
use Rattle.clap.specs.{Matches.{found_of, subcommand_name_of}, Simple.{subcommand_rows, subcommand_rows_of}, declared.parser.matches.ArgMatches.{ArgMatches, TheViews.out-ArgMatches}, Walk.rows_of, Words.{Row, Shape, Text, built, fault_of, is_simple, is_simple_and_free, subcommand_of}}
use Rattle.stn_line.{specs.{Commands.{commands, program, stn}, Given.{IsEntered, IsOneOf}}, proofs.Fits.{are_plain, is_plain, command_holds}}

pub stn_simple : is_simple stn ≡ true
unfolding stn
stn_simple = refl

pub stn_free : is_simple_and_free stn ≡ true
unfolding stn
stn_free = refl

top_fits : ((built stn).top.subcommand_required ≡ true) × ((built stn).top.disable_help_subcommand ≡ false) × (is_plain (built stn).top ≡ true)
unfolding stn
top_fits = (refl, refl, refl)

all_plain : are_plain (built stn).subs ≡ true
unfolding stn
all_plain = refl

-- words without a fault name a command other than `help`, and hold what it requires
pub stn_given : (words : List Text) → fault_of stn words ≡ [] → IsSomeAnd (subcommand_of stn words) (λ p. IsEntered p.0 p.1)
unfolding stn
stn_given words none = command_holds stn words top_fits.0 top_fits.1 top_fits.2 all_plain none

is_one_of : (P : Shape → Type 0) (commands : List Shape) (name : Text) → IsSomeAnd (find (λ command. bytes_eq command.name name) commands) P
    → IsOneOf name (map (λ command. command.name) commands)
is_one_of P [] name has = absurd has
is_one_of P (s ∷ rest) name has = go (bytes_eq s.name name) refl has (is_one_of P rest name)
  where
    go : (t : Bool) → bytes_eq s.name name ≡ t → IsSomeAnd (cond t (Some s) (find (λ command. bytes_eq command.name name) rest)) P
        → (IsSomeAnd (find (λ command. bytes_eq command.name name) rest) P → IsOneOf name (map (λ command. command.name) rest))
        → (name ≡ s.name) ⊎ IsOneOf name (map (λ command. command.name) rest)
    go true t has more = inl (sym ((bytes_eq-Decides s.name name).0 t))
    go false t has more = inr (more has)

-- an entered command has one of these names
pub is_named : (name : Text) (rows : List Row) → IsEntered name rows → IsOneOf name (map (λ command. command.name) (built (program commands)).subs)
is_named name rows has = search (rules, is_one_of)

-- what the matches of the entered command hold, by its name
pub entered_has : (m : ArgMatches) (r : Option (Bor Text × Bor ArgMatches)) (x : Bor Text × Bor ArgMatches) → option_map (λ p. p.0.now) r ≡ subcommand_name_of m
    → option_map (λ p. rows_of (found_of p.1.now)) r ≡ option_map (λ p. p.1) (subcommand_rows (out-ArgMatches m).subcommand) → r ≡ Some x
    → IsSomeAnd (subcommand_rows_of m) (λ command. IsEntered command.0 command.1) → (name : Text) → x.0.now ≡ name → IsEntered name (rows_of (found_of x.1.now))
entered_has m r x names rows is has name named = search rules
