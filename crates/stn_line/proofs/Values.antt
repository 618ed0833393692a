-- Values that are known to be there.
use Rattle.std.{proofs.Common.{rules, ◌≡◌, Bool, cond, true, false, List, [], ◌∷◌, Option, Some, Bor, option_map, refl, subst}, specs.{Prelude.find, List.AllByRecursion}}
use Rattle.clap.specs.{Matches.{found_of, subcommand_name_of}, Simple.{subcommand_rows, subcommand_rows_of}, declared.parser.matches.ArgMatches.{ArgMatches, TheViews.out-ArgMatches}, Walk.{Text, rows_of}}

-- what is found of a list has what each of it has
pub find_each : {X : Type 0} (P : X → Type 0) (f : X → Bool) (xs : List X) (a : X) → AllByRecursion P xs → find f xs ≡ Some a → P a × (f a ≡ true)
find_each P f [] a each found = cc
find_each P f (x ∷ xs) a each found = go (f x) refl found (find_each P f xs a each.1)
  where
    go : (t : Bool) → f x ≡ t → cond t (Some x) (find f xs) ≡ Some a → (find f xs ≡ Some a → P a × (f a ≡ true)) → P a × (f a ≡ true)
    go true t e rest = let same : x ≡ a = cc in subst (λ y. P y × (f y ≡ true)) same (each.0, t)
    go false t e rest = rest e

-- the subcommand that was entered, by its name and its matches
pub entered_is : (m : ArgMatches) (r : Option (Bor Text × Bor ArgMatches)) (x : Bor Text × Bor ArgMatches) → option_map (λ p. p.0.now) r ≡ subcommand_name_of m
    → option_map (λ p. rows_of (found_of p.1.now)) r ≡ option_map (λ p. p.1) (subcommand_rows (out-ArgMatches m).subcommand) → r ≡ Some x
    → subcommand_rows_of m ≡ Some (x.0.now, rows_of (found_of x.1.now))
entered_is m r x name rows is = search rules
