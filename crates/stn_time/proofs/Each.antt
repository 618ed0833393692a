-- What holds of each element of a list holds of the elements of its parts, and of one list after another.
use Rattle.std.{proofs.{lemmas.{Grind.common_steps, List.Elements.{All-from_recursion, recursion_from_All}}, Common.{rules, arith, List, [], ◌∷◌, ◌++◌}}, specs.List.{All, AllByRecursion}}

module _ {X : Type 0} (P : X → Type 0) where
  pub each_joined : (xs ys : List X) → AllByRecursion P xs → AllByRecursion P ys → AllByRecursion P (xs ++ ys)
  each_joined xs ys first second = grind (arith, common_steps)

  pub each_parted : (xs ys : List X) → AllByRecursion P (xs ++ ys) → AllByRecursion P xs × AllByRecursion P ys
  each_parted [] ys each = (tt, each)
  each_parted (x ∷ xs) ys each = let rest = each_parted xs ys each.1 in ((each.0, rest.0), rest.1)

  -- one element more
  pub each_pushed : (xs : List X) (x : X) → AllByRecursion P xs → P x → AllByRecursion P (xs ++ x ∷ [])
  each_pushed xs x each one = each_joined xs (x ∷ []) each (one, tt)

  pub All-left : (xs ys : List X) → All P (xs ++ ys) → All P xs
  All-left xs ys each = search (rules, All-from_recursion, each_parted, recursion_from_All)

  pub All-right : (xs ys : List X) → All P (xs ++ ys) → All P ys
  All-right xs ys each = search (rules, All-from_recursion, each_parted, recursion_from_All)
