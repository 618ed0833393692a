-- A row of trees in small letters.
use Rattle.std.specs.Prelude.{Result, Ok, Err}
use Rattle.stn_pddl.specs.{declared.tree.scan.TreeFault.TreeFault, Tree.{Names.folded, Trees.{Trees, End, Word, Group}}}

-- the same row, with small letters for the capital ones of ASCII in each word
unfoldable pub in_small : Trees → Trees
in_small End = End
in_small (Word line word next) = Word line (folded word) (in_small next)
in_small (Group line children next) = Group line (in_small children) (in_small next)

-- the same fault, or what a function makes of the value
abbrev pub mapped : {A B F : Type 0} → (A → B) → Result A F → Result B F
mapped f (Ok found) = Ok (f found)
mapped f (Err fault) = Err fault

-- the row in small letters, or the same fault
abbrev pub tree_in_small : Result Trees TreeFault → Result Trees TreeFault
tree_in_small = mapped in_small
