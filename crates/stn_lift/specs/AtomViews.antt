-- For proofs alone: no public clause cites these words.
-- What the names and the spellings of atoms say.
use Rattle.std.specs.Prelude.{ℕ, List, Vec}
use Rattle.stn_pddl.specs.{declared.tree.name.Name.Name, Tree.Names.folded}

abbrev pub folded_name : Name → List ℕ
folded_name name = folded name.bytes.now

abbrev pub spelling_of : {A : Type 0} → Vec ℕ A → List ℕ
spelling_of spelling = spelling.items
