-- For proofs alone: no public clause cites these words.
-- What is ahead of a walk whose next entry is taken out already.
use Rattle.std.specs.Prelude.{List, [], ◌∷◌, Option, Some, None}

-- the next entry and the others; none where there is no next
abbrev pub from_next : {X : Type 0} → Option X → List X → List X
from_next None rest = []
from_next (Some next) rest = next ∷ rest
