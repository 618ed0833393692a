use Rattle.std.proofs.Common.{List, ◌++◌, map, take}
use Rattle.stn_pddl.specs.Views.{atoms_schema}
use Rattle.stn_lift.specs.{Plan.Views.word_of, Footprints.{GroundAtom, ground}, Numbering.{KeepsNumbers, AreNumbersOf}}
use Rattle.stn_lift.proofs.atoms.Atoms.append_numbers.Given as goal

-- the first atoms have their numbers after those that stood before
abbrev pub invariant-loop-atom : goal.invariant-loop-atom
invariant-loop-atom g l = record {
  kept : KeepsNumbers l.fn.self l.self;
  numbers : (before : List GroundAtom) → AreNumbersOf l.fn.self l.fn.numbers.items before
      → AreNumbersOf l.self l.numbers.items (before ++ map (ground (map word_of l.args)) (take l.atom-index (atoms_schema l.atoms)));
}
