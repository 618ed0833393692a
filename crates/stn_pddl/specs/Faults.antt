-- The faults of a domain.
use Rattle.std.specs.Prelude.{Bool, true, false}
use Rattle.stn_pddl.specs.declared.{tree.scan.TreeFault.TreeFault, fault.DomainFault.{DomainFault, TheVariants.{TooLong, Syntax, TooDeep, Memory}}}
use Rattle.stn_pddl.specs.declared.tree.scan.TreeFault.TheVariants as tree

-- a fault of the bytes, as one of the domain
abbrev pub of_tree : TreeFault → DomainFault
of_tree tree.TooLong = TooLong
of_tree (tree.Syntax line) = Syntax line
of_tree (tree.TooDeep line) = TooDeep line

-- memory ran out
abbrev pub is_memory : DomainFault → Bool
is_memory Memory = true
is_memory fault = false
