use Rattle.stn_line.proofs.explanations.Entries.{AppendsMeanings}
use Rattle.stn_line.proofs.explanations.printing.append_meanings.Given as goal

abbrev pub invariant-loop-entry : goal.invariant-loop-entry
invariant-loop-entry g l = AppendsMeanings l.entries l.entry-index l.initial.out.items l.out.items
