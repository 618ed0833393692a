use Rattle.stn_line.proofs.explanations.Entries.{one_more, whole_list}
use Rattle.stn_line.proofs.explanations.printing.append_meanings.Goals as goal

pub loop-entry-preserved : goal.loop-entry-preserved
loop-entry-preserved g c =
    one_more c.args.entries.now c.loop-entry.entry-index _ c.args.out.now.items c.loop-entry.out.items c.append_meaning.new.out.items
    c.in_ok-append_meaning.ensures.0 c.loop-entry-test.true c.loop-entry.invariant
    c.in_ok-append_meaning.ensures.1 c.in_ok-append_meaning.ensures.2

pub returns : goal.returns
returns g c = whole_list c.args.entries.now c.loop-entry.entry-index c.args.out.now.items c.loop-entry.out.items c.loop-entry-test.false c.loop-entry.invariant
