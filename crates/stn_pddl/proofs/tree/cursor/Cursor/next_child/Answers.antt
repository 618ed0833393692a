use Rattle.std.proofs.{Common.{rules, ◌∙◌, ◌+◌, arith, sym}, lemmas.List.take_rest}
use Rattle.stn_pddl.{specs.Tree.Cursors.rows_at, proofs.tree.Rows.{opened, closed, passed, begins-at, line_after-most, at-end}}
use Rattle.stn_pddl.proofs.tree.cursor.Cursor.next_child.Goals as goal

pub returns-in-Open-clause-first : goal.returns-in-Open-clause-first
unfolding rows_at
returns-in-Open-clause-first c =
    let bytes = c.args.self.rest.now in
    opened _ c.loop-index.index _ _ _ c.loop-index.comment c.loop-index-test.true (take_rest bytes (c.loop-index.index + 1)) c.loop-index.invariant.same_rows (sym c.kind_in.ensures ∙ c.in-Open.is)

pub returns-in-Close-clause-first : goal.returns-in-Close-clause-first
unfolding rows_at
returns-in-Close-clause-first c =
    let bytes = c.args.self.rest.now in
    closed _ c.loop-index.index _ _ _ c.loop-index.comment c.loop-index-test.true (take_rest bytes (c.loop-index.index + 1)) c.loop-index.invariant.same_rows (sym c.kind_in.ensures ∙ c.in-Close.is)

pub word_at-requires-clause-letter : goal.word_at-requires-clause-letter
word_at-requires-clause-letter c = search (rules, begins-at, take_rest)

pub loop-index-preserved : goal.loop-index-preserved
loop-index-preserved c = search (rules, line_after-most, passed)

pub returns-clause-first : goal.returns-clause-first
unfolding rows_at
returns-clause-first c = at-end _ c.loop-index.index _ _ c.loop-index.comment (omega arith) c.loop-index.invariant.same_rows
