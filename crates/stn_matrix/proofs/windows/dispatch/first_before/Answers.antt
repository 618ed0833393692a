use Rattle.std.proofs.{Common.{◌≡◌, ◌∙◌, arith, inl, inr, sym}, lemmas.{Bool.{false≢true, cases_eq, cases_lt}, Int.ints, Grind.common_steps}}
use Rattle.stn_matrix.proofs.windows.dispatch.first_before.Goals.{else-is_left-via-then-is_left+else-lt, else-is_left-via-else-is_left}
use Rattle.stn_matrix.proofs.windows.dispatch.first_before.Goals as goal

pub loop-number-preserved : goal.loop-number-preserved
loop-number-preserved g c = λ event before left. elim (cases_eq event c.loop-number.number) [
  | inr ne ↦ c.loop-number.invariant event (omega arith) left
  | inl e ↦ (let is : c.unwrap-event.result ≡ c.loop-number.number = rw c.unwrap-event.ensures at c.new.ensures.value in
      elim c.else-is_left.branch [
        | else-is_left-via-then-is_left+else-lt w ↦ rw (e, ← is, ← w.far.ensures.entry) (let lt = sym w.lt.ensures ∙ w.if-lt.false in grind (arith, ints))
        | else-is_left-via-else-is_left w ↦ absurd (let yes = c.is_left.ensures.1 (rw (e, ← is) at left) in let not = w.if-is_left.false in false≢true (cc))
      ])
]

pub returns-then-lt-clause-past : goal.returns-then-lt-clause-past
returns-then-lt-clause-past g c =
    let is : c.unwrap-event.result ≡ c.loop-number.number = rw c.unwrap-event.ensures at c.new.ensures.value in
    record {
      left = c.is_left.ensures.0 c.if-is_left.true;
      past = rw (← c.far.ensures.entry) (let lt = sym c.lt.ensures ∙ c.if-lt.true in grind (arith, ints));
      first = λ other left past. elim (cases_lt other c.loop-number.number) [
        | inl below ↦ absurd (omega (arith, ints, c.loop-number.invariant other below left))
        | inr after ↦ rw is after
      ];
    }

pub returns-clause-none : goal.returns-clause-none
returns-clause-none g c = grind (arith, common_steps)
