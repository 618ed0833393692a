use Rattle.std.{proofs.{Common.{◌≡◌, ℕ, nat_lt, true, false, append_assoc, sym, ap, ◌∙◌, arith}, lemmas.Bool.Decides.nat_tests}, specs.Int.abs_diff}
use Rattle.stn_drawing.proofs.Grown.{written}
use Rattle.stn_walk.proofs.walk.Walk.append_arrow.Goals as goal

pub returns-then-abs_diff-lt-TIP : goal.returns-then-abs_diff-lt-TIP
returns-then-abs_diff-lt-TIP g c =
    let near : nat_lt c.abs_diff.result 9 ≡ true = grind (arith, nat_tests, c.if-abs_diff-lt-TIP.true) in
    let test = ap (λ (n : ℕ). nat_lt n 9) (sym (c.abs_diff.ensures ∙ (λ i. abs_diff (c.left_of-left.ensures.value i) (c.left_of-right.ensures.value i)))) ∙ near in
    written c.in_memory.result c.write.result _ _ _ c.in_memory.ensures c.write.ensures.bytes
    (simp (append_assoc, test, c.left_of-left.ensures.value, c.top_of.ensures.value))

pub returns-else-abs_diff-lt-TIP : goal.returns-else-abs_diff-lt-TIP
returns-else-abs_diff-lt-TIP g c =
    let far : nat_lt c.abs_diff.result 9 ≡ false = grind (arith, nat_tests, c.if-abs_diff-lt-TIP.false) in
    let test = ap (λ (n : ℕ). nat_lt n 9) (sym (c.abs_diff.ensures ∙ (λ i. abs_diff (c.left_of-left.ensures.value i) (c.left_of-right.ensures.value i)))) ∙ far in
    written c.in_memory-else-abs_diff-lt-TIP.result c.write-else-abs_diff-lt-TIP.result _ _ _ c.in_memory-else-abs_diff-lt-TIP.ensures c.write-else-abs_diff-lt-TIP.ensures.bytes
    (simp (append_assoc, test, c.left_of-left.ensures.value, c.left_of-right.ensures.value, c.top_of.ensures.value))
