use Rattle.std.{proofs.{Common.{◌≡◌, ℕ, ℤ, ◌/◌, ◌%◌, ◌<◌, ◌≤◌, ◌++◌, ◌^◌, ap, ◌∙◌, subst, codes, w64, to_z, of_z, arith}, lemmas.Int.to_z-of_z}, specs.{Fmt.{decimal, sign_text}, Int.is_negative, Prelude.unsigned_abs}}
use Rattle.stn_time.{specs.Text.three_digits, proofs.Prints.appends-printed}
use Rattle.stn_time.proofs.printing.append_printed.Goals as goal

pub returns-clause-ok : goal.returns-clause-ok
returns-clause-ok g c =
    let millis = c.args.millis in
    let fits : to_z w64 (of_z w64 millis) ≡ millis = to_z-of_z w64 millis c.ranges.millis in
    let size : c.unsigned_abs-size.result ≡ unsigned_abs millis = c.unsigned_abs-size.ensures.value ∙ ap unsigned_abs fits in
    let bound : unsigned_abs millis ≤ 2 ^ 63 = subst (λ (n : ℕ). n ≤ 2 ^ 63) size c.unsigned_abs-size.ensures.bound in
    let small : unsigned_abs millis / 1000 < 2 ^ 64 = omega (arith, bound) in
    let whole : c.as_bytes.result.now ≡ decimal (unsigned_abs millis / 1000) = c.as_bytes.ensures.value ∙ (c.format.ensures.text ∙ ap (λ (n : ℕ). decimal (n / 1000)) size) in
    let sign : c.sign_text.result.now ≡ sign_text (is_negative millis) = c.sign_text.ensures ∙ ap (λ (n : ℤ). sign_text (is_negative n)) fits in
    let rest : c.point_and_digits.result ≡ codes "." ++ three_digits (unsigned_abs millis % 1000) = c.point_and_digits.ensures ∙ ap (λ (n : ℕ). codes "." ++ three_digits (n % 1000)) size in
    appends-printed _ millis c.args.out.now.items _ _ _ _ _ _ sign whole small rest c.in_ok-extend_from_slice.ensures.items c.in_ok-extend_from_slice-2.ensures.items c.extend_from_slice-3.ensures.items
