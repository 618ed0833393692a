use Rattle.std.proofs.{Common.{◌+◌, ◌≤◌, length, ap, arith}, lemmas.Bool.ltb-true}
use Rattle.stn_records.{specs.Content.known_in_either, proofs.Limits.known_together}
use Rattle.stn_records.proofs.records.Records.is_too_much_with.Goals as goal

-- all four lists together are too short
pub returns-else-ours-theirs-gt-MOST_KNOWN : goal.returns-else-ours-theirs-gt-MOST_KNOWN
returns-else-ours-theirs-gt-MOST_KNOWN g c =
    let short = c.if-ours-theirs-gt-MOST_KNOWN.false in
    let few : known_in_either c.args.self.now c.args.other.now ≤ 4096 = omega (arith, known_together c.args.self.now c.args.other.now, ap length c.added.ensures.value, ap length c.replaced.ensures.value, ap length c.added-2.ensures.value, ap length c.replaced-2.ensures.value, short) in (
      λ long. let many = ltb-true 4096 (length c.added.result.now + length c.replaced.result.now + (length c.added-2.result.now + length c.replaced-2.result.now)) long in absurd (omega (arith, many, short)),
      λ many. absurd (omega (arith, many, few)),
    )
