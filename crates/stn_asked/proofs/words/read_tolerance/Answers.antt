use Rattle.std.{proofs.Common.{rules, ◌≡◌, ℕ, ℤ, pos, List, Option, Ok}, specs.Borrow.Bor}
use Rattle.stn_asked.specs.Words.{moment_or, not_below, slack_read}
use Rattle.stn_asked.proofs.words.read_tolerance.Goals as goal

-- both times are read, and neither is below 0
told : (early late : Option (Bor (List ℕ))) (first second less more : ℤ) → Ok first ≡ moment_or (pos 0) early → Ok second ≡ moment_or (pos 0) late
    → Ok less ≡ not_below early first → Ok more ≡ not_below late second → Ok (record { early = less; late = more }) ≡ slack_read early late
unfolding slack_read
told early late first second less more h5 h6 h7 h8 = search rules

pub returns : goal.returns
returns c =
    rw (rw c.unwrap.ensures at c.new.ensures.value)
    (told c.args.early c.args.late _ _ _ _ (rw c.no_time.ensures at c.in_ok-early_time.ensures) (rw c.no_time-2.ensures at c.in_ok-late_time.ensures)
    c.in_ok-less.ensures c.in_ok-more.ensures)
