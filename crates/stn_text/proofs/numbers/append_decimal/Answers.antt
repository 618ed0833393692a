use Rattle.std.proofs.Common.{rules, ◌+◌, ◌≤◌, length}
use Rattle.stn_text.proofs.numbers.append_decimal.Goals as goal

pub returns-clause-kept : goal.returns-clause-kept
returns-clause-kept g c =
    let room : c.reserve.new.self.len + (length c.args.prefix.now + length c.as_bytes-digits.result.now) ≤ c.reserve.new.self.cap = c.in_ok-reserve.ensures.ok in
    search rules
