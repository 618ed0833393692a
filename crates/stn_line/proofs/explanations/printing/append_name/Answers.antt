use Rattle.stn_line.proofs.explanations.printing.append_name.Goals as goal

pub returns-in-Refusal : goal.returns-in-Refusal
returns-in-Refusal g c = rw c.in-Refusal.is (rw (c.from.ensures, c.number.ensures) at c.append_decimal.ensures.appended)
