use Rattle.stn_chart.proofs.chart.chart_text.Goals as goal

pub returns-in_ok-text-in-Some : goal.returns-in_ok-text-in-Some
returns-in_ok-text-in-Some g c = record {
  windows = c.in-Some.drawn.windows.items;
  overdue = c.in-Some.drawn.overdue;
  drawn = rw c.in-Some.is at c.in_ok-drawn.ensures;
  whole = c.in_ok-text-in-Some.ensures;
}
