use Rattle.std.proofs.{Common.{◌≡◌, ◌+◌, ◌-◌, ◌/◌, ◌∙◌, length, ap, refl, sym, arith}, lemmas.{Bool.false≢true, List.Elements.All-take}}
use Rattle.stn_conflict.{specs.Relaxation.NamesAmong, proofs.{Relaxing.{among_events, estimates_more, network_before}, Tightness.schedule_earlier}}
use Rattle.stn_conflict.proofs.search.first_between.Goals as goal

pub settle-requires : goal.settle-requires
settle-requires g c =
    let middle = c.loop-high.low + (c.loop-high.high - c.loop-high.low) / 2 in
    let h = c.loop-high.invariant in
    let items : c.copy_from_slice.new.self.items ≡ c.loop-high.known = c.copy_from_slice.ensures.items in
    let graph = c.args.graph.now in
    rw c.before-in-loop-high.ensures (record {
      kept = c.requires.kept;
      network = network_before graph.bounds (omega (arith, h.past)) c.requires.begins c.requires.named;
      search = record {
        tables = record { few = h.tables.few; far = ap length items ∙ h.long; by = h.tables.by; among = h.tables.among; fresh = h.tables.fresh };
        from = refl;
        estimates = rw items (estimates_more
            (All-take (NamesAmong (length c.loop-high.known)) middle graph.bounds (among_events graph.bounds h.long c.requires.named))
            (λ time. schedule_earlier graph.bounds (omega arith)) h.known);
      };
    })

pub loop-high-preserved : goal.loop-high-preserved
loop-high-preserved g c =
    let h = c.loop-high.invariant in
    record {
      known = rw c.settle.ensures.search.from h.known;
      long = h.long;
      tables = rw c.before-in-loop-high.ensures at c.settle.ensures.search.tables;
      past = h.past;
      apart = omega (arith, c.loop-high-test.true);
      within = omega (arith, h.apart, h.within);
      has = h.has;
      none = λ has. false≢true (sym c.if-settle.false ∙ c.settle.ensures.possible.1 (rw c.before-in-loop-high.ensures has));
    }
