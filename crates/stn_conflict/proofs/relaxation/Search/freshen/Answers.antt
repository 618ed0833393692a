use Rattle.std.proofs.{Common.{◌≡◌, true, [], ◌∷◌, length, set, ◌∙◌, arith}, lemmas.List.{length-set, Elements.All-push}}
use Rattle.stn_net.proofs.Closure.{schedule_before}
use Rattle.stn_conflict.{specs.Relaxation.NamesAmong, proofs.Relaxing.{estimates_more, relaxed_push}}
use Rattle.stn_conflict.proofs.relaxation.Search.freshen.Goals as goal

pub returns : goal.returns
returns g c = λ events bounds named old.
    let self = c.args.self.now in
    let bound = c.args.bound.now in
    let t = old.late.tables in
    let from : c.from-2.result ≡ bound.from = c.from-2.ensures ∙ c.number.ensures.value ∙ c.from.ensures.value in
    let to : c.from-3.result ≡ bound.to = c.from-3.ensures ∙ c.number-2.ensures.value ∙ c.to.ensures.value in
    rw (from, to) (record {
      late = record {
        tables = record { few = t.few; far = t.far; by = t.by; among = t.among; fresh = length-set (set self.fresh.items bound.from true) bound.to true ∙ length-set self.fresh.items bound.from true ∙ t.fresh };
        from = old.late.from;
        estimates = estimates_more (All-push (NamesAmong (length self.far.items)) bounds bound old.late.estimates.named (omega (arith, t.far, named.from), omega (arith, t.far, named.to)))
            (schedule_before bounds (bound ∷ [])) old.late.estimates;
      };
      relaxed = relaxed_push events bounds bound self.far.items self.fresh.items (omega (arith, t.fresh, named.from)) (omega (arith, t.fresh, named.to)) old.relaxed;
    })
