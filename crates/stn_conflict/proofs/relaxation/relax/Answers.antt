use Rattle.std.{proofs.{Common.{◌≡◌, inl, inr, ◌<◌, length, refl, sym, ap, ◌∙◌, eqb-true, arith}, lemmas.{Int.ints, Bool.eqb-false, List.{get_or_read, length-set, Elements.All-set}}}, specs.Prelude.{pos, ◌+ℤ◌}}
use Rattle.stn_net.specs.Schedule.{times_of}
use Rattle.stn_conflict.proofs.relaxation.relax.Goals.{After-get-3, then-eq-via-then-eq, then-eq-via-else-eq+then-way}
use Rattle.stn_conflict.proofs.relaxation.relax.Goals as goal

-- the estimate at the link's end is read
read : (c : After-get-3) → (c.from-end.result ≡ c.args.look.now.to) × (c.get-3.result ≡ times_of c.args.far.now c.args.look.now.to)
read c =
    let at : c.from-end.result ≡ c.args.look.now.to = c.from-end.ensures ∙ c.number.ensures.value in (
      at,
      c.get-3.ensures.value ∙ get_or_read c.args.far.now _ _ (omega (arith, at, c.requires.end)) c.index-far-end.is (pos 0) ∙ ap (times_of c.args.far.now) at,
    )

pub returns-then-eq-clause-refused : goal.returns-then-eq-clause-refused
returns-then-eq-clause-refused c = λ _. record {
  less = (let (at, is) = read (goal.at.returns-then-eq-clause-refused c).After-get-3 in let test = c.if-get-way.false in omega (arith, ints));
  cause = elim c.then-eq.branch [
    | then-eq-via-then-eq w ↦ inl (eqb-true c.args.look.now.to c.args.start (sym w.if-eq.ensures))
    | then-eq-via-else-eq+then-way w ↦ inr (let test = w.if-way.true in omega (arith, ints))
  ];
  far_is = refl;
  fresh_is = refl;
}

pub returns-clause-tables : goal.returns-clause-tables
returns-clause-tables c =
    let t = c.requires.tables in
    record {
      few = t.few;
      far = length-set c.args.far.now _ _;
      by = length-set c.args.by.now _ _ ∙ t.by;
      among = All-set (λ event. event < length c.args.far.now) c.args.by.now _ _ c.requires.event t.among;
      fresh = length-set c.args.fresh.now _ _ ∙ t.fresh;
    }

pub returns-clause-met : goal.returns-clause-met
returns-clause-met c =
    let (at, is) = read (goal.at.returns-clause-met c).After-get-3 in
    let way : c.unwrap.result ≡ c.args.here +ℤ c.args.look.now.weight = (let value = rw c.unwrap.ensures at c.new.ensures.value in omega (arith, ints)) in
    inr (record {
      less = omega (arith, ints);
      apart = eqb-false c.args.look.now.to c.args.start (sym c.if-eq.ensures);
      far_is = rw (at, way) refl;
      fresh_is = rw at refl;
    })

pub returns-then-get-way-clause-met : goal.returns-then-get-way-clause-met
returns-then-get-way-clause-met c =
    let (at, is) = read (goal.at.returns-then-get-way-clause-met c).After-get-3 in
    inl (record { most = omega (arith, ints); far_is = refl; fresh_is = refl })

pub unwrap-requires : goal.unwrap-requires
unwrap-requires c = (let low = c.if-way.false in let high = c.if-get-way.false in c.new.ensures.within.1 (omega (arith, ints), omega (arith, ints)))
