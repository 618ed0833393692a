use Rattle.std.proofs.{Common.{[], ◌∷◌, inl, inr, refl, sym, ◌∙◌}, lemmas.{Bool.false≢true, Result.err_from_is_err_and}}
use Rattle.stn_loosen.{specs.{Loosened.Imply, Stepped.as_bound, Making.{made_bounds, with_more}}, proofs.{Made.{nothing_more, cause_now}, Sides.side_bound}}
use Rattle.stn_loosen.proofs.making.Moving.with_side.Goals as goal

pub returns-in_err-implies-clause-fault : goal.returns-in_err-implies-clause-fault
returns-in_err-implies-clause-fault g c =
    let returned = err_from_is_err_and c.from_residual.result c.from_residual.ensures.1 in
    rw (returned.1, returned.2) (cause_now c.args.self (as_bound c.args.side.now ∷ []) c.in_err-implies.field-0.0 c.in_err-implies.ensures.fault)

pub returns-then-branch-clause-made : goal.returns-then-branch-clause-made
returns-then-branch-clause-made g c = ([], c.in_ok-implies.ensures.same ∙ nothing_more c.args.self, inl (c.in_ok-implies.ensures.value.0 c.if-branch.true, refl))

pub returns-in_default-clause-fault : goal.returns-in_default-clause-fault
returns-in_default-clause-fault g c = inl (
  λ s.
      let side = as_bound c.args.side.now in
      let needed : Imply (made_bounds c.args.self) side → ⊥ = λ implied. false≢true (sym c.if-branch.false ∙ c.in_ok-implies.ensures.value.1 implied) in
      let is = side_bound c.args.self side c.requires.named c.requires.open needed s.0 s.1 in
      false≢true (c.in_default.ensures.found.1 (rw (c.events.ensures, c.in_ok-implies.ensures.same) is)),
  c.refused.ensures,
)

pub returns-clause-made : goal.returns-clause-made
returns-clause-made g c =
    let side = as_bound c.args.side.now in
    let needed : Imply (made_bounds c.args.self) side → ⊥ = λ implied. false≢true (sym c.if-branch.false ∙ c.in_ok-implies.ensures.value.1 implied) in
    (side ∷ [], c.in_ok-with.ensures ∙ (λ i. with_more (c.in_ok-implies.ensures.same i) (c.in-Some.ensures.value i ∷ [])), inr (needed, ([], refl, refl)))
