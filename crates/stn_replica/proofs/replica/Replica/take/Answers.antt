use Rattle.std.{proofs.{Common.{◌≡◌, is_some, refl, sym, ap, subst, ◌∙◌, arith}, lemmas.Bool.false≢true}, specs.Prelude.MatchOption}
use Rattle.stn_records.specs.Content.{Content, IsPart}
use Rattle.stn_site.{specs.{Held.Held, Growth.Extends}, proofs.Changes.extends_joined}
use Rattle.stn_replica.proofs.replica.Replica.take.Goals.{in-Some, in_default}
use Rattle.stn_replica.proofs.replica.Replica.take.Goals as goal

pub catch_up-self-inside-requires-clause-extends : goal.catch_up-self-inside-requires-clause-extends
catch_up-self-inside-requires-clause-extends g c =
    let old = c.self.inside.plan in
    let new = c.take_in.new.self in
    let before : c.in-Some.before ≡ old.state = subst (λ o. MatchOption o (new ≡ old) (λ records. records ≡ old.state)) c.in-Some.is c.in_ok-held.ensures.before in
    subst (λ (state : Content). Extends state c.records.result.now) (sym before)
    (subst (λ (state : Content). Extends old.state state) (sym c.records.ensures.value) (extends_joined old.state c.args.other.now new.state c.in_ok-held.ensures.leaves.state))

pub returns-clause-again : goal.returns-clause-again
returns-clause-again g c = λ part.
    let old = c.self.inside.plan in
    let mine : IsPart c.args.other.now old.state = subst (λ (h : Held). IsPart c.args.other.now h.state) (sym c.self.view_is) part in
    elim c.match-held.branch [
      | in-Some w ↦ absurd (false≢true (sym (c.in_ok-held.ensures.none.1 mine) ∙ ap is_some w.in-Some.is))
      | in_default w ↦
          let same = (c.in_ok-held.ensures.again mine).1 in
          (refl, w.self-is ∙ ap (λ (h : Held). record { site = h.site; source = h.source; state = h.state; steps = c.self.inside.current.steps }) same ∙ c.self.view_is)
    ]

pub returns-clause-work : goal.returns-clause-work
returns-clause-work g c =
    let old = c.self.inside.plan in
    elim c.match-held.branch [
      | in-Some w ↦
          let before : w.in-Some.before ≡ old.state = subst (λ o. MatchOption o (c.take_in.new.self ≡ old) (λ records. records ≡ old.state)) w.in-Some.is c.in_ok-held.ensures.before in
          let least = rw (before, w.records.ensures.value) at w.catch_up-self-inside.ensures.least in
          let most = rw (before, w.records.ensures.value) at w.catch_up-self-inside.ensures.most in
          rw (w.self-is, ← c.self.view_is) (λ keeps _. (least keeps, most keeps))
      | in_default w ↦ rw (w.self-is, ← c.self.view_is) (λ _ _. (omega arith, omega arith))
    ]
