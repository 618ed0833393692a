use Rattle.std.proofs.Common.{◌∙◌, List, ℕ, Option, Some, None, refl, sym}
use Rattle.stn_effects.{specs.Effects.{stopped, went}, proofs.Endings.makes_of}
use Rattle.stn_store.proofs.{Lacks.passed_on, SameLog.{opens_same}}
use Rattle.stn_command.specs.{Query.seen_query, Named.{IsSaidBy, IsRefusedBy}}
use Rattle.stn_logs.proofs.commands.say_of.Goals as goal

pub returns-in_err-known : goal.returns-in_err-known
returns-in_err-known g c = rw (passed_on _ _ c.from_residual.ensures.1) (stopped _ (refl, c.in_err-known.ensures.failed) refl)

pub returns-in-Ok-Some : goal.returns-in-Ok-Some
returns-in-Ok-Some g c =
    let ours = c.plan-in-Ok-Some.result.now in
    let opened = opens_same _ _ _ c.in_ok-known.known ours c.plan-in-Ok-Some.ensures.site c.plan-in-Ok-Some.ensures.source c.plan-in-Ok-Some.ensures.state c.in_ok-known.ensures.opened in
    let names = rw c.in-Ok-Some.field-0-is at c.in-Ok-Some.ensures in
    let found = rw (c.plan.ensures.source ∙ sym c.plan-in-Ok-Some.ensures.source) at names in
    let plan = Some c.in-Ok-Some.plan.items in
    let asked = seen_query c.args.asked.now in
    let said = rw c.deref.ensures.value at c.say_named-text.ensures in
    went ours _ (refl, opened) (went plan _ found
    (makes_of g.S.Store.fails (λ text. text.items) (IsSaidBy plan asked ours) (IsRefusedBy plan asked ours) c.say_named-text.result _ said))

pub returns-in-Ok-None : goal.returns-in-Ok-None
returns-in-Ok-None g c =
    let ours = c.in_ok-known.known in
    let names = rw c.in-Ok-None.field-0-is at c.in-Ok-None.ensures in
    let found = rw c.plan.ensures.source at names in
    let none : Option (List ℕ) = None in
    let asked = seen_query c.args.asked.now in
    went ours _ (refl, c.in_ok-known.ensures.opened) (went none _ found
    (makes_of g.S.Store.fails (λ text. text.items) (IsSaidBy none asked ours) (IsRefusedBy none asked ours) c.say.result _ c.say.ensures))

pub returns-in-Err : goal.returns-in-Err
returns-in-Err g c =
    let found = rw c.plan.ensures.source at c.in-Err.ensures in
    went c.in_ok-known.known _ (refl, c.in_ok-known.ensures.opened) (stopped c.in-Err.failure found refl)
