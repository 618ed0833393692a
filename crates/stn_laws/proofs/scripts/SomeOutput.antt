-- The lines of a script have an output, and so many of their replies are refusals.
use Rattle.std.{proofs.{Common.{rules, ◌≡◌, ◌⊎◌, inl, inr, ℕ, ◌+◌, Bool, true, false, cond, List, [], ◌∷◌, ◌++◌, Option, Some, None, Result, Ok, Err, IfSome, refl, sym, ap, subst, ◌∙◌}, lemmas.Bool.false≢true}, specs.Prelude.length}
use Rattle.stn_refusal.specs.declared.code.Code.TheVariants as code
use Rattle.stn_refusal.specs.{declared.{refusal.Refusal.Refusal, failure.Failure.{Failure, TheVariants.Refused}}, Refusals.{refused, refusal, refusal_at}, Printed.refusal_text}
use Rattle.stn_text.specs.Lines.{lines_of, words_of}
use Rattle.stn_lift.specs.PlanSource.{events_of, IsSoundSource}
use Rattle.stn_records.specs.Content.{Content}
use Rattle.stn_site.specs.{Held.{Held, holding_state}, SoundSite.IsSoundSite}
use Rattle.stn_laws.{specs.Reports.line_steps, proofs.{scripts.{Reports.line_run, Causes.{HasRefusal, step_fits, send_fits, IsReadOrRefused, command_fits}, Headings.{IsFitOrRefused, IsSoundStart, heading_fits}}, worlds.Runs.{run_keeps, coherent_run, site_bounds, site_proper}}}
use Rattle.stn_world.{specs.{World.{World, has_site, content_at}, Whole.IsCoherent, Steps.{Step, sent, step_refusal, send_refusal, after}}, proofs.Whole.coherent_at_first}
use Rattle.stn_command.specs.{Query.{Query, IsSaid, IsQueryRefusal}}
use Rattle.stn_exec.{specs.{declared.answer.Answer.Answer, Answer.answer_text, Command.{Action, Command, command_of, change, merge, send_all, send, deliver, query}, Effect.{CommandReply, CommandEffect, declined, told, refusing, answered, action_effect}, Output.{IsAnswerText, Declines, CountsRefusals, IsOutput}, Script.{Outcome, Start, is_skipped, form_effect, line_effect, line_outcome, lines_outcome, heading_of, started, last_line, script_outcome}}, proofs.{Outputs.{not_both, counts_join, count_one}, Scripts.{outputs_join, output_one, line_outcome-skipped, line_outcome-run, line_effect-is}}}
use Rattle.stn_exec.specs.declared.answer.Answer.TheVariants as answer

-- another law: a site has an answer to each query that nothing refuses, and what refuses one is printed
pub record HasAnswers : Type 0 where
  pub text : (query : Query) (held : Held) → IsSoundSite held → IsQueryRefusal query held None → (text : List ℕ) × IsSaid query held text
  pub refusal : (query : Query) (held : Held) → IsSoundSite held
      → IsQueryRefusal query held None ⊎ ((cause : Refusal) × IsQueryRefusal query held (Some (Refused cause)))

-- the reply is an answer, or a refusal
abbrev IsAnsweredOrRefused : CommandReply → Type 0
IsAnsweredOrRefused reply = ((text : List ℕ) × IsAnswerText reply text) ⊎ ((refusal : Refusal) × Declines reply (Refused refusal))

-- replies have an output, and a number of refusals
pub record HasOutput (replies : List CommandReply) : Type 0 where
  pub text : List ℕ
  pub output : IsOutput replies text
  pub count : ℕ
  pub refusals : CountsRefusals replies count

no_replies : HasOutput []
no_replies = search rules

one_reply : (reply : CommandReply) → IsAnsweredOrRefused reply → HasOutput (reply ∷ [])
one_reply reply (inl (text, is)) = record {
  text = text;
  output = output_one reply text (inl is);
  count = 0;
  refusals = count_one reply false 0 refl ((λ yes. absurd (false≢true yes)), (λ refused. absurd (not_both reply text refused.0 is refused.1)));
}
one_reply reply (inr (cause, is)) = record {
  text = refusal_text cause;
  output = output_one reply _ (inr (cause, is, refl));
  count = 1;
  refusals = count_one reply true 1 refl ((λ yes. (Refused cause, is)), (λ refused. refl));
}

more_replies : (first later : List CommandReply) → HasOutput first → HasOutput later → HasOutput (first ++ later)
more_replies first later one other = search (rules, outputs_join, counts_join)

-- ---- a command
declined_refused : (cause : Failure) → HasRefusal cause → IsAnsweredOrRefused (declined cause)
declined_refused cause one = search rules

answered_or_refused : (world left : World) (made : Answer) (found : Option Failure) → IfSome found HasRefusal → IsAnsweredOrRefused (answered world left made found).reply
answered_or_refused world left made None one = inl (answer_text made, refl)
answered_or_refused world left made (Some cause) one = declined_refused cause one

module _ (known : HasAnswers) (world : World) (coherent : IsCoherent world) (sound : IsSoundSource world.source) where
  -- what a site holds
  site_sound : (site : ℕ) → IsSoundSite (holding_state world.source (content_at world site))
  site_sound site = search (rules, site_bounds, site_proper)

  told_or_refused : (site : ℕ) (asked : Query) → IsAnsweredOrRefused (told world.source (content_at world site) asked)
  told_or_refused site asked =
      let held = holding_state world.source (content_at world site) in
      elim (known.refusal asked held (site_sound site)) [
        | inl free ↦ (let (text, is) = known.text asked held (site_sound site) free in inl (text, (free, is)))
        | inr refused ↦ inr refused
      ]

  step_answered : (step : Step) (made : Answer) → IsAnsweredOrRefused (answered world (after world step) made (step_refusal world step)).reply
  step_answered step made = search (rules, answered_or_refused, step_fits)

  sending_answered : (site : ℕ) (part : Content) (held : Bool)
      → IsAnsweredOrRefused (answered world (after world (sent site part)) (answer.Sent (length world.packets + 1)) (send_refusal world site held)).reply
  sending_answered site part held = search (rules, answered_or_refused, send_fits)

  action_answered : (site : ℕ) (action : Action) → IsReadOrRefused action → IsAnsweredOrRefused (action_effect world site action).reply
  action_answered site (change (Ok made)) one = search (rules, step_answered)
  action_answered site (change (Err cause)) one = declined_refused cause one
  action_answered site (merge other) one = search (rules, step_answered)
  action_answered site send_all one = search (rules, sending_answered)
  action_answered site (send records tombstones) one = search (rules, sending_answered)
  action_answered site (deliver packet) one = search (rules, step_answered)
  action_answered site (query (Ok asked)) one = told_or_refused site asked
  action_answered site (query (Err cause)) one = declined_refused cause one

  form_answered : (number : ℕ) (command : Option Command) → IfSome command (λ found. IsReadOrRefused found.action) → IsAnsweredOrRefused (form_effect number world command).reply
  form_answered number None one = inr (refusal_at code.Line number, refl)
  form_answered number (Some command) one = by (has_site world command.site)
    where
      by : (t : Bool) → IsAnsweredOrRefused (cond t (action_effect world command.site command.action) (refusing world (refused code.NoSite))).reply
      by true = action_answered _ _ one
      by false = inr (refusal code.NoSite, refl)

  -- ---- a line
  line_answered : (number : ℕ) (words : List (List ℕ)) → HasOutput (line_outcome number world words).replies
  line_answered number words = by (is_skipped words) refl
    where
      by : (t : Bool) → is_skipped words ≡ t → HasOutput (line_outcome number world words).replies
      by true e = subst (λ (o : Outcome). HasOutput o.replies) (sym (line_outcome-skipped number world words e)) no_replies
      by false e =
          let effect = line_effect number world words in
          subst (λ (o : Outcome). HasOutput o.replies) (sym (line_outcome-run number world words e))
          (one_reply effect.reply
          (subst (λ (f : CommandEffect). IsAnsweredOrRefused f.reply) (line_effect-is _ world words _ refl)
          (form_answered number (command_of (events_of world.source) words) (command_fits (events_of world.source) words))))

-- ---- lines, one after the other
lines_answered : HasAnswers → (number : ℕ) (world : World) (lines : List (List ℕ)) → IsCoherent world → IsSoundSource world.source → HasOutput (lines_outcome number world lines).replies
unfolding lines_outcome
lines_answered known number world [] coherent sound = no_replies
lines_answered known number world (line ∷ lines) coherent sound =
    let next = (line_outcome number world (words_of line)).world in
    let steps = line_steps world (words_of line) in
    let is = line_run _ world _ coherent in
    more_replies _ _
    (line_answered known world coherent sound number (words_of line))
    (lines_answered known (number + 1) next lines
    (subst IsCoherent (sym is) (coherent_run world steps coherent))
    (subst IsSoundSource (sym (ap (λ (w : World). w.source) is ∙ run_keeps world steps)) sound))

-- ---- a script
pub script_answered : HasAnswers → (script : List ℕ) → HasOutput (script_outcome script).replies
unfolding script_outcome
script_answered known script = by (heading_of (last_line script) (lines_of script)) (heading_fits _ _)
  where
    by : (heading : Result Start Failure) → IsFitOrRefused IsSoundStart heading → HasOutput (started heading).replies
    by (Ok start) sound =
        lines_answered known _ _ _ (coherent_at_first start.source start.sites) sound
    by (Err cause) one = one_reply _ (declined_refused cause one)
