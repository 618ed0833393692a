-- The heading and the lines of a script, one after the other.
use Rattle.std.proofs.{lemmas.Grind.common_steps, Common.{rules, ◌≡◌, ℕ, ◌+◌, ◌-◌, ◌≤◌, true, false, List, [], ◌∷◌, ◌++◌, length, Option, Some, None, Result, Ok, Err, inl, inr, refl, sym, ap, ◌∙◌, arith, codes, append_assoc}, KnownBytes.Appends-trans}
use Rattle.stn_device.specs.Bytes.{AppendsPart}
use Rattle.stn_effects.specs.Printing.{Device}
use Rattle.stn_text.specs.Lines.{lines_of, words_of}
use Rattle.stn_refusal.specs.{declared.{code.Code.TheVariants.NoSite, refusal.Refusal.Refusal, failure.Failure.{Failure, TheVariants.Refused}}, Printed.refusal_text, Refusals.refused}
use Rattle.stn_exec.{specs.{Heading.IsHeadingFailure, Effect.{CommandReply, CommandEffect}, Command.{Command, command_of}, Output.{IsReplyText, IsOutput, CountsRefusals, WritesOutput, WritesOutputPart}, Running.IsReplied, Runs.IsCutOff, Saying.IsDone, Script.{nothing_run, followed_by, form_effect, is_skipped, line_effect, effect_outcome, line_outcome, lines_outcome, next_line, Found, or_line, heading_number, sites_of, Based, Start, based, with_sites, heading_of, started, last_line, script_outcome}}, proofs.Outputs.counts_join}
use Rattle.stn_lift.specs.PlanSource.{events_of}
use Rattle.stn_records.specs.Id.{IsSite}
use Rattle.stn_world.specs.{Faults.IsOpeningFailure, World.{World, opening_world}}

-- an empty text has no lines
pub lines_of-none : (text : List ℕ) → length text ≡ 0 → lines_of text ≡ []
unfolding lines_of
lines_of-none text none = grind (arith, common_steps)

pub next_line-none : (number : ℕ) → next_line number [] ≡ None
unfolding next_line
next_line-none number = refl

-- a line that is not skipped is the next
pub next_line-here : (number : ℕ) (line : List ℕ) (lines : List (List ℕ)) → is_skipped (words_of line) ≡ false → next_line number (line ∷ lines) ≡ Some (record { number = number; words = words_of line; behind = lines })
unfolding next_line
next_line-here number line lines e = cc

-- a line that is skipped
pub next_line-skip : (number : ℕ) (line : List ℕ) (lines : List (List ℕ)) → is_skipped (words_of line) ≡ true → next_line number (line ∷ lines) ≡ next_line (number + 1) lines
unfolding next_line
next_line-skip number line lines e = cc

pub sites_of-some : (sites : ℕ) → 1 ≤ sites → sites ≤ 64 → sites_of sites ≡ Ok sites
sites_of-some sites least most = grind (arith)

pub sites_of-none : (sites : ℕ) → (1 ≤ sites → ¬ (sites ≤ 64)) → sites_of sites ≡ Err (refused NoSite)
sites_of-none sites none = search rules

-- ---- the faults of the heading in their order, and the heading
-- a heading that is refused, and not for lack of memory
pub heading-refused : {T : Type 0} (wanted : Result T Failure) (refusal : Refusal) → IsHeadingFailure wanted (Refused refusal) → wanted ≡ Err (Refused refusal)
heading-refused wanted refusal h2 = search rules

pub heading-ended : (last : ℕ) (lines : List (List ℕ)) (base : Based) (cause : Failure) → based last lines ≡ Ok base
    → or_line last (next_line base.number base.lines) ≡ Err cause → heading_of last lines ≡ Err cause
unfolding with_sites
heading-ended last lines base cause e f = cc

module _ (last : ℕ) (lines : List (List ℕ)) (base : Based) (found : Found) (e : based last lines ≡ Ok base) (f : or_line last (next_line base.number base.lines) ≡ Ok found) where
  pub heading-fault : (cause : Failure) → or_line found.number (heading_number (codes "sites") found.words) ≡ Err cause → heading_of last lines ≡ Err cause
  unfolding with_sites
  heading-fault cause g = cc

  heading-none : (sites : ℕ) → or_line found.number (heading_number (codes "sites") found.words) ≡ Ok sites → sites_of sites ≡ Err (refused NoSite) → heading_of last lines ≡ Err (refused NoSite)
  unfolding with_sites
  heading-none sites g none = cc

  pub heading-unopened : (sites count : ℕ) (failure : Failure) → or_line found.number (heading_number (codes "sites") found.words) ≡ Ok sites
      → (1 ≤ sites → sites ≤ 64 → IsSite count) → IsOpeningFailure count failure → IsHeadingFailure (heading_of last lines) failure
  heading-unopened sites count failure g site (inl none) = inr (heading-none sites g (sites_of-none sites (λ least most. none.0 (site least most))) ∙ ap Err (sym none.1))
  heading-unopened sites count failure g site (inr lacking) = inl lacking.1

  pub heading-made : (sites : ℕ) → or_line found.number (heading_number (codes "sites") found.words) ≡ Ok sites → sites_of sites ≡ Ok sites
      → heading_of last lines ≡ Ok (record { source = base.source; sites = sites; number = found.number + 1; lines = found.behind })
  unfolding with_sites
  heading-made sites g some = cc

-- a line that is skipped, and one that is run
pub line_outcome-skipped : (number : ℕ) (world : World) (words : List (List ℕ)) → is_skipped words ≡ true → line_outcome number world words ≡ nothing_run world
unfolding line_outcome
line_outcome-skipped number world words e = cc

pub line_outcome-run : (number : ℕ) (world : World) (words : List (List ℕ)) → is_skipped words ≡ false → line_outcome number world words ≡ effect_outcome (line_effect number world words)
unfolding line_outcome
line_outcome-run number world words e = cc

pub line_effect-is : (number : ℕ) (world : World) (words : List (List ℕ)) (command : Option Command) → command ≡ command_of (events_of world.source) words → form_effect number world command ≡ line_effect number world words
unfolding line_effect
line_effect-is number world words command e = ap (form_effect number world) e

-- a line is at most one command
pub line_outcome-counts : (number : ℕ) (world : World) (words : List (List ℕ)) (count : ℕ) → CountsRefusals (line_outcome number world words).replies count
    → ((line_outcome number world words).commands ≤ 1) × (count ≤ 1)
line_outcome-counts number world words count counts = search (rules, line_outcome-skipped, line_outcome-run)

-- no lines, and one line more
pub lines_outcome-none : (number : ℕ) (world : World) (text : List ℕ) → length text ≡ 0 → lines_outcome number world (lines_of text) ≡ nothing_run world
unfolding lines_outcome
lines_outcome-none number world text none = cc (lines_of-none text none)

pub lines_outcome-more : (number : ℕ) (world next : World) (text line behind : List ℕ) → lines_of text ≡ line ∷ lines_of behind → next ≡ (line_outcome number world (words_of line)).world
    → lines_outcome number world (lines_of text) ≡ followed_by (line_outcome number world (words_of line)) (lines_outcome (number + 1) next (lines_of behind))
unfolding lines_outcome
lines_outcome-more number world next text line behind e is = cc

-- the outputs of replies, one after the other
pub outputs_join : (first later : List CommandReply) (text more : List ℕ) → IsOutput first text → IsOutput later more → IsOutput (first ++ later) (text ++ more)
outputs_join [] later text more e p = search rules
outputs_join (reply ∷ first) later text more e p =
    (e.0, e.1 ++ more, e.2, outputs_join first later e.1 more e.3 p, ap (λ (l : List ℕ). l ++ more) e.4 ∙ append_assoc e.0 e.1 more)

pub output_one : (reply : CommandReply) (text : List ℕ) → IsReplyText reply text → IsOutput (reply ∷ []) text
output_one reply text is = search rules

-- what was written so far, and then one line more
pub texts-more : (a b c : Option (List ℕ)) (whole done first later now : List CommandReply) → WritesOutput a b done → WritesOutput b c first → whole ≡ done ++ now → now ≡ first ++ later
    → (m n : ℕ) → CountsRefusals done m → CountsRefusals first n → (more : List CommandReply) × WritesOutput a c more × (whole ≡ more ++ later) × CountsRefusals more (m + n)
texts-more a b c whole done first later now p q e f m n counts last = search (rules, outputs_join, append_assoc, counts_join)

-- what was written so far, and then a part of one line
pub texts-part : (a b c : Option (List ℕ)) (whole done first later now : List CommandReply) → WritesOutput a b done → WritesOutputPart b c first → whole ≡ done ++ now → now ≡ first ++ later
    → WritesOutputPart a c whole
texts-part a b c whole done first later now p q e f = (
  p.0 ++ q.0,
  record {
    first = done ++ q.1.first;
    later = q.1.later ++ later;
    output = p.0 ++ q.1.output;
    left = q.1.left;
    parts = e ∙ ap (λ l. done ++ l) (f ∙ ap (λ l. l ++ later) q.1.parts ∙ append_assoc q.1.first q.1.later later) ∙ sym (append_assoc done q.1.first (q.1.later ++ later));
    printed = outputs_join done q.1.first p.0 q.1.output p.1 q.1.printed;
    front = ap (λ l. p.0 ++ l) q.1.front ∙ sym (append_assoc p.0 q.0 q.1.left);
  },
  Appends-trans a b c p.0 q.0 p.2 q.2,
)

-- so nothing more, and why
pub cut_later : (a b c : Device) (failure : Failure) → b.failures ≡ a.failures → IsCutOff b c failure → IsCutOff a c failure
cut_later a b c failure same h5 = search rules

-- a part of a reply's text was written
pub part-one : (a b : Option (List ℕ)) (reply : CommandReply) (text : List ℕ) → IsReplyText reply text → AppendsPart a b text → WritesOutputPart a b (reply ∷ [])
part-one a b reply text is part =
    (part.0, record { first = reply ∷ []; later = []; output = text; left = part.1; parts = refl; printed = output_one reply text is; front = part.2 }, part.3)

-- a script by its heading
pub script_outcome-is : (script : List ℕ) (start : Result Start Failure) → start ≡ heading_of (last_line script) (lines_of script) → started start ≡ script_outcome script
unfolding script_outcome
script_outcome-is script start e = ap started e

-- the lines after a heading that was read
pub opened_outcome : (script : List ℕ) (start : Start) (world : World) (number : ℕ) (lines : List (List ℕ)) → heading_of (last_line script) (lines_of script) ≡ Ok start
    → world ≡ opening_world start.source start.sites → start.number ≡ number → start.lines ≡ lines → lines_outcome number world lines ≡ script_outcome script
opened_outcome script start world number lines read opening at behind = cc (script_outcome-is script (Ok start) (sym read))

-- an answer that was appended
pub done_replied : (world : World) (old new : List ℕ) (effect : CommandEffect) → IsDone world old new effect (Ok tt) → IsReplied world old new effect false
done_replied world old new effect is = search rules

-- a refusal that was appended
pub refused_replied : (world : World) (old kept new : List ℕ) (effect : CommandEffect) (refusal : Refusal) → IsDone world old kept effect (Err (Refused refusal))
    → new ≡ kept ++ refusal_text refusal → IsReplied world old new effect true
refused_replied world old kept new effect refusal h6 appended = search rules
