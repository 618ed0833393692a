-- What is answered to records that are taken in, or refused.
use Rattle.std.{proofs.{Common.{rules, ◌≡◌, ◌↔◌, ℕ, Bool, true, false, inr, not, List, ◌++◌, Option, Some, None, refl, ap, ◌∙◌}, lemmas.Bool.false≢true}, specs.Prelude.{is_some, IsTrue}}
use Rattle.stn_records.specs.{Content.{Content, IsPart}, ContentLaws.contents_join}
use Rattle.stn_site.specs.{Calls.{Leaves, took}, Held.Held, Refusals.take_refusal}
use Rattle.stn_wire.specs.Frame.{spelling, records}
use Rattle.stn_session.specs.{Session.{Answer, take_code, taking}, Turns.{IsAnswered, IsChange}, declared.replies.Turn.Turn}

none_there : {X : Type 0} (o : Option X) → not (is_some o) ≡ true → o ≡ None
none_there o e = search rules

-- the answer to a frame of records
abbrev pub taking_of : Held → Content → Answer
taking_of old theirs = taking old.state theirs (take_code old.source old.state theirs)

joining : (old : Held) (theirs : Content) → take_refusal old theirs ≡ None → taking_of old theirs ≡ taking old.state theirs None
joining old theirs none = search rules

-- a state that was taken in is another one exactly where not all of it was held
pub changed_unless_held : (old new : Held) (theirs : Content) (held : Bool) → IsTrue held ↔ IsPart theirs old.state → (IsPart theirs old.state → new ≡ old) → Leaves old (took theirs) new
    → IsChange old.state new.state (not held)
changed_unless_held old new theirs true told again leaves = cc (again (told.0 refl))
changed_unless_held old new theirs false told again leaves =
    λ same. false≢true (told.1 (λ item has. (contents_join.union old.state theirs old.state (leaves.state ∙ ap Some same) item).1 (inr has)))

abbrev going_on : Bool → Turn
going_on changed = record { greeted = true; ended = None; changed = changed }

pub taken_answered : (old new : Held) (theirs : Content) (changed : Bool) (before after : List ℕ) → take_refusal old theirs ≡ None → Leaves old (took theirs) new
    → IsChange old.state new.state changed → after ≡ before ++ spelling (records new.state) → IsAnswered (taking_of old theirs) old.state new.state before after (going_on changed)
taken_answered old new theirs changed before after none leaves differs appended = search rules
