-- The lines of a shell: their words, how they are read, and how they come one after the other; and what is told.
use Rattle.std.{proofs.{lemmas.Grind.common_steps, Common.{arith, rules, Bor, Vec, map, Bool, true, false, Option, is_some, ◌≡◌, ◌∙◌, ap, sym, refl, ℕ, List, [], ◌∷◌, ◌++◌, append_assoc}}, specs.{Prelude.{not, IsUtf8, IfNone, IfSome, IfOk, MatchResult, if◌then◌else◌, Ok, Err, Result}, Int.from_bool, List.AllByRecursion}}
use Rattle.stn_effects.specs.{Effects.{Effect, stopped, went, seen}, Printing.{Device, TellsText}}
use Rattle.stn_refusal.specs.declared.failure.Failure.{Failure}
use Rattle.stn_shell.specs.{Carried.{Succeeds, Does}, Outside.{Outside, TellsSome}}

-- one text more
pub texts_more : (words : List (List ℕ)) (word : List ℕ) → AllByRecursion IsUtf8 words → IsUtf8 word → AllByRecursion IsUtf8 (words ++ word ∷ [])
texts_more words word texts text = grind (arith, common_steps)

-- a word that is no text
pub no_texts : (words : List (List ℕ)) (word : List ℕ) (later : List (List ℕ)) → ¬ (IsUtf8 word) → ¬ (AllByRecursion IsUtf8 (words ++ word ∷ later))
no_texts [] word later none all = none all.0
no_texts (first ∷ words) word later none all = no_texts words word later none all.1

-- the status of a shell, by whether a line was refused
pub refused_status : (refused : Bool) (status : ℕ) → status ≡ from_bool refused → status ≡ (if refused then 1 else 0)
refused_status refused status is = search rules

now_more : (words : List (Bor (List ℕ))) (word : Bor (List ℕ)) → map (λ one. one.now) (words ++ word ∷ []) ≡ map (λ one. one.now) words ++ word.now ∷ []
now_more words word = grind (arith, common_steps)

-- one word more was read
pub one_further : (before words pushed : List (Bor (List ℕ))) (word : Bor (List ℕ)) (cut : List ℕ) (all rest later texts : List (List ℕ))
    → AllByRecursion IsUtf8 texts → IsUtf8 cut → all ≡ texts ++ rest → rest ≡ cut ∷ later → word.now ≡ cut
    → map (λ one. one.now) words ≡ map (λ one. one.now) before ++ texts → pushed ≡ words ++ word ∷ []
    → (more : List (List ℕ)) × AllByRecursion IsUtf8 more × (all ≡ more ++ later) × (map (λ one. one.now) pushed ≡ map (λ one. one.now) before ++ more)
one_further before words pushed word cut all rest later texts are text split next is read push = (
  texts ++ cut ∷ [],
  texts_more texts cut are text,
  split ∙ ap (λ behind. texts ++ behind) next ∙ sym (append_assoc texts (cut ∷ []) later),
  ap (map (λ one. one.now)) push ∙ now_more words word ∙ ap (λ front. front ++ word.now ∷ []) read
      ∙ append_assoc (map (λ one. one.now) before) texts (word.now ∷ []) ∙ ap (λ last. map (λ one. one.now) before ++ (texts ++ last ∷ [])) is,
)

-- what was done has the status 0
pub succeeded : (Does : Effect Outside (Unit {0})) (old new : Outside) (done : Result (Unit {0}) Failure) (told : Result ℕ Failure) → told ≡ seen (λ _. 0) done
    → Does old new done → Succeeds Does old new told
succeeded Does old new (Ok done) told is does = went done new does (refl, is)
succeeded Does old new (Err failure) told is does = stopped failure does is

-- what is told of a text that was made for it
pub tells_some : {A E : Type 0} (Is : List ℕ → Type 0) (made : Result (Vec ℕ A) E) (err told : Device) → IfOk made (λ text. Is text.items)
    → MatchResult made (λ text. TellsText text.items err told) (λ _. told ≡ err) → TellsSome Is err told
tells_some Is made err told is tells = search rules

-- whether a line is skipped, by whether there is a word that opens it
pub skipped_without : {X : Type 0} (word : Option X) (none skipped : Bool) → IfNone word (skipped ≡ true) → IfSome word (λ _. skipped ≡ false) → is_some word ≡ not none
    → skipped ≡ none
skipped_without word none skipped skips keeps is = search rules
