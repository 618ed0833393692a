-- What a feeder gives for some bytes, however they are cut.
use Rattle.std.{proofs.{Common.{rules, ◌≡◌, ℕ, List, [], ◌∷◌, ◌++◌, length, take, Option, Some, None, Result, Ok, Err, ◌⊎◌, inl, inr, refl, sym, ap, subst, ◌∙◌, ⊎_elim, arith, append_assoc}, lemmas.List.take_all, Math.Seq.take-append-add}, specs.{Prelude.flat_map, List.AllByRecursion}}
use Rattle.stn_wire.{specs.{Frame.{FrameContent, content, spelling, IsFrame}, Front.{whole, faulty, unfinished, IsFront}, Feeder.{FeederState, holding, broken_by, CompletesFrame, IsFed}, declared.{fault.WireFault.{WireFault, TheVariants.{OldFrame, Memory}}, feeder.Fed.Fed, frame.Frame.Frame}, Feeding.{Call, Feeds, bytes_by, frame_by, frames_by, stream_of, frames_of}}, proofs.Fronts.fault_more}
use Rattle.stn_laws.proofs.frames.Fronts.{one_front_lem, one_spelling_lem, whole_spelled}

-- a feeder that was given these bytes after its last whole frame
abbrev pub Ends : List ℕ → FeederState → Type 0
Ends rest last = ((last ≡ holding rest) × IsFront rest unfinished) ⊎ ((fault : WireFault) × (last ≡ broken_by fault) × IsFront rest (faulty fault))

-- the bytes are those of the frames, and a rest that the feeder is left with
pub record Gives (bytes : List ℕ) (frames : List FrameContent) (last : FeederState) : Type 0 where
  pub rest : List ℕ
  pub each : AllByRecursion IsFrame frames
  pub cut : bytes ≡ flat_map spelling frames ++ rest
  pub ends : Ends rest last

-- a broken feeder stays as it is, and gives nothing
stays : {A : Type 0} (fault : WireFault) (calls : List (Call A)) (first last : FeederState) → first ≡ broken_by fault → Feeds first calls last → (frames_of calls ≡ []) × (last ≡ broken_by fault)
stays fault [] first last is fed = (refl, fed ∙ is)
stays fault (call ∷ calls) first last is fed =
    let kept = fed.1.broken fault (ap (λ (s : FeederState). s.broken) is) in
    let later = stays fault calls fed.0 last (kept.1 ∙ is) fed.2 in
    (λ i. frames_by (kept.0 i) ++ later.0 i, later.1)

-- what a call gives before what the later ones do, by what it leaves
module _ (A : Type 0) (held piece : List ℕ) (next : FeederState) (stream : List ℕ) (frames : List FrameContent) (last : FeederState)
    (on : (left : List ℕ) → next ≡ holding left → IsFront left unfinished → Gives (left ++ stream) frames last)
    (off : (fault : WireFault) → next ≡ broken_by fault → (frames ≡ []) × (last ≡ broken_by fault)) where
  breaks : (fault : WireFault) → IsFront (held ++ piece) (faulty fault) → next ≡ broken_by fault → Gives (held ++ (piece ++ stream)) frames last
  breaks fault front is =
      let none = off fault is in
      subst (λ f. Gives (held ++ (piece ++ stream)) f last) (sym none.0)
      (record { rest = held ++ (piece ++ stream); each = tt; cut = refl; ends = inr (fault, none.1, subst (λ l. IsFront l (faulty fault)) (append_assoc held piece stream) (fault_more (held ++ piece) stream fault front)) })

  takes : (used : ℕ) (frame : Option (Frame A)) → CompletesFrame held piece used frame next → Gives (held ++ (take used piece ++ stream)) (frame_by frame ++ frames) last
  takes used None taken = search (rules, take_all, append_assoc)
  takes used (Some frame) taken =
      let later = on [] taken.1 (inl (omega arith)) in
      let front : held ++ take used piece ≡ spelling (content frame) = sym (take-append-add held piece used) ∙ taken.0.2 in
      record {
        rest = later.rest;
        each = (taken.0.0, later.each);
        cut = sym (append_assoc held (take used piece) stream) ∙ (λ i. front i ++ later.cut i)
            ∙ sym (append_assoc (spelling (content frame)) (flat_map spelling frames) later.rest);
        ends = later.ends;
      }

  answers : IsFront held unfinished → (answer : Result (Fed A) WireFault) → IsFed held piece answer next → Gives (held ++ (bytes_by piece answer ++ stream)) (frames_by answer ++ frames) last
  answers before (Ok fed) is = search (rules, takes)
  answers before (Err Memory) is = on held is before
  answers before (Err OldFrame) is = absurd is
  answers before (Err fault) is = breaks fault is.0 is.1

gives : (A : Type 0) (calls : List (Call A)) (held : List ℕ) (first last : FeederState) → first ≡ holding held → IsFront held unfinished → Feeds first calls last → Gives (held ++ stream_of calls) (frames_of calls) last
gives A [] held first last is before fed = search rules
gives A (call ∷ calls) held first last is before fed =
    answers A held call.piece fed.0 (stream_of calls) (frames_of calls) last
    (λ left next unfinished. gives A calls left fed.0 last next unfinished fed.2) (λ fault next. stays fault calls fed.0 last next fed.2)
    before call.answer (subst (λ (s : FeederState). IsFed s.held call.piece call.answer fed.0) is (fed.1.fed (ap (λ (s : FeederState). s.broken) is)))

-- ---- bytes give one thing

-- no frame stands in front of what a feeder is left with
no_frame : (rest later : List ℕ) (frame : FrameContent) (last : FeederState) → IsFrame frame → rest ≡ spelling frame ++ later → Ends rest last → ⊥
no_frame rest later frame last is front =
    let stands = subst (λ l. IsFront l (whole frame (length (spelling frame)))) (sym front) (whole_spelled frame later is) in
    ⊎_elim (λ whole_held. let clash = one_front_lem rest unfinished (whole frame (length (spelling frame))) whole_held.1 stands in absurd (cc))
    (λ broken. let clash = one_front_lem rest (faulty broken.0) (whole frame (length (spelling frame))) broken.2 stands in absurd (cc))

same_end : (rest : List ℕ) (one other : FeederState) → Ends rest one → Ends rest other → one ≡ other
same_end rest one other = search rules

walk : (bytes : List ℕ) (F G : List FrameContent) (rest left : List ℕ) (one other : FeederState) → AllByRecursion IsFrame F → AllByRecursion IsFrame G → bytes ≡ flat_map spelling F ++ rest → bytes ≡ flat_map spelling G ++ left
    → Ends rest one → Ends left other → (F ≡ G) × (one ≡ other)
walk bytes [] [] rest left one other isF isG cutF cutG p q = search rules
walk bytes [] (g ∷ G) rest left one other isF isG cutF cutG p q =
    absurd (no_frame rest (flat_map spelling G ++ left) g one isG.0 (sym cutF ∙ (cutG ∙ append_assoc (spelling g) (flat_map spelling G) left)) p)
walk bytes (f ∷ F) [] rest left one other isF isG cutF cutG p q =
    absurd (no_frame left (flat_map spelling F ++ rest) f other isF.0 (sym cutG ∙ (cutF ∙ append_assoc (spelling f) (flat_map spelling F) rest)) q)
walk bytes (f ∷ F) (g ∷ G) rest left one other isF isG cutF cutG p q =
    let both = one_spelling_lem f g (flat_map spelling F ++ rest) (flat_map spelling G ++ left) isF.0 isG.0
    (sym (append_assoc (spelling f) (flat_map spelling F) rest) ∙ (sym cutF ∙ (cutG ∙ append_assoc (spelling g) (flat_map spelling G) left))) in
    let later = walk (flat_map spelling F ++ rest) F G rest left one other isF.1 isG.1 refl both.1 p q in
    (λ i. both.0 i ∷ later.0 i, later.1)

pub one_feeding_lem : {A B : Type 0} (one : List (Call A)) (other : List (Call B)) (last final : FeederState) → Feeds (holding []) one last → Feeds (holding []) other final → stream_of one ≡ stream_of other
    → (frames_of one ≡ frames_of other) × (last ≡ final)
one_feeding_lem {A = A} {B = B} one other last final fed feeds same =
    let p = gives A one [] (holding []) last refl (inl (omega arith)) fed in
    let q = gives B other [] (holding []) final refl (inl (omega arith)) feeds in
    walk (stream_of one) (frames_of one) (frames_of other) p.rest q.rest last final p.each q.each p.cut (same ∙ q.cut) p.ends q.ends
