-- Bytes have one reception.
use Rattle.std.{proofs.{Common.{rules, ◌≡◌, ◌⊎◌, ℕ, ◌+◌, ◌-◌, ◌<◌, ◌≤◌, List, [], ◌∷◌, ◌++◌, length, take, Option, Some, None, Result, Ok, Err, refl, sym, ap, subst, ◌∙◌, inl, inr, ⊎_elim, arith, append_assoc, length-append}, lemmas.List.take_at, Math.Seq.{take-append-add, take-nil}}, specs.{Prelude.flat_map, List.AllByRecursion}}
use Rattle.stn_device.specs.Bytes.{most_bytes}
use Rattle.stn_lift.specs.PlanSource.{PlanSource}
use Rattle.stn_records.specs.Content.{Content}
use Rattle.stn_wire.{specs.{Frame.{FrameContent, spelling, IsFrame}, Front.{whole, faulty, unfinished, IsFront}, Stream.wire_fault}, proofs.{Fronts.fault_more}}
use Rattle.stn_laws.{specs.Reception.SaysReplies, proofs.frames.Fronts.{one_front_lem, one_spelling_lem, whole_in_front}}
use Rattle.stn_session.specs.{Exchange.{Stage, greeting, told, failed, Reception, at_stage, expecting, staged, replied, IsWaiting, IsLost, IsReceived}, declared.exchange.ReplyFault.{ReplyFault, TheVariants.{Frame, Reply, Bound}}}

-- what a stage answers, where no reply is waited for
abbrev pub verdict : Stage → Option (Result (List ℕ) ReplyFault)
verdict (told bytes) = Some (Ok bytes)
verdict (failed fault) = Some (Err fault)
verdict stage = None

waiting_none : (stage : Stage) → IsWaiting stage → verdict stage ≡ None
waiting_none stage waits = search rules

decided : (stage : Stage) → IsWaiting stage ⊎ ((answer : Result (List ℕ) ReplyFault) × (verdict stage ≡ Some answer))
decided (told bytes) = inr (Ok bytes, refl)
decided (failed fault) = inr (Err fault, refl)
decided stage = inl tt

-- frames after the last reply change nothing
stays : (source : PlanSource) (stage : Stage) (state : Content) (frames : List FrameContent) (answer : Result (List ℕ) ReplyFault) → verdict stage ≡ Some answer
    → replied source (at_stage stage state) frames ≡ at_stage stage state
stays source stage state [] answer over = refl
stays source (told bytes) state (frame ∷ frames) answer over = stays source (told bytes) state frames answer over
stays source (failed fault) state (frame ∷ frames) answer over = stays source (failed fault) state frames answer over
stays source stage state (frame ∷ frames) answer over = absurd (cc)

-- why no further reply came, by what stands after the frames among the bytes of an input that may be read
abbrev pub IsMissed : List ℕ → List ℕ → ReplyFault → Type 0
IsMissed input tail Reply = (length input ≤ most_bytes) × IsFront tail unfinished
IsMissed input tail (Frame fault) = IsFront tail (faulty (wire_fault fault))
IsMissed input tail Bound = (most_bytes < length input) × IsFront tail unfinished
IsMissed input tail fault = ⊥

abbrev pub IsEnd : List ℕ → Stage → List ℕ → Result (List ℕ) ReplyFault → Type 0
IsEnd input stage tail answer = (verdict stage ≡ Some answer) ⊎ (IsWaiting stage × ((fault : ReplyFault) × (answer ≡ Err fault) × IsMissed input tail fault))

-- what an input comes to
pub record Settles (source : PlanSource) (first : Content) (input : List ℕ) (state : Content) (answer : Result (List ℕ) ReplyFault) : Type 0 where
  pub frames : List FrameContent
  pub tail : List ℕ
  pub each : AllByRecursion IsFrame frames
  pub cut : take most_bytes input ≡ flat_map spelling frames ++ tail
  pub end : IsEnd input (replied source (expecting first) frames).stage tail answer
  pub left : state ≡ (replied source (expecting first) frames).state

-- ---- what was received is what the input comes to

-- of an input that begins with these bytes, so many may be read
front_read : (bytes left : List ℕ) → length bytes ≤ most_bytes → take most_bytes (bytes ++ left) ≡ bytes ++ take (most_bytes - length bytes) left
front_read bytes left few =
    let rest : ◌≡◌ {A = ℕ} most_bytes (length bytes + (most_bytes - length bytes)) = omega (arith, few) in
    ap (λ n. take n (bytes ++ left)) rest ∙ take-append-add bytes left (most_bytes - length bytes)

module _ (source : PlanSource) (first : Content) (input : List ℕ) (state : Content) (frames : List FrameContent) (rest bytes left : List ℕ) (each : AllByRecursion IsFrame frames)
    (read : input ≡ bytes ++ left) (cut : bytes ≡ flat_map spelling frames ++ rest) (kept : state ≡ (replied source (expecting first) frames).state) where
  -- all that was read may be read
  settles : (answer : Result (List ℕ) ReplyFault) → length bytes ≤ most_bytes
      → IsEnd input (replied source (expecting first) frames).stage (rest ++ take (most_bytes - length bytes) left) answer → Settles source first input state answer
  settles answer few end = search (rules, front_read, append_assoc)

  -- one byte more was read
  settles_beyond : (front : List ℕ) (byte : ℕ) → length bytes ≡ most_bytes + 1 → rest ≡ front ++ byte ∷ [] → IsFront front unfinished → IsWaiting (replied source (expecting first) frames).stage
      → Settles source first input state (Err Bound)
  settles_beyond front byte many is unended waits =
      let parts : input ≡ (flat_map spelling frames ++ front) ++ (byte ∷ left) =
      read
      ∙ ap (λ l. l ++ left) (cut ∙ ap (λ l. flat_map spelling frames ++ l) is ∙ sym (append_assoc (flat_map spelling frames) front (byte ∷ [])))
      ∙ append_assoc (flat_map spelling frames ++ front) (byte ∷ []) left in
      let long : length bytes ≡ length (flat_map spelling frames ++ front) + 1 =
      ap length (cut ∙ ap (λ l. flat_map spelling frames ++ l) is ∙ sym (append_assoc (flat_map spelling frames) front (byte ∷ [])))
      ∙ length-append (flat_map spelling frames ++ front) (byte ∷ []) in
      let whole_front : length (flat_map spelling frames ++ front) ≡ most_bytes = omega (arith, long, many) in
      record {
        frames = frames;
        tail = front;
        each = each;
        cut = ap (take most_bytes) parts ∙ take_at (flat_map spelling frames ++ front) (byte ∷ left) most_bytes whole_front;
        end = inr (waits, (Bound, refl, (omega (arith, ap length parts, length-append (flat_map spelling frames ++ front) (byte ∷ left), whole_front), unended)));
        left = kept;
      }

  -- a reply is missing
  misses : (fault : ReplyFault) → IsWaiting (replied source (expecting first) frames).stage → IsLost rest (length bytes) (Some left) fault → SaysReplies (Err fault) → Settles source first input state (Err fault)
  misses fault waits lost says = search (rules, take-nil, settles, fault_more, settles_beyond)

settled : (source : PlanSource) (first : Content) (input : List ℕ) (after : Option (List ℕ)) (state : Content) (answer : Result (List ℕ) ReplyFault) → IsReceived source first (Some input) after state answer → SaysReplies answer
    → Settles source first input state answer
settled source first input None state answer is says = absurd is.consumed
settled source first input (Some left) state (Ok text) is says = search (rules, settles)
settled source first input (Some left) state (Err fault) is says = search (rules, settles, misses)

-- ---- an input comes to one thing

-- a reply is missing for one cause
one_cause : (input tail : List ℕ) (one other : ReplyFault) → IsMissed input tail one → IsMissed input tail other → one ≡ other
one_cause input tail one other p q = search rules

-- where a reply is waited for and missing, no frame stands
no_frame : (input tail later : List ℕ) (frame : FrameContent) (fault : ReplyFault) → IsFrame frame → tail ≡ spelling frame ++ later → IsMissed input tail fault → ⊥
no_frame input tail later frame fault is front missed = by fault missed
  where
    stands : IsFront tail (whole frame (length (spelling frame)))
    stands = whole_in_front frame tail later is front

    by : (fault : ReplyFault) → IsMissed input tail fault → ⊥
    by Reply missed = let clash = one_front_lem tail unfinished (whole frame (length (spelling frame))) missed.1 stands in absurd (cc)
    by (Frame cause) missed = let clash = one_front_lem tail (faulty (wire_fault cause)) (whole frame (length (spelling frame))) missed stands in absurd (cc)
    by Bound missed = let clash = one_front_lem tail unfinished (whole frame (length (spelling frame))) missed.1 stands in absurd (cc)
    by fault missed = missed

missed : (input tail : List ℕ) (stage : Stage) (answer : Result (List ℕ) ReplyFault) → IsWaiting stage → IsEnd input stage tail answer → (fault : ReplyFault) × (answer ≡ Err fault) × IsMissed input tail fault
missed input tail stage answer waits = ⊎_elim (λ over. let none = waiting_none stage waits in absurd (cc)) (λ by. by.1)

over_end : (input tail : List ℕ) (stage : Stage) (answer said : Result (List ℕ) ReplyFault) → verdict stage ≡ Some said → IsEnd input stage tail answer → answer ≡ said
over_end input tail stage answer said over = search rules

walk : (source : PlanSource) (input bytes : List ℕ) (F G : List FrameContent) (tail left : List ℕ) (stage : Stage) (state : Content) (one other : Result (List ℕ) ReplyFault) → AllByRecursion IsFrame F → AllByRecursion IsFrame G
    → bytes ≡ flat_map spelling F ++ tail → bytes ≡ flat_map spelling G ++ left → IsEnd input (replied source (at_stage stage state) F).stage tail one → IsEnd input (replied source (at_stage stage state) G).stage left other
    → IsWaiting stage ⊎ ((answer : Result (List ℕ) ReplyFault) × (verdict stage ≡ Some answer))
    → (one ≡ other) × ((replied source (at_stage stage state) F).state ≡ (replied source (at_stage stage state) G).state)
walk source input bytes F G tail left stage state one other isF isG cutF cutG p q (inr over) =
    let a = stays source stage state F over.0 over.1 in
    let b = stays source stage state G over.0 over.1 in (
      over_end input tail stage one over.0 over.1 (subst (λ (r : Reception). IsEnd input r.stage tail one) a p)
          ∙ sym (over_end input left stage other over.0 over.1 (subst (λ (r : Reception). IsEnd input r.stage left other) b q)),
      ap (λ (r : Reception). r.state) (a ∙ sym b),
    )
walk source input bytes [] [] tail left stage state one other isF isG cutF cutG p q (inl waits) =
    let a = missed input tail stage one waits p in
    let b = missed input left stage other waits q in
    (a.1 ∙ ap Err (one_cause input tail a.0 b.0 a.2 (subst (λ l. IsMissed input l b.0) (sym cutG ∙ cutF) b.2)) ∙ sym b.1, refl)
walk source input bytes [] (g ∷ G) tail left stage state one other isF isG cutF cutG p q (inl waits) =
    let a = missed input tail stage one waits p in
    absurd (no_frame input tail (flat_map spelling G ++ left) g a.0 isG.0 (sym cutF ∙ (cutG ∙ append_assoc (spelling g) (flat_map spelling G) left)) a.2)
walk source input bytes (f ∷ F) [] tail left stage state one other isF isG cutF cutG p q (inl waits) =
    let b = missed input left stage other waits q in
    absurd (no_frame input left (flat_map spelling F ++ tail) f b.0 isF.0 (sym cutG ∙ (cutF ∙ append_assoc (spelling f) (flat_map spelling F) tail)) b.2)
walk source input bytes (f ∷ F) (g ∷ G) tail left stage state one other isF isG cutF cutG p q (inl waits) =
    let both = one_spelling_lem f g (flat_map spelling F ++ tail) (flat_map spelling G ++ left) isF.0 isG.0
    (sym (append_assoc (spelling f) (flat_map spelling F) tail) ∙ (sym cutF ∙ (cutG ∙ append_assoc (spelling g) (flat_map spelling G) left))) in
    let next = staged source stage state f in
    let here : staged source stage state g ≡ next = ap (staged source stage state) (sym both.0) in
    let later = walk source input (flat_map spelling F ++ tail) F G tail left next.stage next.state one other isF.1 isG.1 refl both.1 p
    (subst (λ (r : Reception). IsEnd input (replied source r G).stage left other) here q) (decided next.stage) in
    (later.0, later.1 ∙ ap (λ (r : Reception). (replied source r G).state) (sym here))

pub one_answer : (source : PlanSource) (first : Content) (input : List ℕ) (after last : Option (List ℕ)) (one other : Result (List ℕ) ReplyFault) (state final : Content) → IsReceived source first (Some input) after state one
    → IsReceived source first (Some input) last final other → SaysReplies one → SaysReplies other → (one ≡ other) × (state ≡ final)
one_answer source first input after last one other state final p q says tells =
    let a = settled source first input after state one p says in
    let b = settled source first input last final other q tells in
    let same = walk source input (take most_bytes input) a.frames b.frames a.tail b.tail greeting first one other a.each b.each a.cut b.cut a.end b.end (inl tt) in
    (same.0, a.left ∙ same.1 ∙ sym b.left)
