-- Bytes that are cut into frames and a rest have a reception.
use Rattle.std.{proofs.Common.{rules, ◌≡◌, ℕ, ◌+◌, ◌≤◌, List, [], ◌∷◌, ◌++◌, length, take, drop, Option, Some, Result, Ok, Err, inl, inr, refl, sym, ap, subst, ◌∙◌, arith, append_assoc, length-append, length-drop, length-take, take-append-drop}, specs.Prelude.{⊤, flat_map}}
use Rattle.stn_device.specs.Bytes.{most_bytes}
use Rattle.stn_lift.specs.PlanSource.{PlanSource}
use Rattle.stn_records.specs.Content.{Content}
use Rattle.stn_wire.specs.{Frame.{FrameContent, same, spelling}, Front.{unfinished, IsFront}}
use Rattle.stn_laws.{specs.Reception.SaysReplies, proofs.{frames.{Fronts.ShowsNone, Cuts.IsCut}, sessions.SomeSession.of_frame}}
use Rattle.stn_session.specs.{Exchange.{Stage, greeting, handing, telling, told, failed, Reception, expecting, unexpected, greeted_by, handed, reception_of, staged, replied, IsWaiting, IsReception, IsReceived}, declared.exchange.ReplyFault.{ReplyFault, TheVariants.{Frame, Reply, Bound}}}

-- what refused a reply is a reply, and no device or lack of memory
abbrev IsOfReplies : Stage → Type 0
IsOfReplies greeting = ⊤
IsOfReplies handing = ⊤
IsOfReplies telling = ⊤
IsOfReplies (told bytes) = ⊤
IsOfReplies (failed fault) = SaysReplies (Err fault)

of_unexpected : (frame : FrameContent) → SaysReplies (Err (unexpected frame))
of_unexpected frame = search rules

of_greeting : (state : Content) (frame : FrameContent) → IsOfReplies (greeted_by state frame).stage
of_greeting state same = tt
of_greeting state frame = of_unexpected frame

of_handing : (source : PlanSource) (state : Content) (frame : FrameContent) → IsOfReplies (handed source state frame).stage
of_handing source state frame = search rules

of_telling : (state : Content) (frame : FrameContent) → IsOfReplies (reception_of state frame).stage
of_telling state frame = search rules

of_stage : (source : PlanSource) (stage : Stage) (state : Content) (frame : FrameContent) → IsOfReplies stage → IsOfReplies (staged source stage state frame).stage
of_stage source greeting state frame is = of_greeting state frame
of_stage source handing state frame is = of_handing source state frame
of_stage source telling state frame is = of_telling state frame
of_stage source (told bytes) state frame is = tt
of_stage source (failed fault) state frame is = is

of_replies : (source : PlanSource) (reception : Reception) (frames : List FrameContent) → IsOfReplies reception.stage → IsOfReplies (replied source reception frames).stage
of_replies source reception [] is = is
of_replies source reception (frame ∷ frames) is =
    of_replies source (staged source reception.stage reception.state frame) frames (of_stage source reception.stage reception.state frame is)

-- an answer that the replies alone decide
pub record HasReception (source : PlanSource) (first : Content) (input : List ℕ) : Type 0 where
  pub after : Option (List ℕ)
  pub state : Content
  pub answer : Result (List ℕ) ReplyFault
  pub says : SaysReplies answer
  pub is : IsReceived source first (Some input) after state answer

module _ (source : PlanSource) (first : Content) (input : List ℕ) (frames : List FrameContent) (rest : List ℕ) (cut : IsCut (take most_bytes input) frames rest) where
  abbrev reception : Reception
  reception = replied source (expecting first) frames

  few : length (take most_bytes input) ≤ most_bytes
  few = omega (arith, length-take most_bytes input)

  -- all that may be read was read
  received_all : (answer : Result (List ℕ) ReplyFault) → SaysReplies answer → IsReception reception rest (length (take most_bytes input)) (Some (drop most_bytes input)) answer
      → HasReception source first input
  received_all answer says is = record {
    after = Some (drop most_bytes input);
    state = reception.state;
    answer = answer;
    says = says;
    is = record {
      bytes = take most_bytes input;
      frames = frames;
      rest = rest;
      reception = reception;
      consumed = sym (take-append-drop most_bytes input);
      each = cut.each;
      cut = cut.cut;
      came = refl;
      is = is;
      left = refl;
    };
  }

  -- one byte more was read, where the input goes on
  received_more : IsWaiting reception.stage → IsFront rest unfinished → (byte : ℕ) (left : List ℕ) → drop most_bytes input ≡ byte ∷ left → HasReception source first input
  received_more waits front byte left is =
      let many : length (take most_bytes input ++ byte ∷ []) ≡ most_bytes + 1 =
      length-append (take most_bytes input) (byte ∷ []) ∙ omega (arith, length-take most_bytes input, length-drop most_bytes input, ap length is) in
      record {
        after = Some left;
        state = reception.state;
        answer = Err Bound;
        says = tt;
        is = record {
          bytes = take most_bytes input ++ byte ∷ [];
          frames = frames;
          rest = rest ++ byte ∷ [];
          reception = reception;
          consumed = sym (take-append-drop most_bytes input) ∙ ap (λ l. take most_bytes input ++ l) is ∙ sym (append_assoc (take most_bytes input) (byte ∷ []) left);
          each = cut.each;
          cut = ap (λ l. l ++ byte ∷ []) cut.cut ∙ append_assoc (flat_map spelling frames) rest (byte ∷ []);
          came = refl;
          is = inr (waits, (many, (rest, byte, refl, front)));
          left = refl;
        };
      }

  missed : IsWaiting reception.stage → IsFront rest unfinished → (left : List ℕ) → drop most_bytes input ≡ left → HasReception source first input
  missed waits front [] is = received_all (Err Reply) tt (inr (waits, (few, front, is)))
  missed waits front (byte ∷ left) is = received_more waits front byte left is

  waited : IsWaiting reception.stage → ShowsNone rest → HasReception source first input
  waited waits (inl front) = missed waits front (drop most_bytes input) refl
  waited waits (inr (fault, front)) = let one = of_frame rest fault front in received_all (Err (Frame one.0)) tt (inr (waits, (few, one.1)))

  pub reception_of_cut : HasReception source first input
  reception_of_cut = by reception.stage refl
    where
      by : (stage : Stage) → reception.stage ≡ stage → HasReception source first input
      by (told bytes) is = received_all (Ok bytes) tt (few, is)
      by (failed fault) is = received_all (Err fault) (subst IsOfReplies is (of_replies source (expecting first) frames tt)) (inl (few, is))
      by greeting is = waited (subst IsWaiting (sym is) tt) cut.shows
      by handing is = waited (subst IsWaiting (sym is) tt) cut.shows
      by telling is = waited (subst IsWaiting (sym is) tt) cut.shows
