-- Replies that come one after the other.
use Rattle.std.{proofs.{Common.{rules, ◌≡◌, ℕ, ◌+◌, List, [], ◌∷◌, ◌++◌, length, ◌⊎◌, Option, Result, Ok, Err, refl, sym, ap, subst, ◌∙◌, inl, inr, ⊎_elim, arith, append_assoc, length-append}, KnownBytes.{Consumes-nil, Consumes-trans}, lemmas.List.Sums.fold-append}, specs.{Prelude.{IfOk, IfErr, OnOk, OnErr}, Io.KnownBytes.Consumes}}
use Rattle.stn_time.proofs.Each.{each_pushed}
use Rattle.stn_wire.{proofs.Streams.cut_more, specs.{Frame.{FrameContent, content, same, records, text, spelling, IsFrame}, declared.frame.Frame.Frame as WireFrame, Stream.{unread, pending, Held.Stream}}}
use Rattle.stn_lift.specs.PlanSource.{PlanSource}
use Rattle.stn_records.specs.Content.{Content}
use Rattle.stn_session.specs.{Exchange.{greeting, handing, telling, told, failed, Reception, at_stage, expecting, greeted_by, handed, reception_of, staged, IsWaiting, IsReception, IsReceived, seen_value}, Turns.{FindsFrame, Came, Leads}, declared.exchange.ReplyFault.{ReplyFault, TheVariants.Memory}}

-- an answer as it is seen
pub seen_err : {X : Type 0} (view : X → List ℕ) (call : Result X ReplyFault) (why : ReplyFault) → seen_value view call ≡ Err why → call ≡ Err why
seen_err view call why is = search rules

-- one frame more
abbrev pub received : PlanSource → Reception → FrameContent → Reception
received source reception frame = staged source reception.stage reception.state frame

pub nothing_came : (source : PlanSource) (first : Content) (before : Option (List ℕ)) (frames : Stream) → frames ≡ unread → Came source first before before (pending frames) frames.count (expecting first)
nothing_came source first before frames fresh = record {
  bytes = [];
  frames = [];
  consumed = Consumes-nil before;
  many = ap (λ (s : Stream). s.count) fresh;
  each = tt;
  cut = sym (ap pending fresh);
  came = refl;
}

module _ (source : PlanSource) (first : Content) (before after : Option (List ℕ)) (rest : List ℕ) (taken : ℕ) (reception : Reception)
    (p : Came source first before after rest taken reception)
    (last : Option (List ℕ)) (more : List ℕ) (read : Consumes after last more) where
  -- more bytes were read
  pub read_on : Came source first before last (rest ++ more) (taken + length more) reception
  read_on = search (rules, Consumes-trans, length-append, append_assoc)

-- the frame in front leads to the next stage
pub frame_came : (source : PlanSource) (first : Content) (before after : Option (List ℕ)) (rest : List ℕ) (taken : ℕ) (reception : Reception)
    → Came source first before after rest taken reception → (frame : FrameContent) (later : List ℕ) → IsFrame frame → rest ≡ spelling frame ++ later
    → (now : ℕ) → now ≡ taken → (next : Reception) → received source reception frame ≡ next → Came source first before after later now next
frame_came source first before after rest taken reception p frame later is front now now_is next leads = record {
  bytes = p.bytes;
  frames = p.frames ++ frame ∷ [];
  consumed = p.consumed;
  many = now_is ∙ p.many;
  each = each_pushed IsFrame p.frames frame p.each is;
  cut = cut_more p.frames frame p.bytes rest later p.cut front;
  came = sym leads ∙ (ap (λ r. received source r frame) p.came ∙ sym (fold-append (received source) (expecting first) p.frames (frame ∷ [])));
}

-- replies end in a text or a fault
pub replies_end : (source : PlanSource) (first : Content) (before after : Option (List ℕ)) (rest : List ℕ) (taken : ℕ) (reception : Reception)
    → Came source first before after rest taken reception → (answer : Result (List ℕ) ReplyFault) → IsReception reception rest taken after answer
    → IsReceived source first before after reception.state answer
replies_end source first before after rest taken reception p answer is = record {
  bytes = p.bytes;
  frames = p.frames;
  rest = rest;
  reception = reception;
  consumed = p.consumed;
  each = p.each;
  cut = p.cut;
  came = p.came;
  is = subst (λ n. IsReception reception rest n after answer) p.many is;
  left = refl;
}

-- ---- one frame more of the reader
module _ (source : PlanSource) (first : Content) (before mid after : Option (List ℕ)) (old new : Stream) (at : Reception)
    (p : Came source first before mid (pending old) old.count at) where
  pub next_lost : {A : Type 0} → IsWaiting at.stage → (fault : ReplyFault) → FindsFrame {A = A} old new mid after (Err fault) → IsReceived source first before after at.state (Err fault)
  next_lost waits fault f = replies_end source first before after _ _ at (read_on source first before mid (pending old) old.count at p after f.bytes f.consumed) (Err fault) (inr (waits, f.found))

  module _ {A : Type 0} (frame : WireFrame A) (f : FindsFrame old new mid after (Ok frame)) where
    pub next_came : (next : Reception) → received source at (content frame) ≡ next → Came source first before after (pending new) new.count next
    next_came next leads =
        frame_came source first before after (pending old ++ f.bytes) (old.count + length f.bytes) at (read_on source first before mid (pending old) old.count at p after f.bytes f.consumed)
        (content frame) (pending new) f.found.0 f.found.1 new.count f.found.3 next leads

    pub next_refused : (fault : ReplyFault) → received source at (content frame) ≡ at_stage (failed fault) at.state → IsReceived source first before after at.state (Err fault)
    next_refused fault leads =
        replies_end source first before after (pending new) new.count (at_stage (failed fault) at.state) (next_came (at_stage (failed fault) at.state) leads) (Err fault)
        (inl (omega (arith, f.found.3, f.found.4), refl))

    -- lack of memory: the frame is not taken
    pub next_kept : IsWaiting at.stage → IsReceived source first before after at.state (Err Memory)
    next_kept waits =
        replies_end source first before after _ _ at (read_on source first before mid (pending old) old.count at p after f.bytes f.consumed) (Err Memory) (inr (waits, f.found.4))

    pub next_taken : IsWaiting at.stage → (now : Content) → now ≡ at.state → (fault : ReplyFault)
        → (fault ≡ Memory) ⊎ (received source at (content frame) ≡ at_stage (failed fault) at.state) → IsReceived source first before after now (Err fault)
    next_taken waits now kept fault why =
        subst (λ s. IsReceived source first before after s (Err fault)) (sym kept)
        (⊎_elim (λ is. subst (λ e. IsReceived source first before after at.state (Err e)) (sym is) (next_kept waits)) (next_refused fault) why)

-- ---- a reply that was read ends the exchange, leads on, or refuses
module _ {A : Type 0} (source : PlanSource) (first : Content) (before mid after : Option (List ℕ)) (old new : Stream) (state : Content) where
  pub text_answered : {T : Type 0} → Came source first before mid (pending old) old.count (at_stage telling state) → (frame : WireFrame A) → FindsFrame old new mid after (Ok frame)
      → (view : T → List ℕ) (answer : Result T ReplyFault) → IfOk answer (λ given. content frame ≡ text (view given))
      → IfErr answer (λ fault. (s : Content) → reception_of s (content frame) ≡ at_stage (failed fault) s) → IsReceived source first before after state (seen_value view answer)
  text_answered p frame f view (Ok given) is why =
      replies_end source first before after (pending new) new.count (at_stage (told (view given)) state)
      (next_came source first before mid after old new (at_stage telling state) p frame f (at_stage (told (view given)) state) (ap (reception_of state) is))
      (Ok (view given)) (omega (arith, f.found.3, f.found.4), refl)
  text_answered p frame f view (Err fault) is why = next_refused source first before mid after old new (at_stage telling state) p frame f fault (why state)

  pub same_answered : Came source first before mid (pending old) old.count (at_stage greeting state) → (frame : WireFrame A) → FindsFrame old new mid after (Ok frame)
      → (answer : Result (Unit {0}) ReplyFault) → OnOk answer (content frame ≡ same)
      → IfErr answer (λ fault. (s : Content) → greeted_by s (content frame) ≡ at_stage (failed fault) s) → Leads source first before after new (at_stage handing state) answer
  same_answered p frame f (Ok done) is why =
      (f.found.2, next_came source first before mid after old new (at_stage greeting state) p frame f (at_stage handing state) (ap (greeted_by state) is))
  same_answered p frame f (Err fault) is why = next_refused source first before mid after old new (at_stage greeting state) p frame f fault (why state)

  pub records_answered : Came source first before mid (pending old) old.count (at_stage handing state) → (frame : WireFrame A) → FindsFrame old new mid after (Ok frame)
      → (theirs now : Content) → content frame ≡ records theirs → (answer : Result (Unit {0}) ReplyFault)
      → OnOk answer (handed source state (records theirs) ≡ at_stage telling now)
      → IfErr answer (λ fault. (fault ≡ Memory) ⊎ (handed source state (records theirs) ≡ at_stage (failed fault) state))
      → OnErr answer (now ≡ state) → Leads source first before after new (at_stage telling now) answer
  records_answered p frame f theirs now is (Ok done) taken why kept =
      (f.found.2, next_came source first before mid after old new (at_stage handing state) p frame f (at_stage telling now) (ap (handed source state) is ∙ taken))
  records_answered p frame f theirs now is (Err fault) taken why kept =
      next_taken source first before mid after old new (at_stage handing state) p frame f tt now kept fault (⊎_elim inl (λ e. inr (ap (handed source state) is ∙ e)) why)
