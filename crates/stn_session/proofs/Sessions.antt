-- A session that goes on, frame by frame, and what it keeps.
use Rattle.std.{proofs.{Common.{rules, ◌≡◌, ◌≢◌, ℕ, ◌+◌, ◌<◌, ◌≤◌, cond, Bool, List, [], ◌∷◌, ◌++◌, length, Option, Some, None, Result, Ok, Err, refl, sym, ap, subst, ◌∙◌, inl, inr, ⊎_elim, arith, append_assoc, length-append}, KnownBytes.{Consumes-nil, Consumes-trans, Appends-nil, Appends-trans}, lemmas.List.Sums.fold-append}, specs.{Prelude.{flat_map, is_some, min, ◌^◌, ◌-◌, IsErrOf}, Io.KnownBytes.{Consumes, Appends, IsAtEnd}}}
use Rattle.stn_device.{specs.{Bytes.AppendsPart, declared.whole.ReadFault.ReadFault}, proofs.Known.fails_more}
use Rattle.stn_time.proofs.Each.{each_pushed}
use Rattle.stn_wire.{proofs.Streams.cut_more, specs.{Frame.{FrameContent, spelling, refused, IsFrame}, Front.{IsFront, faulty, unfinished}, Stream.{wire_fault, frame_code, IsNextFrame, IsCounted, Held.Stream}, declared.stream.fault.FrameFault.FrameFault}}
use Rattle.stn_effects.specs.{Effects.Effect, Printing.Device}
use Rattle.stn_lift.specs.PlanSource.{PlanSource}
use Rattle.stn_records.specs.Content.{Content}
use Rattle.stn_refusal.specs.declared.failure.Failure.{Failure}
use Rattle.stn_session.specs.{Session.{Reply, said, Session, answer, opening, followed, advanced, talked, broken_off}, Serving.{IsReplyBytes, AreReplies, WritesReplies, Reaches, GoesOn, WritesPart, Talk, talk, KeepsChange, KeepsEach, Point, HasReplied, HearsWell, BreaksOffSession, EndsAt, Serves, session_answer, serve_fault}, declared.{session.{End.TheVariants.{Closed, Cut, Refused}, Served.Served, KeepingFault.KeepingFault, ServeFault.{ServeFault, TheVariants.{Read, Write, Bound, Memory}}}, replies.Turn.Turn}, Turns.{IsChange, KeepsTurn, AnswersFrame, TellsRefused}}
use Rattle.stn_session.specs.declared.session.KeepingFault.TheVariants as keeping
use Rattle.stn_device.specs.declared.whole.ReadFault.TheVariants as stream

-- ---- replies, one after the other
pub replies_more : (first : List Reply) (done : List ℕ) (reply : Reply) (bytes : List ℕ) → AreReplies first done → IsReplyBytes reply bytes → AreReplies (first ++ reply ∷ []) (done ++ bytes)
replies_more [] done reply bytes none spoken = search rules
replies_more (one ∷ first) done reply bytes all spoken =
    (all.0, all.1 ++ bytes, all.2, replies_more first all.1 reply bytes all.3 spoken, ap (λ (l : List ℕ). l ++ bytes) all.4 ∙ append_assoc all.0 all.1 bytes)

pub writes_more : (a b c : Option (List ℕ)) (replies : List Reply) (reply : Reply) (bytes : List ℕ) → WritesReplies a b replies → IsReplyBytes reply bytes → Appends b c bytes → WritesReplies a c (replies ++ reply ∷ [])
writes_more a b c replies reply bytes done spoken more = search (rules, replies_more, Appends-trans)

-- ---- frames, one after the other
abbrev pub reaches_frame : (first : Session) (bytes : List ℕ) (session : Session) (rest later : List ℕ) (frame : FrameContent) → Reaches first bytes session rest → IsFrame frame → rest ≡ spelling frame ++ later
    → Reaches first bytes (advanced session frame) later
reaches_frame first bytes session rest later frame r is e = record {
  frames = r.frames ++ frame ∷ [];
  each = each_pushed IsFrame r.frames frame r.each is;
  cut = cut_more r.frames frame bytes rest later r.cut e;
  talked = ap (λ s. advanced s frame) r.talked ∙ sym (fold-append advanced first r.frames (frame ∷ []));
}

abbrev pub reaches_more : (first : Session) (bytes : List ℕ) (session : Session) (rest more : List ℕ) → Reaches first bytes session rest → Reaches first (bytes ++ more) session (rest ++ more)
reaches_more first bytes session rest more r = record {
  frames = r.frames;
  each = r.each;
  cut = ap (λ l. l ++ more) r.cut ∙ append_assoc (flat_map spelling r.frames) rest more;
  talked = r.talked;
}

-- ---- the states that are kept
each_more : {P : Type 0} (Keeps : Content → Effect P (Unit {0})) (first : Session) (frames : List FrameContent) (frame : FrameContent) (old between new : P) → KeepsEach Keeps first frames old between
    → KeepsChange Keeps (talked first frames).state (advanced (talked first frames) frame).state between new (Ok tt) → KeepsEach Keeps first (frames ++ frame ∷ []) old new
each_more Keeps first [] frame old between new none kept = search rules
each_more Keeps first (one ∷ frames) frame old between new all kept = (all.0, all.1, each_more Keeps (advanced first one) frames frame all.0 between new all.2 kept)

-- ---- how far a session has come
pub record Progress {P : Type 0} (Keeps : Content → Effect P (Unit {0})) (source : PlanSource) (old now : Talk P) (rest : List ℕ) (taken : ℕ) (greeted : Bool) (count : ℕ) : Type 0 where
  pub bytes : List ℕ
  pub session : Session
  pub consumed : Consumes old.unheard.bytes now.unheard.bytes bytes
  pub well : now.unheard.failures ≡ old.unheard.failures
  pub many : taken ≡ length bytes
  pub reached : Reaches (opening source old.state) bytes session rest
  pub on : session.ended ≡ None
  pub says : HasReplied session old now
  pub counted : count ≡ session.frames
  pub source_is : source ≡ session.source
  pub state_is : now.state ≡ session.state
  pub greeted_is : greeted ≡ session.greeted
  pub each : KeepsEach Keeps (opening source old.state) reached.frames old.place now.place

pub begun : {P : Type 0} (Keeps : Content → Effect P (Unit {0})) (source : PlanSource) (old : Talk P) (rest : List ℕ) (taken : ℕ) → rest ≡ [] → taken ≡ 0
    → Progress Keeps source old old rest taken (opening source old.state).greeted 0
begun Keeps source old rest taken none zero = record {
  bytes = [];
  session = opening source old.state;
  consumed = Consumes-nil old.unheard.bytes;
  well = refl;
  many = zero;
  reached = record { frames = []; each = tt; cut = sym none; talked = refl };
  on = refl;
  says = (([], refl, Appends-nil old.told.bytes), refl);
  counted = refl;
  source_is = refl;
  state_is = refl;
  greeted_is = refl;
  each = refl;
}

module _ {P : Type 0} {Keeps : Content → Effect P (Unit {0})} {source : PlanSource} {old now : Talk P} {rest : List ℕ} {taken : ℕ} {greeted : Bool} {count : ℕ}
    (p : Progress Keeps source old now rest taken greeted count) (heard : Device) (more : List ℕ) (read : Consumes now.unheard.bytes heard.bytes more) where
  -- more bytes were read
  consumed_all : Consumes old.unheard.bytes heard.bytes (p.bytes ++ more)
  consumed_all = search (rules, Consumes-trans)

  many_all : taken + length more ≡ length (p.bytes ++ more)
  many_all = search (rules, length-append)

  few_all : taken + length more ≤ 16777216 → length (p.bytes ++ more) ≤ 16777216
  few_all few = omega (arith, many_all)

  abbrev reached_all : Reaches (opening source old.state) (p.bytes ++ more) p.session (rest ++ more)
  reached_all = reaches_more (opening source old.state) p.bytes p.session rest more p.reached

  abbrev all_read : Point P
  all_read = record { bytes = p.bytes ++ more; session = p.session; rest = rest ++ more; kept = now.place }

  -- so the session ends
  ends_with : (then : Device) (state : Content) (place : P) (ended : Result (Result Served ServeFault) Failure) → EndsAt Keeps all_read old (talk heard then state place) ended
      → Serves Keeps source old (talk heard then state place) ended
  ends_with then state place ended is = record { at = all_read; consumed = consumed_all; reached = reached_all; each = p.each; ends = is }

  breaks_with : (then : Device) (state : Content) (place : P) (fault : ServeFault) → BreaksOffSession Keeps all_read old (talk heard then state place) fault
      → Serves Keeps source old (talk heard then state place) (Ok (Err fault))
  breaks_with then state place fault is = search (rules, ends_with)

  -- nothing more comes of the stream
  pub stream_fails : {X : Type 0} (A : Type 0) (stream_now : Stream) (fault : ReadFault) → IsNextFrame {A = A} (rest ++ more) stream_now (Err fault) → IsCounted {A = A} (taken + length more) stream_now (Err fault)
      → old.unheard.failures < 2 ^ 64 - 1 → (call : Result X ReadFault) → call ≡ Err fault
      → (IsErrOf call stream.Read → heard.failures ≡ min (now.unheard.failures + 1) (2 ^ 64 - 1)) → (call ≢ Err stream.Read → heard.failures ≡ now.unheard.failures)
      → Serves Keeps source old (talk heard now.told now.state now.place) (Ok (Err (serve_fault fault)))
  stream_fails A stream_now stream.Read next few room call is fails keeps = search (rules, breaks_with, few_all, fails_more)
  stream_fails A stream_now stream.Bound next many room call is fails keeps =
      breaks_with now.told now.state now.place Bound (p.says, p.state_is, refl, next, omega (arith, many, many_all), keeps (λ e. cc) ∙ p.well)
  stream_fails A stream_now stream.Memory next few room call is fails keeps =
      breaks_with now.told now.state now.place Memory (p.says, refl, (few_all few, keeps (λ e. cc) ∙ p.well), inl p.state_is)

  module _ (few : taken + length more ≤ 16777216) (well : heard.failures ≡ now.unheard.failures) where
    hears : (then : Device) (state : Content) (place : P) → HearsWell all_read old (talk heard then state place)
    hears then state place = (few_all few, well ∙ p.well)

    -- the input ends after the last frame, or within one
    pub closes : rest ++ more ≡ [] → IsAtEnd heard.bytes → Serves Keeps source old (talk heard now.told now.state now.place) (Ok (Ok (record { frames = count; end = Closed })))
    closes none done = ends_with now.told now.state now.place (Ok (Ok (record { frames = count; end = Closed })))
        ((p.session, (p.on, none, refl), p.says, p.counted, p.state_is), refl, done, hears now.told now.state now.place)

    pub cuts : IsFront (rest ++ more) unfinished → 0 < length (rest ++ more) → IsAtEnd heard.bytes
        → Serves Keeps source old (talk heard now.told now.state now.place) (Ok (Ok (record { frames = count; end = Cut })))
    cuts front some done = ends_with now.told now.state now.place (Ok (Ok (record { frames = count; end = Cut })))
        ((p.session, (p.on, some, front, refl), p.says, p.counted, p.state_is), refl, done, hears now.told now.state now.place)

    -- nothing was written
    says_same : (then : Device) (state : Content) (place : P) → then ≡ now.told → HasReplied p.session old (talk heard then state place)
    says_same then state place same = subst (λ (told : Device). WritesReplies old.told.bytes told.bytes p.session.replies × (told.failures ≡ old.told.failures)) (sym same) p.says

    -- a write failed
    told_fails : (then : Device) → old.told.failures < 2 ^ 64 - 1 → then.failures ≡ min (now.told.failures + 1) (2 ^ 64 - 1) → old.told.failures < then.failures
    told_fails then room fails = fails_more old.told.failures now.told.failures then.failures fails p.says.1 room

    -- so a part of a reply was
    writes_part : (then : Device) (next : Session) (reply : Reply) (bytes : List ℕ) → next.replies ≡ p.session.replies ++ reply ∷ [] → IsReplyBytes reply bytes
        → AppendsPart now.told.bytes then.bytes bytes → WritesPart old.told.bytes then.bytes p.session next
    writes_part then next reply bytes more spoken part = record {
      done = p.says.0.0;
      part = part.0;
      later = part.1;
      replied = p.says.0.1;
      whole = subst (λ (replies : List Reply). AreReplies replies (p.says.0.0 ++ (part.0 ++ part.1))) (sym more)
          (replies_more p.session.replies p.says.0.0 reply (part.0 ++ part.1) p.says.0.1 (subst (IsReplyBytes reply) part.2 spoken));
      appended = Appends-trans old.told.bytes now.told.bytes then.bytes p.says.0.0 part.0 p.says.0.2 part.3;
    }

    -- a fault of the bytes is answered, or not
    module _ (fault : FrameFault) (front : IsFront (rest ++ more) (faulty (wire_fault fault))) (then : Device) where
      pub refuses : (code : ℕ) → code ≡ frame_code fault → TellsRefused code now.told then (Ok tt)
          → Serves Keeps source old (talk heard then now.state now.place) (Ok (Ok (record { frames = count; end = Refused code })))
      refuses code is wrote = ends_with then now.state now.place (Ok (Ok (record { frames = count; end = Refused code }))) (
        (
          broken_off p.session code,
          inr (fault, p.on, front, is, refl),
          (writes_more old.told.bytes now.told.bytes then.bytes p.session.replies (said (refused code)) (spelling (refused code)) p.says.0 refl wrote.0, wrote.1 ∙ p.says.1),
          p.counted,
          p.state_is,
        ),
        refl,
        tt,
        hears then now.state now.place,
      )

      pub refusal_fails : old.told.failures < 2 ^ 64 - 1 → (broken : KeepingFault) (code : ℕ) → code ≡ frame_code fault → TellsRefused code now.told then (Err broken)
          → Serves Keeps source old (talk heard then now.state now.place) (session_answer (Err broken))
      refusal_fails room (keeping.Serve Write) code is part = breaks_with then now.state now.place Write (
        (
          broken_off p.session (frame_code fault),
          record { goes_on = inr (fault, front, refl); state = p.state_is; keeps = inl (refl, (refl, refl)) },
          writes_part then (broken_off p.session (frame_code fault)) (said (refused (frame_code fault))) (spelling (refused (frame_code fault))) refl refl
              (subst (λ k. AppendsPart now.told.bytes then.bytes (spelling (refused k))) is part.0),
        ),
        told_fails then room part.1,
        hears then now.state now.place,
      )
      refusal_fails room (keeping.Serve Memory) code is same =
          breaks_with then now.state now.place Memory (says_same then now.state now.place same, refl, hears then now.state now.place, inl p.state_is)
      refusal_fails room (keeping.Serve Read) code is none = absurd none
      refusal_fails room (keeping.Serve Bound) code is none = absurd none
      refusal_fails room (keeping.Keep failure) code is none = absurd none

    -- a frame is answered, or not
    module _ (frame : FrameContent) (later : List ℕ) (is_frame : IsFrame frame) (front : rest ++ more ≡ spelling frame ++ later) (then : Device) (state : Content) where
      next_is : advanced p.session frame ≡ followed p.session (answer source now.state greeted frame)
      next_is =
          ap (λ e. cond (is_some e) p.session (followed p.session (answer p.session.source p.session.state p.session.greeted frame))) p.on
          ∙ (λ i. followed p.session (answer (sym p.source_is i) (sym p.state_is i) (sym p.greeted_is i) frame))

      goes_on : GoesOn p.session (rest ++ more) (advanced p.session frame)
      goes_on = inl (frame, later, is_frame, front, refl)

      module _ (left : state ≡ (answer source now.state greeted frame).state) where
        state_left : state ≡ (advanced p.session frame).state
        state_left = left ∙ sym (ap (λ (s : Session). s.state) next_is)

        moves : (place : P) (kept : Result (Unit {0}) Failure) → KeepsChange Keeps now.state state now.place place kept
            → KeepsChange Keeps p.session.state (advanced p.session frame).state now.place place kept
        moves place kept change = subst (λ (s : Content). KeepsChange Keeps p.session.state s now.place place kept) state_left
            (subst (λ (s : Content). KeepsChange Keeps s state now.place place kept) p.state_is change)

      -- it was not, or its reply not written whole
      module _ (room : old.told.failures < 2 ^ 64 - 1) (place : P) where
        pub frame_fails : (broken : KeepingFault)
            → AnswersFrame Keeps (answer source now.state greeted frame) (talk heard now.told now.state now.place) (talk heard then state place) (Err broken)
            → Serves Keeps source old (talk heard then state place) (session_answer (Err broken))
        frame_fails (keeping.Serve Write) is = breaks_with then state place Write (
          (
            advanced p.session frame,
            record { goes_on = goes_on; state = state_left is.0.0; keeps = moves is.0.0 place (Ok tt) is.0.1 },
            writes_part then (advanced p.session frame) (answer source now.state greeted frame).reply is.1.0 (ap (λ (s : Session). s.replies) next_is) is.1.1 is.1.2.0,
          ),
          told_fails then room is.1.2.1,
          hears then state place,
        )
        frame_fails (keeping.Serve Memory) is =
            subst (λ there. Serves Keeps source old (talk heard then state there) (Ok (Err Memory))) (sym is.1)
            (breaks_with then state now.place Memory (
              says_same then state now.place is.2,
              refl,
              hears then state now.place,
              ⊎_elim (λ same. inl (same ∙ p.state_is)) (λ left. inr (advanced p.session frame, goes_on, state_left left)) is.0,
            ))
        frame_fails (keeping.Serve Read) none = absurd none
        frame_fails (keeping.Serve Bound) none = absurd none
        frame_fails (keeping.Keep failure) is = ends_with then state place (Err failure) (
          p.on,
          says_same then state place is.1,
          (advanced p.session frame, record { goes_on = goes_on; state = state_left is.0.0; keeps = moves is.0.0 place (Err failure) is.0.1 }),
          hears then state place,
        )

      -- it was
      module _ (place : P) (turn : Turn)
          (is : AnswersFrame Keeps (answer source now.state greeted frame) (talk heard now.told now.state now.place) (talk heard then state place) (Ok turn)) where
        moved : KeepsChange Keeps (talked (opening source old.state) p.reached.frames).state (advanced (talked (opening source old.state) p.reached.frames) frame).state now.place place (Ok tt)
        moved = subst (λ (s : Session). KeepsChange Keeps s.state (advanced s frame).state now.place place (Ok tt)) p.reached.talked (moves is.0.0 place (Ok tt) is.0.1)

        next_said : HasReplied (advanced p.session frame) old (talk heard then state place)
        next_said = (
          subst (λ (s : Session). WritesReplies old.told.bytes then.bytes s.replies) (sym next_is)
              (writes_more old.told.bytes now.told.bytes then.bytes p.session.replies (answer source now.state greeted frame).reply is.1.0 p.says.0 is.1.1 is.1.2.0),
          is.1.2.1 ∙ p.says.1,
        )

        pub frame_answered : turn.ended ≡ None → (so_far : ℕ) → so_far ≡ taken + length more
            → Progress Keeps source old (talk heard then state place) later so_far turn.greeted (count + 1)
        frame_answered on so_far so_far_is = record {
          bytes = p.bytes ++ more;
          session = advanced p.session frame;
          consumed = consumed_all;
          well = well ∙ p.well;
          many = so_far_is ∙ many_all;
          reached = reaches_frame (opening source old.state) (p.bytes ++ more) p.session (rest ++ more) later frame reached_all is_frame front;
          on = ap (λ (s : Session). s.ended) next_is ∙ (sym is.3 ∙ on);
          says = next_said;
          counted = ap (λ n. n + 1) p.counted ∙ sym (ap (λ (s : Session). s.frames) next_is);
          source_is = p.source_is ∙ sym (ap (λ (s : Session). s.source) next_is);
          state_is = state_left is.0.0;
          greeted_is = is.2 ∙ sym (ap (λ (s : Session). s.greeted) next_is);
          each = each_more Keeps (opening source old.state) p.reached.frames frame old.place now.place place p.each moved;
        }

        pub frame_ends : (code : ℕ) → turn.ended ≡ Some code → Serves Keeps source old (talk heard then state place) (Ok (Ok (record { frames = count + 1; end = Refused code })))
        frame_ends code end = record {
          at = record { bytes = p.bytes ++ more; session = advanced p.session frame; rest = later; kept = place };
          consumed = consumed_all;
          reached = reaches_frame (opening source old.state) (p.bytes ++ more) p.session (rest ++ more) later frame reached_all is_frame front;
          each = each_more Keeps (opening source old.state) p.reached.frames frame old.place now.place place p.each moved;
          ends = (
            (
              advanced p.session frame,
              inl (ap (λ (s : Session). s.ended) next_is ∙ (sym is.3 ∙ end), refl),
              next_said,
              ap (λ n. n + 1) p.counted ∙ sym (ap (λ (s : Session). s.frames) next_is),
              state_left is.0.0,
            ),
            refl,
            tt,
            (few_all few, well ∙ p.well),
          );
        }

-- ---- a turn keeps the state that it changed
pub turn_kept : {P : Type 0} (Keeps : PlanSource → Content → Effect P (Unit {0})) (source here : PlanSource) (before after there : Content) (place kept : P) (changed : Bool)
    (ended : Result (Unit {0}) Failure) → here ≡ source → there ≡ after → IsChange before after changed → KeepsTurn (Keeps here there) changed place kept ended
    → KeepsChange (Keeps source) before after place kept ended
turn_kept Keeps source here before after there place kept changed ended from left differs keeps = search rules
