-- A log that is read frame by frame.
use Rattle.std.{proofs.{Common.{rules, ◌≡◌, ℕ, ◌+◌, ◌-◌, ◌<◌, ◌≤◌, Bool, true, false, List, [], ◌∷◌, ◌++◌, length, take, Option, Some, None, Result, Ok, Err, IfSome, inr, refl, sym, ap, subst, ◌∙◌, arith, append_assoc, append-nil, length-append}, KnownBytes.{Consumes-nil, Consumes-trans}, Math.Seq.take-append-add, lemmas.{List.{take_all, take_at}, Bool.{le-ltb, lt-ltb}, Grind.flat_map-append}}, specs.{Prelude.{nat_lt, is_some}, Io.KnownBytes.{Consumes, IsAtEnd}, List.{flat_map, AllByRecursion}}}
use Rattle.stn_device.specs.{Bytes.{most_bytes, ConsumesAtMost}, declared.whole.ReadFault.ReadFault}
use Rattle.stn_time.proofs.Each.{each_pushed}
use Rattle.stn_wire.{specs.{Frame.{FrameContent, spelling, IsFrame}, Front.{IsFront, faulty, unfinished}, declared.fault.WireFault.WireFault, Stream.{IsNextFrame, IsCounted, Held.Stream}}, proofs.Fronts.fault_more}
use Rattle.stn_device.specs.declared.whole.ReadFault.TheVariants as stream
use Rattle.stn_store.specs.{Log.{Log, LogSoFar, taken, all_taken, all_taken_by, meaning_of, IsEnding, IsLogAnswer, IsRest, IsDecided, IsOpen, Faults.of_stream, Opening.IsRefused}, declared.log.fault.LoadFault.{LoadFault, TheVariants.{Read, Bound, Frame, LogForm, Memory}}}

-- a read that failed
pub stream_read : {fault : ReadFault} → of_stream fault ≡ Read → fault ≡ stream.Read
stream_read is = search rules

-- ---- one frame

-- no frame is taken any more
bytes_end : {more : Bool} {log : Option LogSoFar} {bytes : List ℕ} {meaning : Result Log LoadFault} → IsEnding more bytes log meaning → IsRest more log bytes meaning
bytes_end ending = search rules

-- the frame in front is taken
frame_taken : {more : Bool} {log : Option LogSoFar} {next : LogSoFar} {frame : FrameContent} {tail : List ℕ} → IsFrame frame → taken log frame ≡ Ok next
    → {meaning : Result Log LoadFault} → IsRest more (Some next) tail meaning → IsRest more log (spelling frame ++ tail) meaning
frame_taken {more} {log} {frame} valid is {meaning} rest = record {
  frames = frame ∷ rest.frames;
  behind = rest.behind;
  each = (valid, rest.each);
  cut = ap (λ l. spelling frame ++ l) rest.cut ∙ sym (append_assoc (spelling frame) (flat_map spelling rest.frames) rest.behind);
  answer = subst (λ (r : Result LogSoFar LoadFault). IsLogAnswer more rest.behind (all_taken_by (λ log. all_taken log rest.frames) r) meaning) (sym is) rest.answer;
}

-- the frame in front is refused
frame_refused : {more : Bool} {log : Option LogSoFar} {frame : FrameContent} (tail : List ℕ) {fault : LoadFault} → IsFrame frame → taken log frame ≡ Err fault
    → IsRest more log (spelling frame ++ tail) (Err fault)
frame_refused {more} {log} {frame} tail {fault} valid is = record {
  frames = frame ∷ [];
  behind = tail;
  each = (valid, tt);
  cut = ap (λ l. l ++ tail) (sym (append-nil (spelling frame)));
  answer = subst (λ (r : Result LogSoFar LoadFault). IsLogAnswer more tail (all_taken_by (λ log. all_taken log []) r) (Err fault)) (sym is) refl;
}

-- ---- frames, one after the other
same_ok : {log last : Option LogSoFar} → all_taken log [] ≡ Ok last → log ≡ last
same_ok e = cc

-- more frames are taken by what the first one left
later_taken : (first : Result LogSoFar LoadFault) (frames more : List FrameContent) {last : Option LogSoFar} {end : Result (Option LogSoFar) LoadFault}
    → ((next : LogSoFar) → all_taken (Some next) frames ≡ Ok last → all_taken (Some next) (frames ++ more) ≡ end)
    → all_taken_by (λ next. all_taken next frames) first ≡ Ok last → all_taken_by (λ next. all_taken next (frames ++ more)) first ≡ end
later_taken first frames more later came = search rules

one_more : (frames : List FrameContent) (log : Option LogSoFar) {last : Option LogSoFar} (frame : FrameContent) {next : LogSoFar} → all_taken log frames ≡ Ok last → taken last frame ≡ Ok next → all_taken log (frames ++ frame ∷ []) ≡ Ok (Some next)
one_more [] log frame came is = cc
one_more (f ∷ frames) log {last} frame {next} came is =
    later_taken (taken log f) frames (frame ∷ []) (λ log came. one_more frames (Some log) frame came is) came

-- what stands after the first frame
later_rest : {first : Result LogSoFar LoadFault} {more : Bool} {log : Option LogSoFar} {frame : FrameContent} (frames : List FrameContent) {last : Option LogSoFar} {tail : List ℕ} {meaning : Result Log LoadFault}
    → IsFrame frame → taken log frame ≡ first → ((next : LogSoFar) → all_taken (Some next) frames ≡ Ok last → IsRest more (Some next) tail meaning)
    → all_taken_by (λ next. all_taken next frames) first ≡ Ok last → IsRest more log (spelling frame ++ tail) meaning
later_rest frames valid is later came = search (rules, frame_taken)

-- what bytes after frames that are all taken make of a log
behind_frames : (frames : List FrameContent) {log last : Option LogSoFar} → AllByRecursion IsFrame frames → all_taken log frames ≡ Ok last
    → {more : Bool} {tail : List ℕ} {meaning : Result Log LoadFault} → IsRest more last tail meaning → IsRest more log (flat_map spelling frames ++ tail) meaning
behind_frames [] each came rest = search rules
behind_frames (frame ∷ frames) {log} {last} each came {more} {tail} {meaning} rest =
    subst (λ l. IsRest more log l meaning) (sym (append_assoc (spelling frame) (flat_map spelling frames) tail))
    (later_rest frames each.0 refl (λ next came. behind_frames frames each.1 came rest) came)

-- ---- how far a log was read: frames that were all taken, and what stands after them
pub record Progress (before after : Option (List ℕ)) (log : Option LogSoFar) (rest : List ℕ) (count : ℕ) : Type 0 where
  pub bytes : List ℕ
  pub frames : List FrameContent
  pub consumed : Consumes before after bytes
  pub many : count ≡ length bytes
  pub each : AllByRecursion IsFrame frames
  pub cut : bytes ≡ flat_map spelling frames ++ rest
  pub came : all_taken None frames ≡ Ok log

pub begun : {before : Option (List ℕ)} {rest : List ℕ} {count : ℕ} → rest ≡ [] → count ≡ 0 → Progress before before None rest count
begun {before} none zero = record {
  bytes = [];
  frames = [];
  consumed = Consumes-nil before;
  many = zero;
  each = tt;
  cut = sym none;
  came = refl;
}

module _ (before after : Option (List ℕ)) (log : Option LogSoFar) (rest : List ℕ) (count : ℕ) (p : Progress before after log rest count) where
  abbrev given : List ℕ
  given = flat_map spelling p.frames

  leads : (more : Bool) (tail : List ℕ) (meaning : Result Log LoadFault) → IsRest more log tail meaning → IsRest more None (given ++ tail) meaning
  leads = search (rules, behind_frames)

  -- more bytes were read
  pub read_on : {last : Option (List ℕ)} (more : List ℕ) → Consumes after last more → Progress before last log (rest ++ more) (count + length more)
  read_on more read = search (rules, Consumes-trans, length-append, append_assoc)

  used : count ≤ 16777216 + 1 → ConsumesAtMost before after (most_bytes + 1)
  used few = search rules

  pub used_within : count ≤ 16777216 → ConsumesAtMost before after (most_bytes + 1)
  used_within few = used (omega (arith, few))

  -- the frame in front is taken
  pub next_taken : {frame : FrameContent} {later : List ℕ} → IsFrame frame → rest ≡ spelling frame ++ later → {now : ℕ} → now ≡ count → {next : LogSoFar} → taken log frame ≡ Ok next
      → Progress before after (Some next) later now
  next_taken valid front same is = search (rules, each_pushed, append_assoc, flat_map-append, one_more)

  -- the same, of an option that holds what the frame made
  pub next_held : {frame : FrameContent} {later : List ℕ} → IsFrame frame → rest ≡ spelling frame ++ later → {now : ℕ} → now ≡ count → {next : Option LogSoFar}
      → is_some next ≡ true → IfSome next (λ held. taken log frame ≡ Ok held) → Progress before after next later now
  next_held valid front same there is = search (rules, next_taken)

  -- the input ends after what read
  ends : count ≤ 16777216 → IsAtEnd after → {meaning : Result Log LoadFault} → IsEnding false rest log meaning → IsDecided before after meaning
  ends few end ending =
      let long : length p.bytes ≤ most_bytes = omega (arith, few, p.many) in
      let more : nat_lt most_bytes (length p.bytes) ≡ false = le-ltb most_bytes (length p.bytes) long in
      let all : take most_bytes p.bytes ≡ given ++ rest = take_all most_bytes p.bytes long ∙ p.cut in search rules

  -- what was read decides, whatever stands after it
  decides : count ≤ 16777216 → {meaning : Result Log LoadFault} → ((more : Bool) (extra : List ℕ) → IsRest more log (rest ++ extra) meaning) → IsDecided before after meaning
  decides few {meaning} rests = (
    p.bytes,
    p.consumed,
    inr (λ extra.
        let room = most_bytes - length p.bytes in
        let full : length p.bytes + room ≡ most_bytes = omega (arith, few, p.many) in
        let more = nat_lt most_bytes (length (p.bytes ++ extra)) in
        let looked : take most_bytes (p.bytes ++ extra) ≡ given ++ (rest ++ take room extra) =
        ap (λ n. take n (p.bytes ++ extra)) (sym full) ∙ (take-append-add p.bytes extra room ∙ (ap (λ l. l ++ take room extra) p.cut ∙ append_assoc given rest (take room extra))) in
        record { said = subst (λ l. IsRest more None l meaning) (sym looked) (leads more (rest ++ take room extra) meaning (rests more (take room extra))) }),
  )

  -- the frame in front is refused
  next_refused : count ≤ 16777216 → {frame : FrameContent} (later : List ℕ) → IsFrame frame → rest ≡ spelling frame ++ later → {fault : LoadFault} → taken log frame ≡ Err fault
      → IsDecided before after (Err fault)
  next_refused few later valid front is = search (rules, decides, append_assoc, frame_refused)

  pub refuses : count ≤ 16777216 → {frame : FrameContent} (later : List ℕ) → IsFrame frame → rest ≡ spelling frame ++ later → (fault : LoadFault)
      → IsRefused (taken log frame) fault → IfSome (meaning_of (Err fault)) (IsDecided before after)
  refuses few later valid front Read is = tt
  refuses few later valid front Memory is = tt
  refuses few later valid front fault is = search (rules, next_refused)

  -- the rest shows a fault
  pub shows_fault : count ≤ 16777216 → {fault : WireFault} → IsFront rest (faulty fault) → IsDecided before after (Err (Frame fault))
  shows_fault few front = search (rules, decides, fault_more)

  -- the input ends between two, where a log was opened, or none
  pub closes : {held : LogSoFar} → count ≤ 16777216 → IsAtEnd after → rest ≡ [] → log ≡ Some held → IsDecided before after (Ok held.log)
  closes few end none is = search (rules, ends)

  pub closes_empty : count ≤ 16777216 → IsAtEnd after → rest ≡ [] → log ≡ None → IsDecided before after (Err LogForm)
  closes_empty few end none is = search (rules, ends)

  -- the input ends within a
  pub cuts : count ≤ 16777216 → IsAtEnd after → IsFront rest unfinished → 0 < length rest → IsDecided before after (Err LogForm)
  cuts few end front some = search (rules, ends)

  -- a byte stands beyond the limit, and no whole frame before it
  beyond : count ≡ 16777216 + 1 → (left : List ℕ) (byte : ℕ) → rest ≡ left ++ byte ∷ [] → IsFront left unfinished → IsDecided before after (Err Bound)
  beyond many left byte e front = (
    p.bytes,
    p.consumed,
    inr (λ extra.
        let cut : p.bytes ≡ (given ++ left) ++ byte ∷ [] = p.cut ∙ (ap (λ l. given ++ l) e ∙ sym (append_assoc given left (byte ∷ []))) in
        let full : length (given ++ left) ≡ most_bytes = omega (arith, many, p.many, ap length cut, length-append (given ++ left) (byte ∷ [])) in
        let more : nat_lt most_bytes (length (p.bytes ++ extra)) ≡ true = lt-ltb most_bytes (length (p.bytes ++ extra)) (omega (arith, many, p.many, length-append p.bytes extra)) in
        let looked : take most_bytes (p.bytes ++ extra) ≡ given ++ left =
        ap (λ l. take most_bytes (l ++ extra)) cut
        ∙ (ap (take most_bytes) (append_assoc (given ++ left) (byte ∷ []) extra) ∙ take_at (given ++ left) ((byte ∷ []) ++ extra) most_bytes full) in
        record {
          said = subst (λ b. IsRest b None (take most_bytes (p.bytes ++ extra)) (Err Bound)) (sym more)
              (subst (λ l. IsRest true None l (Err Bound)) (sym looked) (leads true left (Err Bound) (bytes_end (refl, front))));
        }),
  )

  too_long : count ≡ 16777216 + 1 → IfSome before (λ input. most_bytes < length input)
  too_long many = search (rules, length-append)

  -- nothing more comes of the stream
  module _ (A : Type 0) (now : Stream) where
    pub stream_fails : (fault : ReadFault) → IsNextFrame {A = A} rest now (Err fault) → IsCounted {A = A} count now (Err fault) → IfSome (meaning_of (Err (of_stream fault))) (IsDecided before after)
    stream_fails stream.Bound next counted = beyond counted next.0 next.1 next.2 next.3
    stream_fails fault next counted = tt

    pub stream_used : (fault : ReadFault) → IsCounted {A = A} count now (Err fault) → ConsumesAtMost before after (most_bytes + 1)
    stream_used stream.Bound counted = used (omega (arith, counted))
    stream_used fault counted = used (omega (arith, counted))

    pub stream_open : (fault : ReadFault) → of_stream fault ≡ Read → IsNextFrame {A = A} rest now (Err fault) → IsOpen before after
    stream_open stream.Read is next = record {
      frames = p.frames;
      behind = rest;
      log = log;
      each = p.each;
      read = subst (Consumes before after) p.cut p.consumed;
      taken = p.came;
      unfinished = next;
    }
    stream_open fault is next = absurd cc

    pub stream_bound : (fault : ReadFault) → of_stream fault ≡ Bound → IsCounted {A = A} count now (Err fault) → IfSome before (λ input. most_bytes < length input)
    stream_bound stream.Bound is counted = too_long counted
    stream_bound fault is counted = absurd cc
