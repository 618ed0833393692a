-- Frames that are cut off the bytes of a reader, piece by piece.
use Rattle.std.{proofs.{lemmas.Grind.common_steps, Common.{rules, ◌≡◌, ℕ, ◌+◌, ◌-◌, ◌<◌, ◌≤◌, Bool, true, List, [], ◌∷◌, ◌++◌, length, drop, Option, Some, None, Ok, Err, sym, ap, subst, ◌∙◌, arith, append_assoc, length-append, take-append-drop, drop-drop}, Math.Seq.drop-append-add, KnownBytes.Consumes-trans}, specs.{Io.KnownBytes.Consumes, List.flat_map}}
use Rattle.stn_device.specs.declared.whole.ReadFault.{ReadFault, TheVariants.{Read, Bound, Memory}}
use Rattle.stn_wire.specs.{Feeder.{FeederState, CompletesFrame}, Frame.{FrameContent, content, spelling}, Front.{IsFront, whole, unfinished}, declared.{frame.Frame.Frame, stream.fault.FrameFault.FrameFault}, Stream.{pending, GivesNext, wire_fault, Held.Stream, Pieces.{IsPieceFed, IsFilled}}}

-- a frame was taken, and what stands after it is pending
frame_taken : (held rest : List ℕ) (used : ℕ) (frame : FrameContent) → IsFront (held ++ rest) (whole frame (length held + used)) → held ++ rest ≡ spelling frame ++ drop used rest
frame_taken held rest used frame h = cc (take-append-drop (length held + used) (held ++ rest), drop-append-add held rest used)

pub fed_is : {A : Type 0} (old new : Stream) (piece : List ℕ) (at used : ℕ) (frame : Option (Frame A)) (rest : List ℕ) (feeder : FeederState) → old.behind ≡ drop at piece → rest ≡ drop at piece
    → CompletesFrame old.held rest used frame feeder → new.held ≡ feeder.held → new.behind ≡ drop (at + used) piece → IsPieceFed old new (Ok frame)
fed_is old new piece at used (Some frame) rest feeder behind is h held left = (
  h.0.0,
  ap (λ l. old.held ++ l) (behind ∙ sym is) ∙ (frame_taken old.held rest used (content frame) h.0
      ∙ ap (λ l. spelling (content frame) ++ l) ((ap (drop used) is ∙ drop-drop used at piece) ∙ sym left ∙ sym (ap (λ l. l ++ new.behind) (held ∙ ap (λ (f : FeederState). f.held) h.1)))),
)
fed_is old new piece at used None rest feeder behind is h held left = grind (arith, common_steps)

-- more bytes are pending after those that were read since the first
module _ (first mid new : Stream) (a b c : Option (List ℕ)) (bytes : List ℕ) (read : Consumes a b bytes) (held : pending mid ≡ pending first ++ bytes) (taken : mid.count ≡ first.count + length bytes) where
  pub filled_more : (more : Bool) → more ≡ true → IsFilled mid new b c (Ok more)
      → (all : List ℕ) × Consumes a c all × (pending new ≡ pending first ++ all) × (new.count ≡ first.count + length all)
  filled_more more is h = search (rules, append_assoc, length-append)

  -- nothing more comes
  pub fill_fails : {A : Type 0} (fault : ReadFault) → IsFront (pending mid) unfinished → mid.count ≤ 16777216 → IsFilled mid new b c (Err fault) → GivesNext {A = A} first new a c (Err fault)
  fill_fails Read front few h = search rules
  fill_fails Bound front few h = record {
    bytes = bytes ++ h.0 ∷ [];
    consumed = Consumes-trans a b c bytes (h.0 ∷ []) read h.1;
    next = (pending first ++ bytes, h.0, sym (append_assoc (pending first) bytes (h.0 ∷ [])), subst (λ l. IsFront l unfinished) held front);
    counted = omega (arith, h.2, taken, length-append bytes (h.0 ∷ []));
  }
  fill_fails Memory front few h = record {
    bytes = bytes ++ h.0;
    consumed = Consumes-trans a b c bytes h.0 read h.1;
    next = tt;
    counted = omega (arith, h.2, taken, length-append bytes h.0);
  }

-- a spelling has some bytes
pub spelling_some : (frame : FrameContent) → 0 < length (spelling frame)
spelling_some frame = omega arith

-- one frame more is cut off
pub cut_more : (frames : List FrameContent) (frame : FrameContent) (bytes rest later : List ℕ) → bytes ≡ flat_map spelling frames ++ rest → rest ≡ spelling frame ++ later → bytes ≡ flat_map spelling (frames ++ frame ∷ []) ++ later
cut_more frames frame bytes rest later cut front = grind (arith, common_steps)

-- two faults of a stream are two of the wire
pub one_fault : (a b : FrameFault) → wire_fault a ≡ wire_fault b → a ≡ b
one_fault a b is = search rules

-- how many bytes and frames there can be
module _ (rest more later : List ℕ) (frame : FrameContent) (front : rest ++ more ≡ spelling frame ++ later) (taken then : ℕ) (then_is : then ≡ taken + length more) where
  lengths : length rest + length more ≡ length (spelling frame) + length later
  lengths = omega (arith, length-append rest more, length-append (spelling frame) later, ap length front)

  pub count_fits : (count : ℕ) → count + length rest ≤ taken → count + 1 + length later ≤ then
  count_fits count fits = omega (arith, lengths)

  pub measure_falls : taken + length more ≤ 16777216 → 16777216 + length later - then < 16777216 + length rest - taken
  measure_falls few = omega (arith, lengths)
