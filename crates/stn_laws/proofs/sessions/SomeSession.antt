-- Bytes that are cut into frames and a rest have a session.
use Rattle.std.proofs.Common.{rules, ◌≡◌, ℕ, List, [], ◌∷◌, Option, Some, None, inl, inr, refl, arith}
use Rattle.stn_wire.specs.{Frame.FrameContent, Front.{faulty, IsFront}, declared.{fault.WireFault.WireFault, stream.fault.FrameFault.FrameFault}, Stream.{wire_fault, frame_code}}
use Rattle.stn_laws.proofs.frames.{Fronts.ShowsNone, Cuts.IsCut}
use Rattle.stn_session.specs.{Session.{Session, talked, broken_off}, Serving.{EndsSession, IsSession}, declared.session.End.{End, TheVariants.{Closed, Cut, Refused}}}

-- a fault that bytes show is one of a frame
pub of_frame : (rest : List ℕ) (fault : WireFault) → IsFront rest (faulty fault) → (one : FrameFault) × IsFront rest (faulty (wire_fault one))
of_frame rest fault is = search rules

ending : (session : Session) (ended : Option ℕ) → session.ended ≡ ended → (rest : List ℕ) → ShowsNone rest → (end : End) × (last : Session) × EndsSession session rest end last
ending session (Some code) is rest shows = (Refused code, session, inl (is, refl))
ending session None is [] (inl front) = (Closed, session, (is, refl, refl))
ending session None is (byte ∷ rest) (inl front) = (Cut, session, (is, omega arith, front, refl))
ending session None is rest (inr (fault, front)) =
    let one = of_frame rest fault front in
    (Refused (frame_code one.0), broken_off session (frame_code one.0), inr (one.0, is, one.1, refl, refl))

pub session_of_cut : (first : Session) (bytes : List ℕ) (frames : List FrameContent) (rest : List ℕ) → IsCut bytes frames rest
    → (end : End) × (last : Session) × IsSession first bytes end last
session_of_cut first bytes frames rest cut =
    let session = talked first frames in
    let some = ending session session.ended refl rest cut.shows in
    (some.0, some.1, record { session = session; rest = rest; reached = record { frames = frames; each = cut.each; cut = cut.cut; talked = refl }; ends = some.2 })
