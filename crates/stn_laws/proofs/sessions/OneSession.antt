-- Bytes have one session.
use Rattle.std.{proofs.Common.{rules, ◌≡◌, ℕ, cond, List, [], ◌∷◌, ◌++◌, length, Option, Some, None, refl, sym, ap, subst, ◌∙◌, ⊎_elim, append_assoc}, specs.{Prelude.{flat_map, is_some}, List.AllByRecursion}}
use Rattle.stn_wire.{specs.{Frame.{FrameContent, spelling, IsFrame}, Front.{whole, faulty}, Stream.wire_fault}, proofs.Streams.spelling_some}
use Rattle.stn_laws.proofs.frames.Fronts.{one_front_lem, one_spelling_lem, whole_in_front}
use Rattle.stn_session.specs.{Session.{Session, answer, followed, advanced, talked}, Serving.{EndsSession, IsSession}, declared.session.End.{End, TheVariants.{Closed, Cut, Refused}}}

-- a session that has ended stays
stays : (first : Session) (code : ℕ) → first.ended ≡ Some code → (frames : List FrameContent) → talked first frames ≡ first
stays first code e [] = refl
stays first code e (frame ∷ frames) =
    ap (λ s. talked s frames) (ap (λ o. cond (is_some o) first (followed first (answer first.source first.state first.greeted frame))) e) ∙ stays first code e frames

ends_ended : (s : Session) (rest : List ℕ) (end : End) (last : Session) (code : ℕ) → s.ended ≡ Some code → EndsSession s rest end last → (end ≡ Refused code) × (last ≡ s)
ends_ended s rest end last code e h = search rules

-- no frame stands where a session ends without a reply
no_frame : (s : Session) (rest later : List ℕ) (frame : FrameContent) (end : End) (last : Session) → s.ended ≡ None → IsFrame frame → rest ≡ spelling frame ++ later → EndsSession s rest end last → ⊥
no_frame s rest later frame Closed last on is front h = search (rules, spelling_some)
no_frame s rest later frame Cut last on is front h = search (rules, whole_in_front)
no_frame s rest later frame (Refused code) last on is front h =
    ⊎_elim (λ by. let some = by.0 in absurd (cc))
    (λ by. let clash = one_front_lem rest (faulty (wire_fault by.0)) (whole frame (length (spelling frame))) by.2 (whole_in_front frame rest later is front) in absurd (cc)) h

same_end : (s : Session) (rest : List ℕ) (one other : End) (last final : Session) → s.ended ≡ None → EndsSession s rest one last → EndsSession s rest other final → (one ≡ other) × (last ≡ final)
same_end s rest one other last final on p q = search rules

walk : (F G : List FrameContent) (first : Session) (bytes rest left : List ℕ) → AllByRecursion IsFrame F → AllByRecursion IsFrame G → bytes ≡ flat_map spelling F ++ rest → bytes ≡ flat_map spelling G ++ left
    → (one other : End) (last final : Session) → EndsSession (talked first F) rest one last → EndsSession (talked first G) left other final → (o : Option ℕ) → first.ended ≡ o → (one ≡ other) × (last ≡ final)
walk F G first bytes rest left isF isG cutF cutG one other last final p q (Some code) e =
    let a = ends_ended first rest one last code e (subst (λ s. EndsSession s rest one last) (stays first code e F) p) in
    let b = ends_ended first left other final code e (subst (λ s. EndsSession s left other final) (stays first code e G) q) in
    (a.0 ∙ sym b.0, a.1 ∙ sym b.1)
walk [] [] first bytes rest left isF isG cutF cutG one other last final p q None e = same_end first rest one other last final e p (subst (λ l. EndsSession first l other final) (sym cutG ∙ cutF) q)
walk [] (g ∷ G) first bytes rest left isF isG cutF cutG one other last final p q None e =
    absurd (no_frame first rest (flat_map spelling G ++ left) g one last e isG.0 (sym cutF ∙ (cutG ∙ append_assoc (spelling g) (flat_map spelling G) left)) p)
walk (f ∷ F) [] first bytes rest left isF isG cutF cutG one other last final p q None e =
    absurd (no_frame first left (flat_map spelling F ++ rest) f other final e isF.0 (sym cutG ∙ (cutF ∙ append_assoc (spelling f) (flat_map spelling F) rest)) q)
walk (f ∷ F) (g ∷ G) first bytes rest left isF isG cutF cutG one other last final p q None e =
    let both = one_spelling_lem f g (flat_map spelling F ++ rest) (flat_map spelling G ++ left) isF.0 isG.0
    (sym (append_assoc (spelling f) (flat_map spelling F) rest) ∙ (sym cutF ∙ (cutG ∙ append_assoc (spelling g) (flat_map spelling G) left))) in
    walk F G (advanced first f) (flat_map spelling F ++ rest) rest left isF.1 isG.1 refl both.1 one other last final p
    (subst (λ h. EndsSession (talked (advanced first h) G) left other final) (sym both.0) q) (advanced first f).ended refl

pub one_end : (first : Session) (bytes : List ℕ) (one other : End) (last final : Session) → IsSession first bytes one last → IsSession first bytes other final → (one ≡ other) × (last ≡ final)
one_end first bytes one other last final p q =
    walk p.reached.frames q.reached.frames first bytes p.rest q.rest p.reached.each q.reached.each p.reached.cut q.reached.cut one other last final
    (subst (λ s. EndsSession s p.rest one last) p.reached.talked p.ends) (subst (λ s. EndsSession s q.rest other final) q.reached.talked q.ends) first.ended refl
