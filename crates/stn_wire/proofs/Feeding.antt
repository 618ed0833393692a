-- Bytes of a piece after those that are held: up to five of them, and then as many as the front wants.
use Rattle.std.proofs.{Common.{rules, ◌≡◌, ℕ, ◌+◌, ◌-◌, ◌<◌, ◌≤◌, min, List, ◌++◌, length, take, drop, None, Err, IfSome, refl, sym, ap, subst, ◌∙◌, ⊎_elim, arith, append_assoc, length-append, length-take, length-drop, take-append-drop}, lemmas.{Bool.cases_lt, List.{take_at, take_rest, drop_all, append-nil}}}
use Rattle.stn_wire.{specs.{Frame.FrameContent, Feeder.{holding, CompletesFrame}, Reading.{IsWanted, IsJudged, IsFrameTaken}, declared.fault.WireFault.{WireFault, TheVariants.{Length, Kind, Memory}}, Front.{whole, faulty, unfinished, announced, IsFront, answered_front}}, proofs.Fronts.{shown, fault_more, whole_more, announced_more}}

-- unfinished bytes are fewer than their frame has
pub unfinished_less : (bytes : List ℕ) → IsFront bytes unfinished → 5 ≤ length bytes → length bytes < 4 + announced bytes
unfinished_less bytes h long = omega arith

module _ (held piece : List ℕ) (before : IsFront held unfinished) (opening : ℕ) (opening_is : opening ≡ min (5 - length held) (length piece)) (opened : List ℕ) (opened_is : opened ≡ held ++ take opening piece) where
  behind_opened : opened ++ drop opening piece ≡ held ++ piece
  behind_opened = search (rules, append_assoc, take-append-drop)

  -- a fault of the opening is one of all
  pub opening_fault : (fault : WireFault) → IsFront opened (faulty fault) → IsFront (held ++ piece) (faulty fault)
  opening_fault fault h = search (rules, behind_opened, fault_more)

  pub opening_err : (A : Type 0) (fault : WireFault) (left : List ℕ) → IsJudged opened (Err fault) → IsFrameTaken {A = A} held piece (Err fault) left
  opening_err A Length left h = opening_fault Length h
  opening_err A Kind left h = opening_fault Kind h
  opening_err A fault left h = absurd h

  opened_length : length opened ≡ length held + opening
  opened_length = search (rules, length-append)

  module _ (wanted : ℕ) (wants : IsWanted opened wanted) (used : ℕ) (used_is : used ≡ min (wanted - length opened) (length (take (length piece - opening) (drop opening piece)))) (filled : List ℕ) (filled_is : filled ≡ opened ++ take used (take (length piece - opening) (drop opening piece))) where
    used_least : used ≡ min (wanted - length opened) (length piece - opening)
    used_least = omega (arith, used_is, ap length (take_rest piece opening), length-drop opening piece)

    behind_filled : filled ++ drop used (drop opening piece) ≡ held ++ piece
    behind_filled =
        ap (λ l. l ++ drop used (drop opening piece)) (filled_is ∙ ap (λ l. opened ++ take used l) (take_rest piece opening))
        ∙ append_assoc opened (take used (drop opening piece)) (drop used (drop opening piece))
        ∙ ap (λ l. opened ++ l) (take-append-drop used (drop opening piece))
        ∙ behind_opened

    filled_length : length filled ≡ length opened + used
    filled_length = omega (arith, ap length filled_is, ap length (take_rest piece opening), length-append opened (take used (take (length piece - opening) (drop opening piece))), length-take used (take (length piece - opening) (drop opening piece)), length-drop opening piece, used_least)

    pub filled_fault : (fault : WireFault) → IsFront filled (faulty fault) → IsFront (held ++ piece) (faulty fault)
    filled_fault fault h = subst (λ l. IsFront l (faulty fault)) behind_filled (fault_more filled (drop used (drop opening piece)) fault h)

    filled_kept : take (length held) filled ≡ held
    filled_kept =
        ap (take (length held)) (filled_is ∙ ap (λ l. l ++ take used (take (length piece - opening) (drop opening piece))) opened_is ∙ append_assoc held (take opening piece) (take used (take (length piece - opening) (drop opening piece))))
        ∙ take_at held (take opening piece ++ take used (take (length piece - opening) (drop opening piece))) (length held) refl

    pub filled_err : (A : Type 0) (fault : WireFault) → IfSome (answered_front {A = A} (Err fault)) (IsFront filled) → IsFrameTaken {A = A} held piece (Err fault) filled
    filled_err A Memory h = filled_kept
    filled_err A fault h = filled_fault fault h

    same_announced : 4 ≤ length opened → announced filled ≡ announced opened
    same_announced long = ap announced filled_is ∙ announced_more opened (take used (take (length piece - opening) (drop opening piece))) long

    -- no more than the frame has is held
    not_above : 5 ≤ length opened → length filled ≤ 4 + announced filled
    not_above long =
        let wide = wants.whole long in
        let same = same_announced (omega arith) in
        let least = wants.least in
        ⊎_elim
        (λ few. omega (arith, wide, same, least, filled_length, opened_length, used_least, opening_is))
        (λ many.
        let more : announced opened ≡ announced held = ap announced opened_is ∙ announced_more held (take opening piece) (omega arith) in
        omega (arith, wide, same, more, unfinished_less held before many, filled_length, opened_length, used_least, opening_is))
        (cases_lt (length held) 5)

    all_used : IsFront filled unfinished → opening + used ≡ length piece
    all_used h =
        ⊎_elim
        (λ few. omega (arith, opening_is, opened_length, used_least))
        (λ many. omega (arith, unfinished_less filled h (omega (arith, filled_length)), same_announced (omega arith), wants.whole many, filled_length, used_least, opening_is))
        (cases_lt (length opened) 5)

    -- where a whole frame came, all that is held is that frame
    pub filled_whole : (frame : FrameContent) (n : ℕ) → IsFront filled (whole frame n) → IsFront (held ++ piece) (whole frame (length held + (opening + used)))
    filled_whole frame n h =
        let s = shown filled frame n h in
        let long : 5 ≤ length opened = ⊎_elim (λ few. absurd (omega (arith, s.long, s.within, s.lasting.0, filled_length, opened_length, used_least, opening_is))) (λ many. many) (cases_lt (length opened) 5) in
        let is : n ≡ length held + (opening + used) = omega (arith, s.long, s.within, not_above long, filled_length, opened_length) in
        subst (λ k. IsFront (held ++ piece) (whole frame k)) is (subst (λ l. IsFront l (whole frame n)) behind_filled (whole_more filled (drop used (drop opening piece)) frame n h))

    -- where none came, all of the piece is held
    pub filled_none : (A : Type 0) → IsFront filled unfinished → CompletesFrame {A = A} held piece (opening + used) None (holding filled)
    filled_none A h =
        let all : filled ≡ held ++ piece = sym (append-nil filled)
        ∙ ap (λ l. filled ++ l) (sym (drop_all used (drop opening piece) (omega (arith, length-drop opening piece, all_used h))))
        ∙ behind_filled in
        (subst (λ l. IsFront l unfinished) all h, all_used h, ap holding all)
