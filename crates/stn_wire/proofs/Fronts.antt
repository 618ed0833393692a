-- Bytes have one front, and more bytes don't change a whole frame or a fault.
use Rattle.std.proofs.{lemmas.{List.{take-append-le, get_or_append_left, get_or-take, get_or_past, take-take, drop-take}, Nat.{from_be_bytes-to_be_bytes_4, be_bytes_4}, Bool.cases_lt}, Common.{rules, ◌≡◌, ℕ, ◌+◌, ◌-◌, ◌<◌, ◌≤◌, List, ◌++◌, length, take, drop, get_or, sym, ap, ◌∙◌, ⊎_elim, arith, length-append, length-take, length-drop, take-append-drop}}
use Rattle.stn_wire.specs.{Spelling.four, declared.fault.WireFault.WireFault, Reading.IsWanted, Frame.{FrameContent, body_of, HasSpelling}, Front.{whole, faulty, announced, IsLength, IsKind, IsFront}}

-- the first four bytes alone say what is announced
pub announced_front : (xs ys : List ℕ) → take 4 xs ≡ take 4 ys → announced xs ≡ announced ys
announced_front xs ys e = search rules

-- what the bytes of a whole frame show
pub record Shown (bytes : List ℕ) (frame : FrameContent) (n : ℕ) : Type 0 where
  pub long : n ≡ 4 + announced bytes
  pub within : n ≤ length bytes
  pub lasting : IsLength (announced bytes)
  pub known : IsKind (get_or bytes 4 0)
  pub body : take (announced bytes) (drop 4 bytes) ≡ body_of frame

pub shown : (bytes : List ℕ) (frame : FrameContent) (n : ℕ) → IsFront bytes (whole frame n) → Shown bytes frame n
shown bytes frame n h =
    let body = body_of frame in
    let long : n ≡ 4 + length body = omega (arith, ap length h.2, length-append (four (length body)) body, length-take n bytes, h.1) in
    let first : take 4 bytes ≡ four (length body) = sym (take-take 4 n bytes (omega arith)) ∙ ap (take 4) h.2 in
    let said : announced bytes ≡ length body = announced_front bytes (four (length body)) first ∙ from_be_bytes-to_be_bytes_4 (length body) (omega (arith, h.0.fits)) in
    let behind : take (announced bytes) (drop 4 bytes) ≡ body = ap (λ k. take k (drop 4 bytes)) said ∙ sym (drop-take 4 (length body) bytes) ∙ ap (λ k. drop 4 (take k bytes)) (sym long) ∙ ap (drop 4) h.2 in
    search rules

-- a whole body that is a frame's stands in front
pub whole_read : (bytes : List ℕ) (frame : FrameContent) (n : ℕ) → ((i : ℕ) → get_or bytes i 0 < 256) → IsWanted bytes n → n ≤ length bytes → HasSpelling frame → take (n - 4) (drop 4 bytes) ≡ body_of frame → IsFront bytes (whole frame n)
whole_read bytes frame n small wanted enough said is =
    let bounds = wanted.lasting (omega arith) in
    let body-is : length (body_of frame) ≡ announced bytes = omega (arith, ap length is, length-take (n - 4) (drop 4 bytes), length-drop 4 bytes) in
    let first_length : length (take 4 bytes) ≡ 4 = omega (arith, length-take 4 bytes) in
    let first_small : (i : ℕ) → get_or (take 4 bytes) i 0 < 256 = λ i. ⊎_elim (λ lt. rw (get_or-take 4 bytes i 0 lt) (small i)) (λ le. rw (get_or_past (take 4 bytes) i 0 (omega arith)) (omega arith)) (cases_lt i 4) in
    let first : four (announced bytes) ≡ take 4 bytes = be_bytes_4 (take 4 bytes) (announced bytes) first_length first_small (announced_front bytes (take 4 bytes) (sym (take-take 4 4 bytes (omega arith)))) in
    let n-sum : n ≡ 4 + (n - 4) = omega arith in
    let cut : take n bytes ≡ take 4 bytes ++ take (n - 4) (drop 4 bytes) =
    sym (take-append-drop 4 (take n bytes)) ∙ (λ i. take-take 4 n bytes (omega arith) i ++ (ap (λ k. drop 4 (take k bytes)) n-sum ∙ drop-take 4 (n - 4) bytes) i) in (
      record { said = said; fits = omega (arith, bounds.1) },
      enough,
      cut ∙ (λ i. (sym first ∙ ap four (sym body-is)) i ++ is i),
    )

-- ---- more bytes

pub announced_more : (xs ys : List ℕ) → 4 ≤ length xs → announced (xs ++ ys) ≡ announced xs
announced_more xs ys long = search (rules, announced_front)

kind_more : (xs ys : List ℕ) → 5 ≤ length xs → get_or (xs ++ ys) 4 0 ≡ get_or xs 4 0
kind_more xs ys long = search (rules, get_or_append_left)

pub whole_more : (xs ys : List ℕ) (frame : FrameContent) (n : ℕ) → IsFront xs (whole frame n) → IsFront (xs ++ ys) (whole frame n)
whole_more xs ys frame n h = search (rules, length-append, take-append-le)

pub fault_more : (xs ys : List ℕ) (fault : WireFault) → IsFront xs (faulty fault) → IsFront (xs ++ ys) (faulty fault)
fault_more xs ys fault h = search (rules, length-append, announced_more, kind_more, take-append-le)
