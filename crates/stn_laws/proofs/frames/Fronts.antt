-- Bytes have one front, and some.
use Rattle.std.{proofs.{Common.{rules, ◌≡◌, ℕ, ◌+◌, ◌-◌, ◌<◌, ◌≤◌, List, ◌++◌, length, take, drop, get_or, ◌^◌, ◌⊎◌, inl, inr, refl, sym, ap, ◌∙◌, ⊎_elim, arith, length-append}, lemmas.{Grind.common_steps, List.{take_at, drop_at}, Bool.{cases_lt, cases_eq}}}, specs.List.AllByRecursion}
use Rattle.stn_wire.{specs.{Spelling.four, declared.fault.WireFault.{WireFault, TheVariants.{Length, Kind, Body}}, Reading.IsWanted, Frame.{FrameContent, spelling, IsFrame, most_body}, Front.{Front, whole, faulty, unfinished, announced, IsLength, IsKind, IsFront, BeginsFrame}}, proofs.{Bodies.body_apart, Fronts.{shown, whole_read}}}

-- unfinished bytes are no more than a frame has
pub unfinished_short : (bytes : List ℕ) → IsFront bytes unfinished → IsLength (announced bytes) → ¬ (4 + announced bytes ≤ length bytes)
unfinished_short bytes h long enough = omega arith

pub one_front_lem : (bytes : List ℕ) (a b : Front) → IsFront bytes a → IsFront bytes b → a ≡ b
one_front_lem bytes (whole f n) (whole g m) p q =
    let ours = shown bytes f n p in
    let theirs = shown bytes g m q in
    let frames = body_apart f g p.0.said q.0.said (sym ours.body ∙ theirs.body) in
    cc
one_front_lem bytes (whole f n) b p q = let s = shown bytes f n p in search (rules, unfinished_short)
one_front_lem bytes a (whole g m) p q = let s = shown bytes g m q in search (rules, unfinished_short)
one_front_lem bytes a b p q = search rules

-- a frame in front of its own spelling
pub whole_spelled : (frame : FrameContent) (more : List ℕ) → IsFrame frame → IsFront (spelling frame ++ more) (whole frame (length (spelling frame)))
whole_spelled frame more h = search (rules, length-append, take_at)

-- and in front of bytes that begin with it
pub whole_in_front : (frame : FrameContent) (bytes more : List ℕ) → IsFrame frame → bytes ≡ spelling frame ++ more → IsFront bytes (whole frame (length (spelling frame)))
whole_in_front frame bytes more h is = grind (arith, common_steps)

pub one_spelling_lem : (f g : FrameContent) (x y : List ℕ) → IsFrame f → IsFrame g → spelling f ++ x ≡ spelling g ++ y → (f ≡ g) × (x ≡ y)
one_spelling_lem f g x y p q e =
    let ours = whole_spelled f x p in
    let theirs = whole_in_front g (spelling f ++ x) y q e in
    let both = one_front_lem (spelling f ++ x) (whole f (length (spelling f))) (whole g (length (spelling g))) ours theirs in
    let long : length (spelling f) ≡ length (spelling g) = cc in
    (cc, sym (drop_at (spelling f) x (length (spelling f)) refl) ∙ (λ i. drop (long i) (e i)) ∙ drop_at (spelling g) y (length (spelling g)) refl)

-- ---- bytes that begin with no whole frame

small_bytes : (bytes : List ℕ) → AllByRecursion (λ byte. byte < 2 ^ 8) bytes → (i : ℕ) → get_or bytes i 0 < 256
small_bytes bytes small i = grind (arith, common_steps)

-- a whole body of a kind: none of a frame
no_body : (bytes : List ℕ) → ((i : ℕ) → get_or bytes i 0 < 256) → ¬ BeginsFrame bytes → 4 + announced bytes ≤ length bytes → IsLength (announced bytes) → IsKind (get_or bytes 4 0)
    → IsFront bytes (faulty Body)
no_body bytes small none all lasting known = (
  all,
  lasting,
  known,
  λ frame is same.
      let wanted : IsWanted bytes (4 + announced bytes) = search rules in
      let behind : 4 + announced bytes - 4 ≡ announced bytes = omega arith in
      none (frame, 4 + announced bytes, whole_read bytes frame (4 + announced bytes) small wanted all is.said (ap (λ n. take n (drop 4 bytes)) behind ∙ same)),
)

abbrev pub ShowsNone : List ℕ → Type 0
ShowsNone bytes = IsFront bytes unfinished ⊎ ((fault : WireFault) × IsFront bytes (faulty fault))

of_kind : (bytes : List ℕ) → ((i : ℕ) → get_or bytes i 0 < 256) → ¬ BeginsFrame bytes → 5 ≤ length bytes → IsLength (announced bytes) → IsKind (get_or bytes 4 0) → ShowsNone bytes
of_kind bytes small none five lasting known = search (rules, no_body)

of_length : (bytes : List ℕ) → ((i : ℕ) → get_or bytes i 0 < 256) → ¬ BeginsFrame bytes → 4 ≤ length bytes → IsLength (announced bytes) → ShowsNone bytes
of_length bytes small none four lasting =
    ⊎_elim (λ less. inl (inr (lasting, inl (omega (arith, four, less))))) (λ five.
    ⊎_elim (λ low. inr (Kind, (five, lasting, ⊎_elim (λ k. omega (arith, low, k.0)) (λ k. omega (arith, low, k)))))
    (λ low. ⊎_elim (λ high. ⊎_elim (λ known. of_kind bytes small none five lasting (inr known)) (λ other. inr (Kind, (five, lasting, ⊎_elim (λ k. omega (arith, high, k.1)) other))) (cases_eq (get_or bytes 4 0) 16))
    (λ high. of_kind bytes small none five lasting (inl (low, high))) (cases_lt 8 (get_or bytes 4 0))) (cases_lt (get_or bytes 4 0) 1))
    (cases_lt (length bytes) 5)

pub some_front_lem : (bytes : List ℕ) → AllByRecursion (λ byte. byte < 2 ^ 8) bytes → ¬ BeginsFrame bytes → ShowsNone bytes
some_front_lem bytes small none =
    ⊎_elim (λ few. inl (inl few)) (λ four.
    ⊎_elim (λ low. inr (Length, (four, λ l. omega (arith, low, l.0)))) (λ low.
    ⊎_elim (λ high. inr (Length, (four, λ l. omega (arith, high, l.1)))) (λ high. of_length bytes (small_bytes bytes small) none four (low, high)) (cases_lt most_body (announced bytes)))
    (cases_lt (announced bytes) 1)) (cases_lt (length bytes) 4)
