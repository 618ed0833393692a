-- The printed line of a bound is read by an addition as the bound.
use Rattle.std.{proofs.{lemmas.{Grind.common_steps, Bool.{eqb-true, and_from}, Fmt.{digits_decimal, digits_value-decimal}, Int.ints, List.{Folds.list_all-append, Splits.{slice_split_at, slice_split_none}, Sums.AllPass-from_list_all}}, Common.{rules, ◌≡◌, ℕ, ◌+◌, ◌-◌, ◌*◌, ◌/◌, ◌%◌, ◌<◌, ◌≤◌, ◌^◌, Bool, true, false, ◌==◌, cond, not, List, [], ◌∷◌, ◌++◌, ℤ, neg_ℤ, Option, Some, Ok, Err, codes, decimal, refl, sym, ap, ◌∙◌, arith, append_assoc, append-nil, bytes_eq}}, specs.{Prelude.unsigned_abs, Fmt.sign_text, List.{All, list_all}, Ordering.int_eq, Str.{all_ascii_digits, Parse.digits_value}}}
use Rattle.std.specs.FinMap as map
use Rattle.stn_text.{specs.Lines.{is_gap, is_word, words_of}, proofs.Digits.own}
use Rattle.stn_time.{specs.{Time.{horizon, IsWithinHorizon}, Text.{printed, whole_text, three_digits}, TimeOf.time_of, declared.reading.TimeFault.TheVariants.Malformed}, proofs.Prints.{time_of-printed, decimal-whole_text}}
use Rattle.stn_net.specs.{Difference.Difference, Event.event_text}
use Rattle.stn_records.specs.{Id.{SiteCounter, IsId, id_text}, Record.is_done_mark, declared.record.Record.Record, Content.Content}
use Rattle.stn_site.specs.{declared.names.BoundName.BoundName, Lines.{line, done_text}, Names.name_text}
use Rattle.stn_questions.specs.{Bounds.{lower_text, upper_text, bound_text, named_line}, Records.{held_text, amends_text, word_where, is_amended, record_line}}
use Rattle.stn_laws.specs.ReadBack.{IsReadable, IsName, ReadsBack}
use Rattle.stn_command.{specs.Words.{event_of, side_read}, proofs.Events.event_below-some}
use Rattle.stn_exec.specs.Command.{side_word, bound_asked}

-- no byte parts words
abbrev no_gap : List ℕ → Bool
no_gap word = list_all (λ byte. not (is_gap byte)) word

-- the bytes are one word
record IsOneWord (word : List ℕ) : Type 0 where
  some : is_word word ≡ true
  whole : no_gap word ≡ true

-- nothing, or a space and what stands after it
abbrev is_apart : List ℕ → Bool
is_apart [] = true
is_apart (byte ∷ bytes) = byte == 32

gap_free : (word : List ℕ) → no_gap word ≡ true → All (λ byte. is_gap byte ≡ false) word
gap_free word e = search (rules, AllPass-from_list_all)

-- a word, a space, and what stands after it
words_behind : (word rest : List ℕ) → IsOneWord word → words_of (word ++ 32 ∷ rest) ≡ word ∷ words_of rest
unfolding words_of
words_behind word rest is = search (rules, slice_split_at, gap_free)

-- a word alone
word_alone : (word : List ℕ) → IsOneWord word → words_of word ≡ word ∷ []
unfolding words_of
word_alone word is = search (rules, slice_split_none, gap_free)

-- a word and what stands apart after it
words_apart : (word tail : List ℕ) → IsOneWord word → is_apart tail ≡ true → (rest : List (List ℕ)) × (words_of (word ++ tail) ≡ word ∷ rest)
words_apart word [] is e = search (rules, word_alone)
words_apart word (byte ∷ bytes) is e =
    (words_of bytes, ap (λ (b : ℕ). words_of (word ++ b ∷ bytes)) (eqb-true byte 32 e) ∙ words_behind word bytes is)

-- five words, and what stands apart after them
five_words : (a b c d e tail : List ℕ) → IsOneWord a → IsOneWord b → IsOneWord c → IsOneWord d → IsOneWord e → is_apart tail ≡ true
    → (rest : List (List ℕ)) × (words_of (a ++ 32 ∷ (b ++ 32 ∷ (c ++ 32 ∷ (d ++ 32 ∷ (e ++ tail))))) ≡ a ∷ (b ∷ (c ∷ (d ∷ (e ∷ rest)))))
five_words a b c d e tail is_a is_b is_c is_d is_e apart = search (rules, words_apart, words_behind)

-- a byte of a digit or above parts no words
above_gaps : (byte : ℕ) → 48 ≤ byte → not (is_gap byte) ≡ true
above_gaps byte le = search (rules)

digits_no_gap : (xs : List ℕ) → all_ascii_digits xs ≡ true → no_gap xs ≡ true
digits_no_gap [] e = refl
digits_no_gap (x ∷ xs) e = search (rules, and_from, (digits_no_gap xs))

decimal_no_gap : (n : ℕ) → n < 2 ^ 64 → no_gap (decimal n) ≡ true
decimal_no_gap n small = digits_no_gap (decimal n) (digits_decimal own n small)

no_gap-append : (xs ys : List ℕ) → no_gap xs ≡ true → no_gap ys ≡ true → no_gap (xs ++ ys) ≡ true
no_gap-append xs ys e f = search (rules, list_all-append)

is_word-append : (xs ys : List ℕ) → is_word ys ≡ true → is_word (xs ++ ys) ≡ true
is_word-append [] ys e = e
is_word-append (x ∷ xs) ys e = refl

-- the printed event is one word
event_word-by : (event : ℕ) (zero odd : Bool) → event ≤ 512
    → IsOneWord (cond zero (codes "z") (cond odd (codes "s" ++ decimal (event / 2 + 1)) (codes "e" ++ decimal (event / 2))))
event_word-by event zero odd le = search (rules, decimal_no_gap)

event_word : (event : ℕ) → event ≤ 512 → IsOneWord (event_text event)
event_word event le = event_word-by event _ _ le

-- the event that is printed so
event_behind : Bool → Bool → List ℕ → ℕ
event_behind true start digits = 0
event_behind false true digits = 2 * digits_value 10 digits - 1
event_behind false false digits = 2 * digits_value 10 digits

event_back : List ℕ → ℕ
event_back [] = 0
event_back (first ∷ digits) = event_behind (first == 122) (first == 115) digits

event_back-by : (event : ℕ) (zero odd : Bool) → event ≤ 512 → (event == 0) ≡ zero → (event % 2 == 1) ≡ odd
    → event_back (cond zero (codes "z") (cond odd (codes "s" ++ decimal (event / 2 + 1)) (codes "e" ++ decimal (event / 2)))) ≡ event
unfolding event_back event_behind
event_back-by event zero odd le e f = search (rules, digits_value-decimal, own)

event_back-text : (event : ℕ) → event ≤ 512 → event_back (event_text event) ≡ event
event_back-text event le = event_back-by event _ _ le refl refl

event_of-text : (event : ℕ) → event ≤ 512 → event_of (event_text event) ≡ Some event
event_of-text event le =
    event_below-some 513 _ event (omega arith) refl
    (λ other lt same. ap (λ (n : ℕ). Some n) (sym (event_back-text event le) ∙ ap event_back same ∙ event_back-text other (omega arith)))

-- a printed time is one word
digit_byte : (digit : ℕ) → not (is_gap (48 + digit)) ≡ true
digit_byte digit = above_gaps (48 + digit) (omega arith)

three_no_gap : (n : ℕ) → no_gap (three_digits n) ≡ true
three_no_gap n = simp (and_from, digit_byte)

sign_no_gap : (negative : Bool) → no_gap (sign_text negative) ≡ true
sign_no_gap negative = search rules

printed_word : (millis : ℤ) → unsigned_abs millis ≤ 31536000000 → IsOneWord (printed millis)
unfolding printed
printed_word millis le =
    let n = unsigned_abs millis in
    let whole : no_gap (whole_text (n / 1000)) ≡ true = ap no_gap (sym (decimal-whole_text (n / 1000) (omega arith))) ∙ decimal_no_gap (n / 1000) (omega arith) in
    search (rules, is_word-append, no_gap-append, sign_no_gap, three_no_gap)

star_is_no_time : time_of (codes "*") ≡ Err Malformed
unfolding time_of
star_is_no_time = refl

no_star-by : (millis : ℤ) (star : Bool) → IsWithinHorizon millis → bytes_eq (printed millis) (codes "*") ≡ star → star ≡ false
no_star-by millis star within e = search (rules, time_of-printed, star_is_no_time)

no_star : (millis : ℤ) → IsWithinHorizon millis → bytes_eq (printed millis) (codes "*") ≡ false
no_star millis within = no_star-by _ _ within refl

-- a side that is printed, as `*` where it is the open one, reads as itself
side_back-by : (widest side : ℤ) (is_open : Bool) → IsWithinHorizon side → (is_open ≡ true → side ≡ widest)
    → side_read widest (side_word (cond is_open (codes "*") (printed side))) ≡ Ok side
side_back-by widest side is_open within same = search (rules, no_star, time_of-printed)

within_size : (millis : ℤ) → IsWithinHorizon millis → unsigned_abs millis ≤ 31536000000
within_size millis within = omega (arith, ints)

side_word-by : (side : ℤ) (is_open : Bool) → IsWithinHorizon side → IsOneWord (cond is_open (codes "*") (printed side))
side_word-by side true within = record { some = refl; whole = refl }
side_word-by side false within = printed_word side (within_size side within)

lower_back : (lo : ℤ) → IsWithinHorizon lo → side_read (neg_ℤ horizon) (side_word (lower_text lo)) ≡ Ok lo
lower_back lo within = search (rules, side_back-by)

upper_back : (hi : ℤ) → IsWithinHorizon hi → side_read horizon (side_word (upper_text hi)) ≡ Ok hi
upper_back hi within = search (rules, side_back-by)

-- the words of a printed bound
words_back : (bound : Difference) → IsReadable bound
    → bound_asked (event_text bound.from ∷ (event_text bound.to ∷ (lower_text bound.lo ∷ (upper_text bound.hi ∷ []))))
    ≡ Some (Ok (record { from = bound.from; to = bound.to; lo = bound.lo; hi = bound.hi }))
words_back bound is = search (rules, event_of-text, lower_back, upper_back)

-- a printed bound, byte for byte
bound_shape : (first tail : List ℕ) (bound : Difference) → ((first ++ codes " ") ++ bound_text bound) ++ tail
    ≡ first ++ 32 ∷ (event_text bound.from ++ 32 ∷ (event_text bound.to ++ 32 ∷ (lower_text bound.lo ++ 32 ∷ (upper_text bound.hi ++ tail))))
bound_shape first tail bound = simp append_assoc

-- a text that begins with a word and a printed bound
reads_back : (text first tail : List ℕ) (bound : Difference) → IsReadable bound → IsOneWord first → is_apart tail ≡ true
    → text ≡ ((first ++ codes " ") ++ bound_text bound) ++ tail → ReadsBack text bound
reads_back text first tail bound is one apart whole =
    let words = five_words first _ _ _ _ tail one
    (event_word bound.from is.events.from) (event_word bound.to is.events.to)
    (side_word-by bound.lo (int_eq bound.lo (neg_ℤ horizon)) is.lo) (side_word-by bound.hi (int_eq bound.hi horizon) is.hi) apart in
    record {
      name = first;
      from = event_text bound.from;
      to = event_text bound.to;
      lo = lower_text bound.lo;
      hi = upper_text bound.hi;
      rest = words.0;
      words = ap words_of (whole ∙ bound_shape first tail bound) ∙ words.1;
      read = words_back bound is;
    }

id_word : (id : SiteCounter) → IsId id → IsOneWord (id_text id)
id_word id is = search (rules, is_word-append, no_gap-append, decimal_no_gap)

name_word : (name : BoundName) → IsName name → IsOneWord (name_text name)
name_word name is = grind (arith, common_steps, decimal_no_gap, id_word)

-- a line of `bounds`
pub named_back : (name : BoundName) (bound : Difference) → IsName name → IsReadable bound
    → (text : List ℕ) × (named_line name bound ≡ line text) × ReadsBack text bound
named_back name bound is readable = (
  (name_text name ++ codes " ") ++ bound_text bound,
  refl,
  reads_back _ _ [] bound readable (name_word name is) refl (sym (append-nil _)),
)

-- what stands after the bound of a record
abbrev behind : Content → SiteCounter → Record → List ℕ
behind state id one =
    done_text (is_done_mark one.mark) ++ (amends_text (map.get state.replacements id)
    ++ (word_where (map.contains_key state.tombstones id) (codes " withdrawn") ++ word_where (is_amended state id) (codes " replaced")))

behind_apart : (state : Content) (id : SiteCounter) (one : Record) → is_apart (behind state id one) ≡ true
behind_apart state id one = search rules

record_shape : (state : Content) (id : SiteCounter) (one : Record) (held : Option Record) → held ≡ Some one
    → id_text id ++ held_text held ++ amends_text (map.get state.replacements id)
    ++ word_where (map.contains_key state.tombstones id) (codes " withdrawn") ++ word_where (is_amended state id) (codes " replaced")
    ≡ ((id_text id ++ codes " ") ++ bound_text one.bound) ++ behind state id one
record_shape state id one held e = rw e (simp append_assoc)

-- a line of `records`
pub record_back : (state : Content) (id : SiteCounter) (one : Record) → map.get state.additions id ≡ Some one → IsId id → IsReadable one.bound
    → (text : List ℕ) × (record_line state id ≡ line text) × ReadsBack text one.bound
record_back state id one held is readable =
    let text = id_text id ++ held_text (map.get state.additions id) ++ amends_text (map.get state.replacements id)
    ++ word_where (map.contains_key state.tombstones id) (codes " withdrawn") ++ word_where (is_amended state id) (codes " replaced") in (
      text,
      refl,
      reads_back text _ _ _ readable (id_word id is) (behind_apart state id one)
          (record_shape state id one (map.get state.additions id) held),
    )
