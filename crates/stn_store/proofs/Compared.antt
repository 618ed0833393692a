-- What is found of bytes that are compared piece by piece.
use Rattle.std.{proofs.{Common.{rules, ◌≡◌, ◌≢◌, ℕ, List, [], ◌++◌, Option, Some, None, false, append_assoc}, lemmas.{Bool.false≢true, List.append_cancel_left}, KnownBytes.Consumes-trans}, specs.Io.KnownBytes.Consumes}
use Rattle.stn_store.specs.Bytes.{AreKnownBytes, AreTheseIn}

-- what was read is the front of what the bytes are
known_front : (known rest : Option (List ℕ)) (front : List ℕ) → Consumes known rest front → (behind : List ℕ) × AreKnownBytes known (front ++ behind)
known_front None rest front read = ([], tt)
known_front (Some bytes) None front read = absurd read
known_front (Some bytes) (Some rest) front read = (rest, read)

-- one piece more is alike
pub alike_further : (known old new : Option (List ℕ)) {bytes : List ℕ} (front : List ℕ) {left : List ℕ} (piece : List ℕ) {rest : List ℕ} → bytes ≡ front ++ left → left ≡ piece ++ rest
    → Consumes known old front → Consumes old new piece → (more : List ℕ) × (bytes ≡ more ++ rest) × Consumes known new more
alike_further known old new front piece begins goes_on read next = search (rules, append_assoc, Consumes-trans)

-- or it is not
pub others_there : (known old new : Option (List ℕ)) {bytes : List ℕ} (front : List ℕ) {left : List ℕ} (piece : List ℕ) → bytes ≡ front ++ left → ((rest : List ℕ) → left ≢ piece ++ rest)
    → Consumes known old front → Consumes old new piece → AreTheseIn known bytes false
others_there known old new front piece begins differs read next =
    let all = known_front known new (front ++ piece) (Consumes-trans known old new front piece read next) in search (rules, false≢true, append_cancel_left, append_assoc)
