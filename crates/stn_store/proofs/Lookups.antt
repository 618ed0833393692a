-- What stands under a name, entry by entry.
use Rattle.std.{proofs.{lemmas.Grind.common_steps, Common.{rules, arith, ◌≡◌, ℕ, ◌+◌, ◌<◌, true, false, List, [], ◌∷◌, ◌++◌, length, map, take, get_or, Option, Some, None}}, specs.{Bool.then_some, Option.option_or, Str.bytes_eq}}
use Rattle.stn_store.specs.{Memory.entry_of, Store.{Entry, bytes_under}, declared.memory.NamedBytes.NamedBytes}

or_none : {X : Type 0} {o : Option X} → option_or o None ≡ o
or_none = search rules

or_assoc : {X : Type 0} (a b c : Option X) → option_or (option_or a b) c ≡ option_or a (option_or b c)
or_assoc a b c = search rules

-- the last entry comes first
under_more : (entries : List Entry) (entry : Entry) (name : List ℕ)
    → bytes_under (entries ++ entry ∷ []) name ≡ option_or (then_some (bytes_eq entry.name name) entry.bytes) (bytes_under entries name)
under_more [] entry name = search rules
under_more (first ∷ entries) entry name =
    cc (under_more entries entry name, or_assoc (then_some (bytes_eq entry.name name) entry.bytes) (bytes_under entries name) (then_some (bytes_eq first.name name) first.bytes))

-- one entry more was looked at
under_next : {A : Type 0} (all : List (NamedBytes A)) {place : ℕ} {one : NamedBytes A} (name : List ℕ) → place < length all → one ≡ get_or all place one
    → bytes_under (map entry_of (take (place + 1) all)) name
    ≡ option_or (then_some (bytes_eq (entry_of one).name name) (entry_of one).bytes) (bytes_under (map entry_of (take place all)) name)
under_next all name within at = grind (arith, common_steps, under_more)

-- it stands under the name, or what was found before does
pub under_this : {A : Type 0} (all : List (NamedBytes A)) {place : ℕ} {one : NamedBytes A} (name : List ℕ) → place < length all → one ≡ get_or all place one
    → bytes_eq (entry_of one).name name ≡ true
    → bytes_under (map entry_of (take (place + 1) all)) name ≡ Some (entry_of one).bytes
under_this all {place} {one} name within at same = cc (under_next all name within at)

pub under_earlier : {A : Type 0} (all : List (NamedBytes A)) {place : ℕ} {one : NamedBytes A} (name : List ℕ) → place < length all → one ≡ get_or all place one
    → bytes_eq (entry_of one).name name ≡ false
    → bytes_under (map entry_of (take (place + 1) all)) name ≡ bytes_under (map entry_of (take place all)) name
under_earlier all {place} {one} name within at other = cc (under_next all name within at)
