-- What the words of a domain stand for. Words are compared without regard to ASCII case.
use Rattle.std.specs.{Prelude.{ℕ, Bool, false, not, ◌||◌, ◌&&◌, ◌==◌, List, [], ◌∷◌, length, nat_lt, if◌then◌else◌, codes}, List.list_any}
use Rattle.stn_pddl.specs.{Tree.Names.is_same_word, declared.word.{Head.Head, Item.Item, Key.Key, Section.Section}}
use Rattle.stn_pddl.specs.declared.word.Head.TheVariants as head
use Rattle.stn_pddl.specs.declared.word.Item.TheVariants as item
use Rattle.stn_pddl.specs.declared.word.Field.TheVariants as field
use Rattle.stn_pddl.specs.declared.word.Key.TheVariants as key
use Rattle.stn_pddl.specs.declared.word.Section.TheVariants as section

abbrev pub begins_with_byte : ℕ → List ℕ → Bool
begins_with_byte b [] = false
begins_with_byte b (first ∷ word) = first == b

-- begins with `?`
unfoldable pub is_variable : List ℕ → Bool
is_variable word = begins_with_byte 63 word

-- begins with `:`
unfoldable pub is_key : List ℕ → Bool
is_key word = begins_with_byte 58 word

-- a name begins neither with `?` nor with `:`
unfoldable pub is_name : List ℕ → Bool
is_name word = not (is_variable word) && not (is_key word)

-- words of logics beyond conjunctions of literals
abbrev pub connectives : List (List ℕ)
connectives = codes "or" ∷ codes "imply" ∷ codes "forall" ∷ codes "exists" ∷ codes "when" ∷ codes "preference" ∷ []

abbrev pub comparisons : List (List ℕ)
comparisons = codes "<" ∷ codes ">" ∷ codes "<=" ∷ codes ">=" ∷ []

abbrev pub assignments : List (List ℕ)
assignments = codes "increase" ∷ codes "decrease" ∷ codes "assign" ∷ codes "scale-up" ∷ codes "scale-down" ∷ []

unfoldable pub is_other_logic : List ℕ → Bool
is_other_logic word = list_any (is_same_word word) connectives || (list_any (is_same_word word) comparisons || list_any (is_same_word word) assignments)

-- the head of a condition or an effect
unfoldable pub head_of : List ℕ → Head
head_of word =
    if is_same_word word (codes "and") then head.And
    else (if is_same_word word (codes "not") then head.Not
    else (if is_same_word word (codes "=") then head.Equal
    else (if is_same_word word (codes "at") then head.At
    else (if is_same_word word (codes "over") then head.Over
    else (if is_other_logic word then head.OtherLogic
    else (if is_name word then head.Name else head.NoName))))))

-- a word of the list of parameters: a parameter has a byte after its `?`
unfoldable pub item_of : List ℕ → Item
item_of word =
    if is_variable word && nat_lt 1 (length word) then item.Parameter
    else (if is_same_word word (codes "-") then item.Dash else item.Other)

-- a word where a key of an action is wanted
unfoldable pub key_of : List ℕ → Key
key_of word =
    if is_same_word word (codes ":parameters") then key.Known field.Parameters
    else (if is_same_word word (codes ":duration") then key.Known field.Duration
    else (if is_same_word word (codes ":condition") then key.Known field.Condition
    else (if is_same_word word (codes ":effect") then key.Known field.Effect
    else (if is_key word then key.Unknown else key.NoKey))))

abbrev pub skipped : List (List ℕ)
skipped = codes ":requirements" ∷ codes ":types" ∷ codes ":constants" ∷ codes ":predicates" ∷ []

-- the head of a part of a domain
unfoldable pub section_of : List ℕ → Section
section_of word =
    if list_any (is_same_word word) skipped then section.Skipped
    else (if is_same_word word (codes ":durative-action") then section.Action
    else (if is_key word then section.Unknown else section.NoSection))
