-- Names and spellings are equal where they say the same.
use Rattle.std.{proofs.{Common.{rules, ◌≡◌, ℕ, Vec, Decides, nat_eq}}, specs.Cmp.Lexicographic.pointwise}
use Rattle.stn_pddl.specs.{declared.tree.name.Name.Name, Tree.Names.{is_same_word}}
use Rattle.stn_lift.specs.AtomViews.{folded_name, spelling_of}

pub names_decide : (a b : Name) → Decides (is_same_word a.bytes.now b.bytes.now) (folded_name a ≡ folded_name b)
unfolding is_same_word
names_decide a b = search rules

pub spellings_decide : {A : Type 0} (a b : Vec ℕ A) → Decides (pointwise nat_eq a.items b.items) (spelling_of a ≡ spelling_of b)
spellings_decide a b = search rules
