-- The cause of a fault gives the fault.
use Rattle.std.proofs.Common.{rules, ◌≡◌, ◌<◌, ℕ, ◌⊎◌, inl, inr, Bool, true, false, cond, ◌&&◌, List, [], length, Ok, Err, refl, ap, ◌∙◌, codes}
use Rattle.stn_pddl.{specs.{declared.{tree.scan.TreeFault.TreeFault, fault.DomainFault.{DomainFault, TheVariants.{TooLong, Syntax, TooDeep, Memory}}}, Tree.{Names.is_same_word, Trees.{Trees, End, Word, Group}, Scan.{most_text, tree_of}}, Faults.{of_tree, is_memory}, Schemas.ActionSchema, Domains.{parts, is_title, root, domain_of_tree, domain_of_bytes, domain_of}, Causes.{row_then, BeginsDomain, IsListAt, IsOtherList, IsRefusedPart, IsFirstRefusedPart, IsDomainCause}}, proofs.Causes.cause_of}
use Rattle.stn_pddl.specs.declared.tree.scan.TreeFault.TheVariants as tree

-- after parts without a fault
refused_then : (earlier later : Trees) (before given : List ActionSchema) (fault : DomainFault) → parts earlier before ≡ Ok given → IsRefusedPart later given fault
    → parts (row_then earlier later) before ≡ Err fault
unfolding parts row_then
refused_then End later before given fault none is = search (rules)
refused_then (Word line word next) later before given fault none is = cc
refused_then (Group line children next) later before given fault none is = search (rules, (refused_then next later))

root-parts : (line : ℕ) (children rest : Trees) → BeginsDomain children rest → root line children ≡ parts rest []
unfolding root
root-parts line children rest has = cc

root-other : (line : ℕ) (children : Trees) → ((rest : Trees) → BeginsDomain children rest → ⊥) → root line children ≡ Err (Syntax line)
unfolding root
root-other line (Word a define (Group b title rest)) none = by (is_same_word define (codes "define")) (is_title title) refl refl
  where
    by : (d t : Bool) → is_same_word define (codes "define") ≡ d → is_title title ≡ t
        → cond (d && t) (parts rest []) (Err (Syntax line)) ≡ Err (Syntax line)
    by true true is_define titled =
        absurd (none rest (record { first_line = a; define = define; title_line = b; title = title; whole = refl; is_define = is_define; titled = titled }))
    by true false is_define titled = refl
    by false t is_define titled = refl
root-other line children none = refl

module _ (text : List ℕ) where
  by_list : (line : ℕ) (children : Trees) → IsListAt text line children → domain_of text ≡ root line children
  unfolding domain_of domain_of_tree
  by_list line children list = ap domain_of_bytes list

  by_bytes : (first : TreeFault) → tree_of text ≡ Err first → domain_of text ≡ Err (of_tree first)
  unfolding domain_of
  by_bytes first is = ap domain_of_bytes is

  by_length : most_text < length text → domain_of text ≡ Err TooLong
  unfolding domain_of tree_of
  by_length long = search (rules)

  by_other : {line : ℕ} → IsOtherList text line → domain_of text ≡ Err (Syntax line)
  by_other {line} is = by_list line is.children is.list ∙ root-other line is.children is.other

  by_part : {fault : DomainFault} → IsFirstRefusedPart text fault → domain_of text ≡ Err fault
  by_part {fault} is =
      cc (by_list is.line is.children is.list, root-parts is.line is.children is.rest is.domain, refused_then is.earlier is.later [] is.before fault is.none_before is.refused)

  by_syntax : {line : ℕ} → (tree_of text ≡ Err (tree.Syntax line)) ⊎ (IsOtherList text line ⊎ IsFirstRefusedPart text (Syntax line)) → domain_of text ≡ Err (Syntax line)
  by_syntax {line} (inl is) = by_bytes (tree.Syntax line) is
  by_syntax {line} (inr (inl is)) = by_other is
  by_syntax {line} (inr (inr is)) = by_part is

  pub fault_of : (fault : DomainFault) → is_memory fault ≡ false → IsDomainCause text fault → domain_of text ≡ Err fault
  fault_of TooLong some is = by_length is
  fault_of (Syntax line) some is = by_syntax is
  fault_of (TooDeep line) some is = by_bytes (tree.TooDeep line) is
  fault_of Memory some is = cc
  fault_of fault some is = by_part is

  pub cause_for : {fault : DomainFault} → is_memory fault ≡ false → domain_of text ≡ Err fault → IsDomainCause text fault
  cause_for some is = search (rules, cause_of)
