-- The first fault of a domain has its cause.
use Rattle.std.{proofs.{Common.{arith, rules, ◌≡◌, ℕ, Bool, true, false, cond, ◌&&◌, List, [], Result, Ok, Err, refl, sym, ap, ◌∙◌, codes}, lemmas.Result.MatchResult-at_err}}
use Rattle.stn_pddl.{specs.{declared.{tree.scan.TreeFault.TreeFault, fault.DomainFault.{DomainFault, TheVariants.{Syntax}}}, Tree.{Names.is_same_word, Trees.{Trees, End, Word, Group}, Scan.{tree_of}}, Faults.{of_tree, is_memory}, Schemas.ActionSchema, Domains.{part, parts, is_title, root, domain_of_tree, domain_of}, Causes.{row_then, BeginsDomain, IsListAt, IsRefusedPart, IsFirstRefusedPart, IsDomainCause}}, proofs.{tree.Faults.{tree_of-long, tree_of-list}, Forms.{IsFormFault, all_parts_given}}}
use Rattle.stn_text.specs.Faults.{◌>>=◌, Fails}

-- the parts of a row of which one is refused
record Parts (rest : Trees) (before : List ActionSchema) (fault : DomainFault) : Type 0 where
  earlier : Trees
  later : Trees
  whole : rest ≡ row_then earlier later
  given : List ActionSchema
  none_before : parts earlier before ≡ Ok given
  refused : IsRefusedPart later given fault

first_part : (rest : Trees) (before : List ActionSchema) (fault : DomainFault) → parts rest before ≡ Err fault → Parts rest before fault
unfolding parts row_then
first_part End before fault is = cc
first_part (Word line word next) before fault is = record {
  earlier = End;
  later = Word line word next;
  whole = refl;
  given = before;
  none_before = refl;
  refused = let same : Syntax line ≡ fault = cc in sym same;
}
first_part (Group line children next) before fault is = by (part line children before) refl is (λ found. first_part next found fault)
  where
    by : (found : Result (List ActionSchema) DomainFault) → part line children before ≡ found → (found >>= λ given. parts next given) ≡ Err fault
        → ((given : List ActionSchema) → parts next given ≡ Err fault → Parts next given fault) → Parts (Group line children next) before fault
    by (Ok given) this is behind =
        let others = behind given is in
        record {
          earlier = Group line children others.earlier;
          later = others.later;
          whole = ap (λ row. Group line children row) others.whole;
          given = others.given;
          none_before = rw this others.none_before;
          refused = others.refused;
        }
    by (Err given) this is behind =
        let same : given ≡ fault = cc in
        record {
          earlier = End;
          later = Group line children next;
          whole = refl;
          given = before;
          none_before = refl;
          refused = this ∙ ap Err same;
        }

module _ (text : List ℕ) where
  -- a fault of the bytes
  of_bytes : {first : TreeFault} → tree_of text ≡ Err first → IsDomainCause text (of_tree first)
  of_bytes is = search (rules, tree_of-long)

  -- a fault of the forms
  of_forms : {fault : DomainFault} → IsFormFault fault → IsFirstRefusedPart text fault → IsDomainCause text fault
  of_forms form found = search rules

  module _ (fault : DomainFault) (line : ℕ) where
    -- a list that doesn't begin as a domain does
    otherwise : {children : Trees} → IsListAt text line children → ((rest : Trees) → BeginsDomain children rest → ⊥) → Syntax line ≡ fault → IsDomainCause text fault
    otherwise list none same = search rules

    -- a list that begins so, or with another word or another title
    begun : {a b : ℕ} {define : List ℕ} {title rest : Trees} → IsListAt text line (Word a define (Group b title rest)) → (d t : Bool)
        → is_same_word define (codes "define") ≡ d → is_title title ≡ t → cond (d && t) (parts rest []) (Err (Syntax line)) ≡ Err fault → IsDomainCause text fault
    begun {rest} list true true is_define titled is =
        let found = first_part rest [] fault is in
        of_forms (MatchResult-at_err _ _ fault is (all_parts_given rest)) (search rules)
    begun list true false is_define titled is = otherwise list (λ others has. cc) (cc)
    begun list false t is_define titled is = otherwise list (λ others has. cc) (cc)

    from_root : (children : Trees) → IsListAt text line children → root line children ≡ Err fault → IsDomainCause text fault
    unfolding root
    from_root (Word a define (Group b title rest)) list is = begun list _ _ refl refl is
    from_root children list is = otherwise list (λ rest has. let whole = has.whole in cc) (cc)

  caused : (fault : DomainFault) → domain_of text ≡ Err fault → IsDomainCause text fault
  unfolding domain_of domain_of_tree
  caused fault is = search (rules, tree_of-list, from_root, of_bytes)

  pub cause_of : (fault : DomainFault) → Fails is_memory fault (domain_of text) → IsDomainCause text fault
  cause_of fault is = grind (arith, caused)
