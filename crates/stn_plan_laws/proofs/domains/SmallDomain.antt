-- A domain in small letters has the actions of the domain in small letters.
use Rattle.std.{proofs.{lemmas.List.map-append, Common.{arith, rules, ◌≡◌, ℕ, List, [], ◌∷◌, map, is_some, Option, Result, ℤ, refl, ap, ◌∙◌}}, specs.Option.option_map}
use Rattle.stn_text.specs.Faults.{◌>>=◌}
use Rattle.stn_pddl.specs.{declared.{tree.scan.TreeFault.TreeFault, fault.DomainFault.DomainFault, action.Side.{Side, TheVariants.{Condition, Effect}}, word.{Item.Item, Field.Field, Key.Key}}, Tree.{Names.folded, Trees.{Trees, End, Word, Group}, Scan.tree_of}, Words.{item_of, key_of}, Schemas.{ActionSchema, bare_action}, Fields.{Listing, Values, no_values, parameters, parameters_behind_type, constant, duration, value_of, with_value, fields, field_value}, Actions.{timed_value, action_of_lists, action_of_values, named_action, is_taken, action}, Domains.{part, parts, is_title, root, domain_of_tree, domain_of_bytes, domain_of}}
use Rattle.stn_plan_laws.{specs.{Tree.Case.{in_small, mapped, tree_in_small}, Case.{action_in_small, domain_in_small}}, proofs.{trees.Case.small_tree as small_row_of, domains.{SmallWords.{same_first, same_both, same_listed, same_name, same_item, same_key_of, same_section, same_time}, SmallActions.{mapped-then, small_list}}}}

-- parameters
small_parameter : (line : ℕ) (word : List ℕ) (next : Trees) (before : List (List ℕ))
    → ((names : List (List ℕ)) → parameters (in_small next) (map folded names) ≡ mapped (map folded) (parameters next names))
    → parameters_behind_type line (in_small next) (map folded before) ≡ mapped (map folded) (parameters_behind_type line next before)
    → (k : Item) → item_of word ≡ k → parameters (in_small (Word line word next)) (map folded before) ≡ mapped (map folded) (parameters (Word line word next) before)
unfolding parameters in_small
small_parameter line word next before more typed k e = search (rules, same_item, same_listed, map-append)

mutual
  unfolding parameters parameters_behind_type in_small

  small_parameters : (trees : Trees) (before : List (List ℕ)) → parameters (in_small trees) (map folded before) ≡ mapped (map folded) (parameters trees before)
  small_parameters End before = refl
  small_parameters (Group line children next) before = refl
  small_parameters (Word line word next) before = small_parameter line word next before (λ names. small_parameters next names) (small_behind line next before) (item_of word) refl

  small_behind : (line : ℕ) (trees : Trees) (before : List (List ℕ)) → parameters_behind_type line (in_small trees) (map folded before) ≡ mapped (map folded) (parameters_behind_type line trees before)
  small_behind line End before = refl
  small_behind line (Word at word next) before = small_parameters next before
  small_behind line (Group at children next) before = small_parameters next before

-- the duration
same_duration : (line : ℕ) (children : Trees) → duration line (in_small children) ≡ duration line children
unfolding duration constant in_small
same_duration line children = search (rules, same_first, same_time)

-- the values of the keys
small_listing : Listing → Listing
small_listing listing = record { line = listing.line; children = in_small listing.children }

small_values : Values → Values
small_values values = record {
  parameters = option_map small_listing values.parameters;
  duration = option_map small_listing values.duration;
  condition = option_map small_listing values.condition;
  effect = option_map small_listing values.effect;
}

same_value : (name : Field) (values : Values) → is_some (value_of name (small_values values)) ≡ is_some (value_of name values)
unfolding small_values
same_value name values = search (rules)

small_with : (name : Field) (listing : Listing) (values : Values) → with_value name (small_listing listing) (small_values values) ≡ small_values (with_value name listing values)
unfolding small_values
small_with name listing values = search rules

small_key : (line : ℕ) (word : List ℕ) (next : Trees) (before : Values)
    → ((name : Field) → field_value line name (in_small next) (small_values before) ≡ mapped small_values (field_value line name next before))
    → (k : Key) → key_of word ≡ k → fields (in_small (Word line word next)) (small_values before) ≡ mapped small_values (fields (Word line word next) before)
unfolding fields in_small
small_key line word next before more k e = search (rules, same_key_of, same_value)

mutual
  unfolding fields field_value in_small small_listing

  small_fields : (trees : Trees) (before : Values) → fields (in_small trees) (small_values before) ≡ mapped small_values (fields trees before)
  small_fields End before = refl
  small_fields (Group line children next) before = refl
  small_fields (Word line word next) before = small_key line word next before (λ name. small_field line name next before) (key_of word) refl

  small_field : (line : ℕ) (name : Field) (trees : Trees) (before : Values) → field_value line name (in_small trees) (small_values before) ≡ mapped small_values (field_value line name trees before)
  small_field line name End before = refl
  small_field line name (Word at word next) before = refl
  small_field line name (Group at children next) before =
      let listing : Listing = record { line = at; children = children } in
      ap (fields (in_small next)) (small_with name listing before) ∙ small_fields next (with_value name listing before)

-- actions
small_value : (side : Side) (value : Option Listing) (a : ActionSchema) → timed_value side (option_map small_listing value) (action_in_small a) ≡ mapped action_in_small (timed_value side value a)
unfolding timed_value small_listing
small_value side value a = grind (arith, small_list)

small_bare : (name : List ℕ) (names : List (List ℕ)) (millis : ℤ) → bare_action (folded name) (map folded names) millis ≡ action_in_small (bare_action name names millis)
unfolding action_in_small
small_bare name names millis = refl

small_sides : (values : Values) (a : ActionSchema)
    → (timed_value Condition (option_map small_listing values.condition) (action_in_small a) >>= λ found. timed_value Effect (option_map small_listing values.effect) found)
    ≡ mapped action_in_small (timed_value Condition values.condition a >>= λ found. timed_value Effect values.effect found)
small_sides values a = search (rules, small_value)

-- a number has no letters
same_result : {found : Result ℤ DomainFault} → found ≡ mapped (λ millis. millis) found
same_result = search rules

small_lists : (name : List ℕ) (listed timed : Listing) (values : Values)
    → action_of_lists (folded name) (small_listing listed) (small_listing timed) (small_values values) ≡ mapped action_in_small (action_of_lists name listed timed values)
unfolding action_of_lists small_listing small_values
small_lists name listed timed values =
    let sides : ActionSchema → Result ActionSchema DomainFault = λ a. timed_value Condition values.condition a >>= λ found. timed_value Effect values.effect found in
    let other_sides : ActionSchema → Result ActionSchema DomainFault =
    λ a. timed_value Condition (option_map small_listing values.condition) a >>= λ found. timed_value Effect (option_map small_listing values.effect) found in
    mapped-then action_in_small (parameters listed.children [])
    (λ names. duration timed.line (in_small timed.children) >>= λ millis. other_sides (bare_action (folded name) names millis))
    (λ names. duration timed.line timed.children >>= λ millis. sides (bare_action name names millis))
    (small_parameters listed.children [])
    (λ names. mapped-then action_in_small (duration timed.line timed.children)
    (λ millis. other_sides (bare_action (folded name) (map folded names) millis)) (λ millis. sides (bare_action name names millis))
    (same_duration timed.line timed.children ∙ same_result)
    (λ millis. ap other_sides (small_bare name names millis) ∙ small_sides values (bare_action name names millis)))

small_action_of : (line : ℕ) (name : List ℕ) (values : Values) (listed timed : Option Listing)
    → action_of_values line (folded name) (small_values values) (option_map small_listing listed) (option_map small_listing timed)
    ≡ mapped action_in_small (action_of_values line name values listed timed)
small_action_of line name values listed timed = search (rules, small_lists)

small_named : (line : ℕ) (name : List ℕ) (rest : Trees) → named_action line (folded name) (in_small rest) ≡ mapped action_in_small (named_action line name rest)
unfolding named_action small_values
small_named line name rest = search (rules, (small_fields rest no_values), small_action_of)

same_taken : (name : List ℕ) (actions : List ActionSchema) → is_taken (folded name) (map action_in_small actions) ≡ is_taken name actions
unfolding is_taken action_in_small
same_taken name [] = refl
same_taken name (a ∷ actions) = rw (same_both name a.name, same_taken name actions) refl

small_action : (line : ℕ) (rest : Trees) (earlier : List ActionSchema) → action line (in_small rest) (map action_in_small earlier) ≡ mapped action_in_small (action line rest earlier)
unfolding action in_small
small_action line rest earlier = search (rules, same_name, same_taken, small_named)

-- the parts of a domain
small_part : (line : ℕ) (children : Trees) (before : List ActionSchema) → part line (in_small children) (map action_in_small before) ≡ mapped (map action_in_small) (part line children before)
unfolding part in_small
small_part line children before = search (rules, same_section, small_action, map-append)

small_parts : (trees : Trees) (before : List ActionSchema) → parts (in_small trees) (map action_in_small before) ≡ mapped (map action_in_small) (parts trees before)
unfolding parts in_small
small_parts End before = refl
small_parts (Word line word next) before = refl
small_parts (Group line children next) before =
    mapped-then (map action_in_small) (part line children before)
    (λ found. parts (in_small next) found) (λ found. parts next found) (small_part line children before) (λ found. small_parts next found)

same_title : (children : Trees) → is_title (in_small children) ≡ is_title children
unfolding is_title in_small
same_title children = search (rules, same_first, same_name)

small_root : (line : ℕ) (children : Trees) → root line (in_small children) ≡ mapped (map action_in_small) (root line children)
unfolding root in_small
small_root line (Word a define (Group b title rest)) = search (rules, same_first, same_title, (small_parts rest []))
small_root line children = refl

small_tree : (row : Trees) → domain_of_tree (in_small row) ≡ mapped (map action_in_small) (domain_of_tree row)
unfolding domain_of_tree in_small
small_tree row = search (rules, small_root)

small_bytes : (read : Result Trees TreeFault) → domain_of_bytes (tree_in_small read) ≡ mapped (map action_in_small) (domain_of_bytes read)
small_bytes read = search (rules, small_tree)

pub small_domain : (text : List ℕ) → domain_of (folded text) ≡ domain_in_small (domain_of text)
unfolding domain_of
small_domain text = cc (small_row_of text, small_bytes (tree_of text))
