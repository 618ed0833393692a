-- What an accepted command's rows hold, and which command it is, by the rules of clap: where each required argument has a value at each use.
use Rattle.std.{proofs.{Common.{rules, ◌≡◌, ◌≢◌, ◌∙◌, ℕ, Bool, codes, true, false, not, cond, List, [], ◌∷◌, ◌++◌, Option, Some, None, refl, sym, ap, subst, arith, length, zero, suc, is_some, ◌&&◌, ◌||◌, option_map}, lemmas.{Bool.{and_parts, eqb-true, ne_eqb, not-true, or_parts}, Option.same_Some, Slice.Eq.bytes_eq-Decides}}, specs.{Prelude.{⊤, IsSomeAnd, IfSome, find, fold, nat_lt, slice_get, option_and_then}, List.{AllByRecursion, list_all, list_any}, Option.option_map_or, Str.{bytes_eq, chars}}}
use Rattle.clap.{specs.{Lexer.{long_of, short_of}, Facts.{explicit_source, parser_of_value, unwrap_or_range}, Values.{Accepts, refused_kind}, ValueTests.accepts, Takes.is_given, declared.{builder.{action.ArgAction.ArgAction, value_parser.ValueParser.{ValueParser, TheVariants.{String, Unsigned}}}, parser.matches.ValueSource.{ValueSource, TheVariants.{CommandLine, DefaultValue}}}, Walk.{Row, Rule, Text, Held, Names, Outcome, Step, Waiting, Walk, action_of, after_flag, after_step, arg_by_id, arg_by_index, arg_by_long, arg_by_short, at_row, attached_value, bundle_met, finished, has_row, is_empty, long_met, most_values, nothing_held, option_met, option_word, plain_word, reacted, reading_by, rows_after, settled, settled_rows, short_met, subcommand_met, takes_several, takes_values, to_positional, used, values_or_missing, walk, walk_from, walked, with_default, without, word_met}, Simple.{App, Shape, argument_words, built, entered, label_of, names_of, rows_at, subcommand_of}, Kinds.{Kinds, check_kinds, or_else, range_kinds, request_kinds, value_kinds}, Faults.{stray_fault, other_fault, action_fault, bundle_fault, bundle_step_fault, check_fault, default_fault, defaults_fault, entered_fault, fault_of, flags_fault, flag_word_fault, given_default_fault, level_fault, long_fault, option_fault, positional_fault, react_fault, repeat_fault, settle_fault, short_fault, step_fault, turn_fault, use_fault, values_fault, walk_fault, word_fault}}, proofs.ValueTestLemmas.accepts-Accepts}
use Rattle.clap.specs.Walk as walk
use Rattle.stn_line.{specs.Given.{HoldsWord, HoldsWords, HoldsWordsAmong}, proofs.Values.find_each}
use Rattle.clap.specs.declared.builder.action.ArgAction.TheVariants as action
use Rattle.clap.specs.declared.error.kind.ErrorKind.TheVariants as kind

-- neither step has a fault
no_first : (a b : Kinds) → or_else a b ≡ [] → a ≡ []
no_first [] b e = refl
no_first (k ∷ ks) b e = e

no_second : (a b : Kinds) → or_else a b ≡ [] → b ≡ []
no_second [] b e = e
no_second (k ∷ ks) b e = cc

-- ---- what clap reads
-- each is good, and no other one has its key
abbrev are_alone : {X : Type 0} → (X → Text) → (X → Bool) → List X → Bool
are_alone key good [] = true
are_alone key good (x ∷ xs) = good x && (list_all (λ y. not (bytes_eq (key x) (key y))) xs && are_alone key good xs)

abbrev IsAlone : {X : Type 0} → (X → Text) → (X → Bool) → List X → X → Type 0
IsAlone key good all x = (good x ≡ true) × (find (λ y. bytes_eq (key y) (key x)) all ≡ Some x)

module _ {X : Type 0} (key : X → Text) (good : X → Bool) where
  one_before : (x : X) (all rest : List X) → list_all (λ y. not (bytes_eq (key x) (key y))) rest ≡ true → AllByRecursion (IsAlone key good all) rest
      → AllByRecursion (IsAlone key good (x ∷ all)) rest
  one_before x all [] others alone = tt
  one_before x all (y ∷ rest) others alone =
      let parts = and_parts (not (bytes_eq (key x) (key y))) _ others in
      let other : bytes_eq (key x) (key y) ≡ false = not-true _ parts.0 in
      ((alone.0.0, rw other alone.0.1), one_before x all rest parts.1 alone.1)

  each_alone : (xs : List X) → are_alone key good xs ≡ true → AllByRecursion (IsAlone key good xs) xs
  each_alone [] is = tt
  each_alone (x ∷ xs) is =
      let parts = and_parts (good x) _ is in
      let later = and_parts (list_all (λ y. not (bytes_eq (key x) (key y))) xs) _ parts.1 in
      let same : bytes_eq (key x) (key x) ≡ true = (bytes_eq-Decides (key x) (key x)).1 refl in
      ((parts.0, rw same refl), one_before x xs xs later.0 (each_alone xs later.1))

-- an argument that does not count its uses, and that has a value at each use if it is required
abbrev is_plain_action : ArgAction → Bool
is_plain_action action.Count = false
is_plain_action other = true

abbrev is_plain_rule : Rule → Bool
is_plain_rule a = not (a.required && not (nat_lt 0 (unwrap_or_range a.range).start_inclusive)) && is_plain_action (action_of a)

abbrev IsPlainIn : List Rule → Rule → Type 0
IsPlainIn = IsAlone (λ a. a.id) is_plain_rule

-- a command of such arguments, with one name
abbrev pub is_plain : Shape → Bool
is_plain s = is_empty s.aliases && are_alone (λ a. a.id) is_plain_rule s.rules

abbrev pub are_plain : List Shape → Bool
are_plain = are_alone (λ s. s.name) is_plain

-- ---- rows
-- the first of the values is one that the argument takes; there is none only if the argument is not required
abbrev FirstFits : Rule → List Text → Type 0
FirstFits a [] = a.required ≡ false
FirstFits a (v ∷ values) = value_kinds a.ignore_case (parser_of_value a.parser) v ≡ []

both_fit : (a : Rule) (values more : List Text) → FirstFits a values → FirstFits a more → FirstFits a (values ++ more)
both_fit a [] more fits later = later
both_fit a (v ∷ values) more fits later = fits

-- a use without a fault gives such values
values_fit : (a : Rule) (values : List Text) → is_plain_rule a ≡ true → range_kinds (unwrap_or_range a.range).start_inclusive (most_values a) (length values) ≡ []
    → values_fault a (values_or_missing a values) ≡ [] → FirstFits a (values_or_missing a values)
values_fit a (v ∷ values) plain range passes = no_first _ (values_fault a values) passes
values_fit a [] plain range passes = missing a.missing passes
  where
    optional : (required some : Bool) (rest : Kinds) → not (required && not some) ≡ true → cond (some && true) (kind.InvalidValue ∷ []) rest ≡ [] → required ≡ false
    optional false some rest wanted none = refl
    optional true true rest wanted none = cc
    optional true false rest wanted none = cc

    missing : (values : List Text) → values_fault a values ≡ [] → FirstFits a values
    missing [] none = optional a.required (nat_lt 0 (unwrap_or_range a.range).start_inclusive) _ (and_parts _ (is_plain_action (action_of a)) plain).0 range
    missing (v ∷ values) none = no_first _ (values_fault a values) none

-- a row of an argument, whose first value it has
record RowFits (c : List Rule) (r : Row) : Type 0 where
  rule : Rule
  own : arg_by_id c r.id ≡ Some rule
  first : FirstFits rule r.values

abbrev Fit : List Rule → List Row → Type 0
Fit c rows = AllByRecursion (RowFits c) rows

-- the row of an id changes, or a new one goes to the end
changed_row : (c : List Rule) (id : Text) (change : Row → List Row) (new rows : List Row)
    → ((r : Row) (rest : List Row) → r.id ≡ id → RowFits c r → Fit c rest → Fit c (change r ++ rest)) → Fit c new → Fit c rows → Fit c (at_row id change new rows)
changed_row c id change new [] changes fits fit = fits
changed_row c id change new (r ∷ rows) changes fits fit = go (bytes_eq r.id id) refl (changed_row c id change new rows changes fits fit.1)
  where
    go : (t : Bool) → bytes_eq r.id id ≡ t → Fit c (at_row id change new rows) → Fit c (cond t (change r ++ rows) (r ∷ at_row id change new rows))
    go true t later = changes r rows ((bytes_eq-Decides r.id id).0 t) fit.0 fit.1
    go false t later = (fit.0, later)

module _ (c : List Rule) (a : Rule) (plain : IsPlainIn c a) where
  -- the values of a row of its id are its values
  of_own : (r : Row) → r.id ≡ a.id → RowFits c r → FirstFits a r.values
  of_own r same fits = subst (λ x. FirstFits x r.values) (same_Some _ _ (sym fits.own ∙ ap (arg_by_id c) same ∙ plain.1)) fits.first

  values_added : (source : ValueSource) (values : List Text) (rows : List Row) → FirstFits a values → Fit c rows → Fit c (walk.with_values a.id (reading_by a) source values rows)
  values_added source values rows first fit = changed_row c a.id (walk.more_values source values) _ rows
      (λ r rest same fits others. (record { rule = a; own = ap (arg_by_id c) same ∙ plain.1; first = both_fit a r.values values (of_own r same fits) first }, others))
      (record { rule = a; own = plain.1; first = first }, tt) fit

  -- a use without a fault leaves rows that fit
  use_fits : (again : Bool) (values : List Text) (rows : List Row) → use_fault again a values rows ≡ [] → Fit c rows → Fit c (used a values rows)
  use_fits again values rows none fit = go (action_of a) (and_parts _ (is_plain_action (action_of a)) plain.0).1 (no_second (range_kinds (unwrap_or_range a.range).start_inclusive (most_values a) (length values)) _ none)
    where
      set : or_else (repeat_fault again a.id rows) (values_fault a (values_or_missing a values)) ≡ []
          → Fit c (walk.with_values a.id (reading_by a) CommandLine (values_or_missing a values) (without a.id rows))
      set none_set = values_added CommandLine _ _ (values_fit a values plain.0 (no_first _ (action_fault (action_of a) again a (values_or_missing a values) rows) none)
          (no_second (repeat_fault again a.id rows) _ none_set)) (changed_row c a.id (λ _. []) [] rows (λ r rest same fits others. others) tt fit)

      go : (x : ArgAction) → is_plain_action x ≡ true → action_fault x again a (values_or_missing a values) rows ≡ []
          → Fit c (walk.used_as x a.id (reading_by a) (values_or_missing a values) rows)
      go action.Set counts acts = set acts
      go action.SetTrue counts acts = set acts
      go action.SetFalse counts acts = set acts
      go action.Append counts acts =
          values_added CommandLine _ rows (values_fit a values plain.0 (no_first _ (action_fault (action_of a) again a (values_or_missing a values) rows) none) acts) fit
      go action.Count counts acts = cc
      go other counts acts = fit

  -- a default that it takes is a value
  default_fits : (rows : List Row) → default_fault rows a ≡ [] → Fit c rows → Fit c (with_default rows a)
  default_fits rows none fit = go (has_row a.id rows) a.defaults none
    where
      go : (has : Bool) (values : List Text) → cond (has || is_empty values) [] (given_default_fault a values) ≡ []
          → Fit c (cond has rows (walk.default_rows a.id (reading_by a) values rows))
      go true values none = fit
      go false [] none = fit
      go false (v ∷ values) none =
          let some : is_empty (v ∷ values) ≡ false = ne_eqb _ _ (λ e. omega (arith, e)) in
          let faults : given_default_fault a (v ∷ values) ≡ [] = rw some at none in
          values_added DefaultValue (v ∷ values) rows (no_first _ (values_fault a values) (no_second (request_kinds (action_of a)) _ faults)) fit

module _ (c : List Rule) (again : Bool) (plain : AllByRecursion (IsPlainIn c) c) where
  -- an argument that is found is one of them
  is_own : (p : Rule → Bool) (a : Rule) → find p c ≡ Some a → IsPlainIn c a
  is_own p a found = search (rules, find_each)

  settled_fits : (h : Held) → settle_fault c again h ≡ [] → Fit c h.rows → Fit c (settled c h).rows
  settled_fits h none fit = by_id h.pending none
    where
      with_rule : (p : Text × List Text) (o : Option Rule) → arg_by_id c p.0 ≡ o → option_map_or (λ a. use_fault again a p.1 h.rows) o [] ≡ []
          → Fit c (walk.used_by_id o p.1 h.rows)
      with_rule p None is none = fit
      with_rule p (Some a) is none = use_fits c a (is_own _ a is) again p.1 h.rows none fit

      by_id : (p : Option (Text × List Text)) → option_map_or (λ q. option_map_or (λ a. use_fault again a q.1 h.rows) (arg_by_id c q.0) []) p [] ≡ []
          → Fit c (settled_rows c p h.rows)
      by_id None none = fit
      by_id (Some p) none = with_rule p (arg_by_id c p.0) refl none

  reacted_fits : (a : Rule) (values : List Text) (h : Held) → IsPlainIn c a → react_fault c again a values h ≡ [] → Fit c h.rows → Fit c (reacted c a values h).rows
  reacted_fits a values h own none fit = search (rules, use_fits, settled_fits, no_first)

  option_fits : (a : Rule) (v : Option Text) (h : Held) → IsPlainIn c a → option_fault c again a v h ≡ [] → Fit c h.rows → Fit c (option_met c a v h).0.rows
  option_fits a None h own none fit = settled_fits h none fit
  option_fits a (Some v) h own none fit = reacted_fits a (v ∷ []) h own none fit

  long_fits : (o : Option Rule) (v : Option Text) (h : Held) → ((a : Rule) → o ≡ Some a → IsPlainIn c a) → long_fault c again o v h ≡ [] → Fit c h.rows
      → Fit c (long_met c o v h).0.rows
  long_fits None v h own none fit = fit
  long_fits (Some a) v h own none fit = takes (takes_values a) v none
    where
      takes : (t : Bool) (w : Option Text) → cond t (option_fault c again a w h) (cond (is_some w) (kind.TooManyValues ∷ []) (react_fault c again a [] h)) ≡ []
          → Fit c (cond t (option_met c a w h) (walk.flag_met c a w h)).0.rows
      takes true w none = option_fits a w h (own a refl) none fit
      takes false None none = reacted_fits a [] h (own a refl) none fit
      takes false (Some w) none = fit

  flags_fit : (k : ℕ) (flags : Text) (skip : ℕ) (so_far : Outcome) (h : Held) → flags_fault c again k flags skip h ≡ [] → Fit c h.rows
      → Fit c (bundle_met c k flags skip so_far h).0.rows
  unfolding flags_fault bundle_met
  flags_fit zero flags skip so_far h none fit = fit
  flags_fit (suc k) flags skip so_far h none fit = step (slice_get (chars flags) 0) skip none (λ f s o g. flags_fit k f s o g)
    where
      named : (rest : Text) (o : Option Rule) → ((a : Rule) → o ≡ Some a → IsPlainIn c a) → short_fault c again o rest h (flags_fault c again k rest 0) ≡ []
          → ((g : Held) → flags_fault c again k rest 0 g ≡ [] → Fit c g.rows → Fit c (bundle_met c k rest 0 walk.done g).0.rows)
          → Fit c (short_met c o rest h (bundle_met c k rest 0 walk.done)).0.rows
      named rest None own none more = fit
      named rest (Some a) own none more = takes (takes_values a) none
        where
          takes : (t : Bool) → cond t (option_fault c again a (attached_value rest) h) (or_else (react_fault c again a [] h) (flags_fault c again k rest 0 (reacted c a [] h))) ≡ []
              → Fit c (cond t (option_met c a (attached_value rest) h) (bundle_met c k rest 0 walk.done (reacted c a [] h))).0.rows
          takes true none = option_fits a (attached_value rest) h (own a refl) none fit
          takes false none = more (reacted c a [] h) (no_second (react_fault c again a [] h) _ none)
              (reacted_fits a [] h (own a refl) (no_first _ (flags_fault c again k rest 0 (reacted c a [] h)) none) fit)

      step : (x : Option ℕ) (n : ℕ) → bundle_step_fault c again x flags n h (flags_fault c again k) ≡ []
          → ((f : Text) (s : ℕ) (o : Outcome) (g : Held) → flags_fault c again k f s g ≡ [] → Fit c g.rows → Fit c (bundle_met c k f s o g).0.rows)
          → Fit c (walk.bundle_step c x flags n so_far h (bundle_met c k)).0.rows
      step None n none more = fit
      step (Some x) zero none more = named _ (arg_by_short c x) (λ a is. is_own _ a is) none (more _ 0 walk.done)
      step (Some x) (suc n) none more = more _ n so_far h none fit

-- ---- the walk over the words
-- a step is not to the subcommand `help`, where that is clap's
abbrev IsNoHelp : Step → Bool → Type 0
IsNoHelp (walk.subcommand name) false = name ≢ codes "help"
IsNoHelp step disabled = ⊤

module _ (s : Shape) (names : Names) (plain : AllByRecursion (IsPlainIn s.rules) s.rules) where
  -- what a word leaves
  abbrev Leaves : Held × Step → Type 0
  Leaves met = Fit s.rules met.0.rows × IsNoHelp met.1 s.disable_help_subcommand

  plain_leaves : (waiting : Waiting) (word : Text) (h : Held) → Fit s.rules h.rows → Leaves (plain_word s.rules waiting word h)
  plain_leaves (walk.option id) word h fit = go (arg_by_id s.rules id)
    where
      go : (o : Option Rule) → Leaves ((option_word o id word h).0, walk.next (option_word o id word h).1)
      go None = (fit, tt)
      go (Some a) = (fit, tt)
  plain_leaves waiting word h fit = (fit, tt)

  after_leaves : (waiting : Waiting) (word : Text) (h : Held) (o : Outcome) → Fit s.rules h.rows → Leaves (after_flag s.rules waiting word h o)
  after_leaves waiting word h walk.done fit = (fit, tt)
  after_leaves waiting word h (walk.waits id) fit = (fit, tt)
  after_leaves waiting word h outcome fit = plain_leaves waiting word h fit

  flag_leaves : (waiting : Waiting) (word : Text) (o : Option (Text × Option Text)) (h : Held) → flag_word_fault s.rules s.args_override_self o word h ≡ []
      → Fit s.rules h.rows → Leaves (walk.long_or_other s.rules waiting word o h)
  flag_leaves waiting word (Some p) h none fit = after_leaves waiting word _ (long_met s.rules (arg_by_long s.rules p.0) p.1 h).1
      (long_fits s.rules s.args_override_self plain (arg_by_long s.rules p.0) p.1 h (λ a is. is_own s.rules s.args_override_self plain _ a is) none fit)
  flag_leaves waiting word None h none fit = short (short_of word) none
    where
      short : (o : Option Text) → option_map_or (λ flags. bundle_fault s.rules s.args_override_self flags h) o [] ≡ []
          → Leaves (walk.short_or_plain s.rules waiting word o h)
      short None none = plain_leaves waiting word h fit
      short (Some flags) none = after_leaves waiting word _ (walk.bundle s.rules flags h).1
          (flags_fit s.rules s.args_override_self plain (length flags) flags h.skip walk.plain (record h { skip = 0 }) none fit)

  word_leaves : (is_trailing : Bool) (waiting : Waiting) (position : ℕ) (word : Text) (h : Held) → word_fault s names is_trailing waiting word h ≡ []
      → Fit s.rules h.rows → Leaves (word_met s.rules names is_trailing waiting position word h)
  word_leaves true waiting position word h none fit = (fit, tt)
  word_leaves false waiting position word h none fit = other (subcommand_met names waiting word) none
    where
      dashes : (t : Bool) → cond t [] (flag_word_fault s.rules s.args_override_self (long_of word) word h) ≡ []
          → Leaves (cond t (h, walk.trailing position) (walk.long_or_other s.rules waiting word (long_of word) h))
      dashes true none = (fit, tt)
      dashes false none = flag_leaves waiting word (long_of word) h none fit

      help : (disabled : Bool) (name : Text) → cond (bytes_eq name (codes "help") && not disabled) (kind.DisplayHelp ∷ kind.InvalidSubcommand ∷ []) [] ≡ []
          → IsNoHelp (walk.subcommand name) disabled
      help true name none = tt
      help false name none = λ is. let same : bytes_eq name (codes "help") ≡ true = (bytes_eq-Decides name (codes "help")).1 is in let bad = rw same at none in cc

      other : (o : Option Text) → other_fault s o word h ≡ [] → Leaves (walk.subcommand_or_other s.rules o waiting position word h)
      other None none = dashes (bytes_eq word (45 ∷ 45 ∷ [])) none
      other (Some name) none = (fit, help s.disable_help_subcommand name none)

  -- where the walk stands
  abbrev Stands : Walk → Type 0
  Stands w = Fit s.rules w.held.rows × IfSome w.stopped (λ p. IsNoHelp (walk.subcommand p.0) s.disable_help_subcommand)

  step_stands : (word : Text) (w : Walk) (h : Held) (step : Step) → step_fault s w.position h step ≡ [] → Leaves (h, step) → Stands w → Stands (after_step s.rules word w h step)
  step_stands word w h (walk.subcommand name) none leaves before = leaves
  step_stands word w h walk.value none leaves before = go (arg_by_index s.rules w.position) none
    where
      placed : (a : Rule) (t : Bool) → cond t [] (settle_fault s.rules s.args_override_self h) ≡ [] → Fit s.rules (cond t h (settled s.rules h)).rows
      placed a true none = leaves.0
      placed a false none = settled_fits s.rules s.args_override_self plain h none leaves.0

      go : (o : Option Rule) → option_map_or (λ a. positional_fault s.rules s.args_override_self a h) o (stray_fault s) ≡ [] → Stands (to_positional s.rules o word w h)
      go None none = (leaves.0, before.1)
      go (Some a) none = (placed a (walk.is_pending a h.pending && takes_several a) none, tt)
  step_stands word w h step none leaves before = (leaves.0, before.1)

  turn_stands : (w : Walk) (word : Text) → turn_fault s names w word ≡ [] → Stands w → Stands (walked s.rules names w word)
  unfolding walked
  turn_stands w word none before = go w.stopped refl none
    where
      met : Held × Step
      met = word_met s.rules names w.is_trailing w.waiting w.position word w.held

      go : (o : Option (Text × List Text)) → w.stopped ≡ o
          → cond (is_some o) [] (or_else (word_fault s names w.is_trailing w.waiting word w.held) (step_fault s w.position met.0 met.1)) ≡ []
          → Stands (walk.walked_from s.rules names o w word)
      go (Some p) is none = (before.0, rw is at before.1)
      go None is none = step_stands word w met.0 met.1 (no_second (word_fault s names w.is_trailing w.waiting word w.held) _ none)
          (word_leaves w.is_trailing w.waiting w.position word w.held (no_first _ (step_fault s w.position met.0 met.1) none) before.0) before

  walk_stands : (w : Walk) (words : List Text) → walk_fault s names w words ≡ [] → Stands w → Stands (fold (walked s.rules names) w words)
  unfolding walk_fault
  walk_stands w [] none before = before
  walk_stands w (word ∷ rest) none before =
      walk_stands (walked s.rules names w word) rest (no_second (turn_fault s names w word) _ none)
      (turn_stands w word (no_first _ (walk_fault s names (walked s.rules names w word) rest) none) before)

defaults_fit : (c rules : List Rule) (rows : List Row) → AllByRecursion (IsPlainIn c) rules → defaults_fault rows rules ≡ [] → Fit c rows → Fit c (fold with_default rows rules)
unfolding defaults_fault
defaults_fit c [] rows plain none fit = fit
defaults_fit c (a ∷ rest) rows plain none fit = defaults_fit c rest (with_default rows a) plain.1 (no_second (default_fault rows a) _ none)
    (default_fits c a plain.0 rows (no_first _ (defaults_fault (with_default rows a) rest) none) fit)

-- ---- what is given
accepted : (ignore_case : Bool) (parser : ValueParser) (v : Text) → value_kinds ignore_case parser v ≡ [] → Accepts ignore_case parser v
accepted ignore_case parser v none = accepts-Accepts ignore_case parser v (go (accepts ignore_case parser v) none)
  where
    go : (t : Bool) → cond t [] (refused_kind parser ∷ []) ≡ [] → t ≡ true
    go true none = refl
    go false none = cc

none_holds : (required : Bool) (parser : Option ValueParser) → required ≡ false → HoldsWord required parser None
none_holds true parser optional = cc
none_holds false (Some (Unsigned least most)) optional = tt
none_holds false parser optional = tt

value_holds : (required ignore_case : Bool) (parser : Option ValueParser) (v : Text) → value_kinds ignore_case (parser_of_value parser) v ≡ [] → HoldsWord required parser (Some v)
value_holds true ignore_case (Some String) v passes = tt
value_holds true ignore_case (Some (Unsigned least most)) v passes = search (rules, accepted)
value_holds false ignore_case (Some (Unsigned least most)) v passes = search (rules, accepted)
value_holds required ignore_case parser v passes = tt

module _ (c : List Rule) (rows : List Row) (fit : Fit c rows) where
  word_holds : (a : Rule) → IsPlainIn c a → (a.required && not (is_given a.id rows)) ≡ false → HoldsWord a.required a.parser (walk.first_of a.id rows)
  word_holds a plain given = go (find (λ r. bytes_eq r.id a.id) rows) refl given
    where
      optional : (required : Bool) → (required && true) ≡ false → required ≡ false
      optional false is = refl
      optional true is = cc

      first : (values : List Text) → FirstFits a values → HoldsWord a.required a.parser (slice_get values 0)
      first [] fits = none_holds a.required a.parser fits
      first (v ∷ values) fits = value_holds a.required a.ignore_case a.parser v fits

      go : (o : Option Row) → find (λ r. bytes_eq r.id a.id) rows ≡ o → (a.required && not (option_map_or (λ r. explicit_source r.source) o false)) ≡ false
          → HoldsWord a.required a.parser (option_and_then (λ r. slice_get r.values 0) o)
      go None found given = none_holds a.required a.parser (optional a.required given)
      go (Some r) found given =
          let at = find_each (RowFits c) (λ x. bytes_eq x.id a.id) rows r fit found in
          first r.values (of_own c a plain r ((bytes_eq-Decides r.id a.id).0 at.1) at.0)

  words_hold : (rules : List Rule) → AllByRecursion (IsPlainIn c) rules → list_any (λ a. a.required && not (is_given a.id rows)) rules ≡ false → HoldsWords rows rules
  words_hold [] plain none = tt
  words_hold (a ∷ rest) plain none = (word_holds a plain.0 (or_parts _ _ none).0, words_hold rest plain.1 (or_parts _ _ none).1)

-- the last checks found nothing
none_wanted : (help wants missing : Bool) → check_kinds help wants missing ≡ [] → (wants ≡ false) × (missing ≡ false)
none_wanted false false false none = (refl, refl)
none_wanted help wants missing none = cc

-- one level of the parse: what is required is given
level_holds : (s : Shape) (words : List Text) → AllByRecursion (IsPlainIn s.rules) s.rules → level_fault s [] nothing_held words false [] ≡ []
    → HoldsWords (rows_after s.rules [] words) s.rules
level_holds s words plain none =
    let end = (walk.walk s.rules [] nothing_held words).held in
    let defaults = (settled s.rules end).rows in
    let again = s.args_override_self in
    let check = check_fault s (finished s.rules end) false in
    let rest = no_second (walk_fault s [] (walk_from nothing_held) words) _ none in
    let later = no_second (settle_fault s.rules again end) _ rest in
    let walk_fit = (walk_stands s [] plain (walk_from nothing_held) words
    (no_first _ (or_else [] (or_else (settle_fault s.rules again end) (or_else (defaults_fault defaults s.rules) check))) none) (tt, tt)).0 in
    let settled_fit = settled_fits s.rules again plain end (no_first _ (or_else (defaults_fault defaults s.rules) check) rest) walk_fit in
    let fit = defaults_fit s.rules s.rules defaults plain (no_first _ check later) settled_fit in
    words_hold s.rules (finished s.rules end) fit s.rules plain
    (missing s.subcommand_negates_reqs _ (none_wanted _ s.subcommand_required _ (no_second (defaults_fault defaults s.rules) _ later)).1)
  where
    missing : (negates some : Bool) → (not (negates && false) && some) ≡ false → some ≡ false
    missing true some is = is
    missing false some is = is

same_name : (name other : Text) (aliases : List Text) → is_empty aliases ≡ true → (bytes_eq name other || list_any (λ alias. bytes_eq alias other) aliases) ≡ true → name ≡ other
same_name name other [] alone answers = (bytes_eq-Decides name other).0 (go (bytes_eq name other) answers)
  where
    go : (t : Bool) → (t || false) ≡ true → t ≡ true
    go true is = refl
    go false is = is
same_name name other (alias ∷ aliases) alone answers = absurd (omega (arith, eqb-true _ _ alone))

-- where the program asks for a subcommand, words without a fault name one that is not clap's `help`, and each word that it requires is given
pub command_holds : (app : App) (words : List Text) → (built app).top.subcommand_required ≡ true → (built app).top.disable_help_subcommand ≡ false
    → is_plain (built app).top ≡ true → are_plain (built app).subs ≡ true → fault_of app words ≡ []
    → IsSomeAnd (subcommand_of app words) (λ p. HoldsWordsAmong (built app).subs p.0 p.1 × (p.0 ≢ codes "help"))
command_holds app words required asked above plain none = go end.stopped stands.1 (no_first _ _ rest) checks
  where
    top : Shape
    top = (built app).top

    end : Walk
    end = walk.walk top.rules (names_of (built app)) nothing_held (argument_words app words)

    has : Bool
    has = is_some (entered (built app) end.stopped)

    rest : or_else (entered_fault (built app) end.stopped) (or_else (settle_fault top.rules top.args_override_self end.held)
        (or_else (defaults_fault (settled top.rules end.held).rows top.rules) (check_fault top (finished top.rules end.held) has))) ≡ []
    rest = no_second (walk_fault top (names_of (built app)) (walk_from nothing_held) (argument_words app words)) _ none

    checks : check_fault top (finished top.rules end.held) has ≡ []
    checks = no_second (defaults_fault (settled top.rules end.held).rows top.rules) _
        (no_second (settle_fault top.rules top.args_override_self end.held) _ (no_second (entered_fault (built app) end.stopped) _ rest))

    top_plain : AllByRecursion (IsPlainIn top.rules) top.rules
    top_plain = each_alone (λ a. a.id) is_plain_rule top.rules (and_parts (is_empty top.aliases) _ above).1

    stands : Stands top (names_of (built app)) top_plain end
    stands = walk_stands top (names_of (built app)) top_plain (walk_from nothing_held) (argument_words app words) (no_first _ _ none) (tt, tt)

    go : (o : Option (Text × List Text)) → IfSome o (λ p. IsNoHelp (walk.subcommand p.0) top.disable_help_subcommand) → entered_fault (built app) o ≡ []
        → check_fault top (finished top.rules end.held) (is_some (entered (built app) o)) ≡ []
        → IsSomeAnd (entered (built app) o) (λ p. HoldsWordsAmong (built app).subs p.0 p.1 × (p.0 ≢ codes "help"))
    go None no_help below last = let bad : top.subcommand_required ≡ false = (none_wanted _ _ _ last).0 in cc
    go (Some p) no_help below last = found (find (λ s. walk.answers_to p.0 (label_of s)) (built app).subs) refl below last
      where
        found : (o : Option Shape) → find (λ s. walk.answers_to p.0 (label_of s)) (built app).subs ≡ o
            → option_map_or (λ s. level_fault s [] nothing_held p.1 false []) o [] ≡ []
            → check_fault top (finished top.rules end.held) (is_some (option_map (λ s. rows_at s p.1) o)) ≡ []
            → IsSomeAnd (option_map (λ s. rows_at s p.1) o) (λ q. HoldsWordsAmong (built app).subs q.0 q.1 × (q.0 ≢ codes "help"))
        found None is below last = let bad : top.subcommand_required ≡ false = (none_wanted _ _ _ last).0 in cc
        found (Some s) is below last =
            let at = find_each (IsAlone (λ s. s.name) is_plain (built app).subs) _ (built app).subs s (each_alone (λ s. s.name) is_plain (built app).subs plain) is in
            let parts = and_parts (is_empty s.aliases) _ at.0.0 in
            let other : p.0 ≢ codes "help" = rw asked at no_help in (
              rw at.0.1 (level_holds s p.1 (each_alone (λ a. a.id) is_plain_rule s.rules parts.1) below),
              λ help. other (sym (same_name s.name p.0 s.aliases parts.0 at.1) ∙ help),
            )
