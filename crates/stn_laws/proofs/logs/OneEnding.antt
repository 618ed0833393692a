-- A command has one ending, but for lacks.
use Rattle.std.{proofs.{Common.{rules, ◌≡◌, inl, inr, ℕ, Bool, true, false, List, length, Option, Some, None, is_some, option_map, Result, Ok, Err, refl, sym, ap, subst, ◌∙◌, arith, length-append}, lemmas.{Bool.false≢true, Option.same_Some}}, specs.{Borrow.Bor, Prelude.{⊤}}}
use Rattle.stn_device.proofs.Known.{not_err}
use Rattle.stn_net.specs.{Difference.Difference, Schedule.HasSchedule}
use Rattle.stn_lift.specs.PlanSource.{PlanSource, events_of}
use Rattle.stn_site.specs.{Held.Held, Change.change_refusal, Bounds.all_bounds, declared.{faults.ReplicaFault.ReplicaFault, change.Change.{Change as ChangeAsked}, own.OwnedSteps.OwnedSteps}}
use Rattle.stn_laws.proofs.{One.IsOne, logs.Unsaved.{source_same, names_same, update_same, saved_lacks}}
use Rattle.stn_store.specs.{Log.{Log, log_held, IsLog, Failures.load_failure}, declared.log.fault.LoadFault.LoadFault, Store.{Entry, Holds, IsThere, Spells, Means, Opens, IsUnopened}, Steps.{Entries, FindsFree, FindsText, LoadsLog, SavesNew}, Merging.IsMergeRefusal}
use Rattle.stn_command.specs.{Named.IsRefusedBy, Words.no_such_word, Query.{Query, IsQueryRefusal}}
use Rattle.stn_guard.specs.{Adding.{IsGuardRefusal, no_step, conflict, guarded, owner_by}, Making.IsGuardOf}
use Rattle.stn_loosen.specs.{Slack.Slack, Asked.{IsLoosenedRefusal, IsRobustRefusal, WithBase, IsLooseningRefusal}, Loosened.{AreFewLoosened, AreTooMany}, Robust.{AreRobust, AreFewRobust, AreTooManyRobust}}
use Rattle.stn_refusal.specs.declared.failure.{Failure.Failure, Fault.Fault}
use Rattle.stn_effects.{specs.Effects.{Effect, Then, Finds, Settles, EndAlike}, proofs.Endings.{ChangesNothing, EndSo, makes_same, reads_same, then_alike, then_done_alike, gives_alike, gives_lacks, lacks_alike, finds_alike, makes_alike, reads_alike, as_alike}}
use Rattle.stn_records.specs.Content.{Content}
use Rattle.stn_line.specs.declared.words.{SiteLog.SiteLog, NameWords.NameWords, NewLog.TheVariants.{Bare, Init, Loosen}, Line.{Line, TheVariants.{Make, Change, Ask, Explain}}}
use Rattle.stn_asked.specs.Words.{Update, change, merge, guard}
use Rattle.stn_logs.specs.Commands.{SavesUpdated, SavesMade, MakesLog, FindsSource, IsUnguarded, Updates, UpdatesLog, own_plan_text, FindsNames, SaysAsked, AnswersAsked, IsExplainRefusal, DoesLine}

one_error : {X E : Type 0} (f g : E) → (let none : Result X E = Err f in none) ≡ Err g → f ≡ g
one_error f g e = cc

one_base : (source : PlanSource) (Goes : Option Failure → Type 0) → IsOne Goes → IsOne (WithBase source Goes)
one_base source Goes one cause other p q = search (rules)

-- what a site holds, whatever its work
abbrev idle : Held → Held
idle held = record { site = held.site; source = held.source; state = held.state; steps = 0 }

-- ---- what stands in a store of which all is known
module _ (entries : List Entry) (name : List ℕ) where
  none_there : (bytes : List ℕ) → Holds (Some entries) name None → Holds (Some entries) name (Some bytes) → ⊥
  none_there bytes p q = false≢true (ap is_some (sym p ∙ q))

  there_once : IsOne (IsThere (Some entries) name)
  there_once one other p q = cc

  one_spelled : IsOne (Spells (Some entries) name)
  one_spelled text other p q = cc

  module _ (logs : (bytes : List ℕ) → IsOne (IsLog bytes)) where
    one_meaning : IsOne (Means (Some entries) name)
    one_meaning one other p q =
        logs q.bytes one other (subst (λ (bytes : List ℕ). IsLog bytes one) (same_Some p.bytes q.bytes (sym p.there ∙ q.there)) p.meant) q.meant

    one_unopened : IsOne (IsUnopened (Some entries) name)
    one_unopened failure other (inl p) (inl q) = p.1 ∙ sym q.1
    one_unopened failure other (inl p) (inr q) = absurd (none_there q.1.bytes p.0 q.1.there)
    one_unopened failure other (inr p) (inl q) = absurd (none_there p.1.bytes q.0 p.1.there)
    one_unopened failure other (inr p) (inr q) =
        p.2 ∙ (ap load_failure (one_error p.0 q.0 (one_meaning (Err p.0) (Err q.0) p.1 q.1)) ∙ sym q.2)

    not_both : (site : ℕ) (failure : Failure) (held : Held) → IsUnopened (Some entries) name failure → Opens (Some entries) name site held → ⊥
    not_both site failure held (inl p) q = none_there q.said.bytes p.0 q.said.there
    not_both site failure held (inr p) q = not_err (log_held held) p.0 (one_meaning (Ok (log_held held)) (Err p.0) q.said p.1)

    abbrev idle_of : ℕ → Result Log LoadFault → Held → Held
    idle_of site (Ok log) other = record { site = site; source = log.source; state = log.state; steps = 0 }
    idle_of site (Err fault) other = other

    one_opened : (site : ℕ) (held other : Held) → Opens (Some entries) name site held → Opens (Some entries) name site other → idle held ≡ idle other
    one_opened site held other p q =
        ap (λ (at : ℕ). record { site = at; source = held.source; state = held.state; steps = 0 }) (p.own ∙ sym q.own)
        ∙ ap (λ (meaning : Result Log LoadFault). idle_of other.site meaning other) (one_meaning (Ok (log_held held)) (Ok (log_held other)) p.said q.said)

-- ---- what is asked of a log
one_merge : (ours theirs : Held) → IsOne (IsMergeRefusal ours theirs)
one_merge ours theirs cause other p q = search rules

one_explained : (word : Option (List ℕ)) → IsOne (IsExplainRefusal word)
one_explained word cause other p q = search rules

change_at_rest : (held : Held) (asked : ChangeAsked) → change_refusal held asked ≡ change_refusal (idle held) asked
change_at_rest held asked = cc

refused_at_rest : (plan : Option (List ℕ)) (asked : Query) (held : Held) (cause : Option Failure) → IsRefusedBy plan asked held cause → IsRefusedBy plan asked (idle held) cause
refused_at_rest plan asked held cause p = search (rules)

-- what another law says of guards
abbrev OneGuard : Type 0
OneGuard = (owner : ℕ → ℕ) (events : ℕ) (bounds one other : List Difference) → HasSchedule bounds → IsGuardOf owner events bounds one → IsGuardOf owner events bounds other → one ≡ other

-- at most one refusal of a guard
module _ (guards : OneGuard)
    (owned : List OwnedSteps) (held : Held) where
  one_guarding : IsOne (IsGuardRefusal owned held)
  one_guarding refusal other (no_step absent p) (no_step _ q) = p ∙ sym q
  one_guarding refusal other (no_step absent p) (conflict there _ _) = absurd (false≢true (sym absent ∙ there))
  one_guarding refusal other (no_step absent p) (guarded there _ _ _ _) = absurd (false≢true (sym absent ∙ there))
  one_guarding refusal other (conflict there _ _) (no_step absent q) = absurd (false≢true (sym absent ∙ there))
  one_guarding refusal other (conflict _ none p) (conflict _ _ q) = p ∙ sym q
  one_guarding refusal other (conflict _ none p) (guarded _ possible _ _ _) = absurd (none possible)
  one_guarding refusal other (guarded there _ _ _ _) (no_step absent q) = absurd (false≢true (sym absent ∙ there))
  one_guarding refusal other (guarded _ possible _ _ _) (conflict _ none q) = absurd (none possible)
  one_guarding refusal other (guarded _ possible one is_one p) (guarded _ _ last is_last q) =
      cc (guards (owner_by held.site owned) (events_of held.source) (all_bounds held.source held.state) one last possible is_one is_last)

  one_unguarded : IsOne (IsUnguarded owned held)
  one_unguarded cause other p q = cc (one_guarding p.0 q.0 p.1 q.1)

guard_at_rest : (owned : List OwnedSteps) (held : Held) (cause : Option Failure) → IsUnguarded owned held cause → IsUnguarded owned (idle held) cause
guard_at_rest owned held cause p = (p.0, at_rest p.0 p.1, p.2)
  where
    at_rest : (refusal : Option ReplicaFault) → IsGuardRefusal owned held refusal → IsGuardRefusal owned (idle held) refusal
    at_rest refusal (no_step absent is) = no_step absent is
    at_rest refusal (conflict there none is) = conflict there none is
    at_rest refusal (guarded there possible one is_one is) = guarded there possible one is_one is

module _ (logs : (bytes : List ℕ) → IsOne (IsLog bytes))
    (guards : OneGuard)
    (queries : (asked : Query) (held : Held) → IsOne (IsQueryRefusal asked held))
    (robusts : (source : PlanSource) (slack : Slack) → IsOne (AreRobust source slack))
    (many : (source : PlanSource) (slack : Slack) → AreTooMany source slack → (records : List Difference) → ¬ AreFewLoosened source slack records) where
  -- ---- a query by names of steps
  one_refused : (plan : Option (List ℕ)) (asked : Query) (held : Held) → IsOne (IsRefusedBy plan asked held)
  one_refused plan asked held cause other p q = search (rules)

  -- ---- a loosened plan, and a robust one
  one_loosened : (source : PlanSource) (slack : Slack) → IsOne (IsLoosenedRefusal source slack)
  one_loosened source slack cause other p q = search rules

  -- a robust plan has the records of the loosened plan, so these are no more
  few_loosened : (source : PlanSource) (slack : Slack) → AreTooMany source slack → (records : List Difference) → ¬ AreFewRobust source slack records
  few_loosened source slack more records few =
      many source slack more few.0.loosened
      (few.0.are_loosened, omega (arith, few.1, ap length few.0.whole, length-append few.0.loosened few.0.moved))

  not_few : (source : PlanSource) (slack : Slack) → AreTooManyRobust source slack → (records : List Difference) → ¬ AreFewRobust source slack records
  not_few source slack more records few = omega (arith, few.1, ap length (robusts source slack records more.records few.0 more.are_robust))

  one_robust : (source : PlanSource) (slack : Slack) → IsOne (IsRobustRefusal source slack)
  one_robust source slack cause other (inl p) q = search (rules, many source slack p.0, few_loosened source slack p.0)
  one_robust source slack cause other (inr (inl p)) q =
      let few : ¬ AreTooMany source slack = λ more. many source slack more p.0.0 p.0.1 in
      search (rules, few, p.1)
  one_robust source slack cause other (inr (inr (inl p))) q = search (rules, not_few source slack p.1)
  one_robust source slack cause other (inr (inr (inr p))) q =
      let few : ¬ AreTooMany source slack = λ more. few_loosened source slack more p.1.0 p.1.1 in
      let few_robust : ¬ AreTooManyRobust source slack = λ more. not_few source slack more p.1.0 p.1.1 in
      search (rules, few, few_robust)

  one_loosening : (robust : Bool) (source : PlanSource) (slack : Slack) → IsOne (IsLooseningRefusal robust source slack)
  one_loosening false source slack = search (rules, one_base, one_loosened)
  one_loosening true source slack = search (rules, one_base, one_robust)

  -- ---- steps over entries that are known
  module _ (Fails : Fault → Type 0) (entries : List Entry) where
    abbrev known : Entries
    known = Some entries

    -- two runs end alike, and with one value
    abbrev GivesOne : {X : Type 0} → Effect Entries X → Type 0
    GivesOne {X} Does = EndSo Fails (λ (one other : X). one ≡ other) known Does Does

    -- two effects end alike, whatever they give
    abbrev EndAs : {X Y : Type 0} → Effect Entries X → Effect Entries Y → Type 0
    EndAs {X} {Y} Does Other = EndSo Fails (λ (_ : X) (_ : Y). ⊤) known Does Other

    -- one effect, and then another by what the first gave
    both_alike : {X Y : Type 0} (Ends : Y → Y → Type 0) (First : Effect Entries X) (Next : X → Effect Entries Y) → ChangesNothing First
        → EndSo Fails (λ one other. one ≡ other) known First First → ((value : X) → EndSo Fails Ends known (Next value) (Next value))
        → EndSo Fails Ends known (Then First Next) (Then First Next)
    both_alike {X} Ends First Next same first next = then_alike Fails First Next First Next (λ one other. one ≡ other) Ends known same same first
        (λ value other alike. subst (λ (one : X). EndSo Fails Ends known (Next value) (Next one)) alike (next value))

    -- what is found is there, or prevents that, but not both
    finds_once : {X : Type 0} (Is : Entries → X → Type 0) (Prevents : Entries → Failure → Type 0) (Same : X → X → Type 0)
        → ((value other : X) → Is known value → Is known other → Same value other) → ((value : X) (failure : Failure) → Is known value → Prevents known failure → ⊥) → IsOne (Prevents known)
        → EndSo Fails Same known (Finds Fails Is Prevents) (Finds Fails Is Prevents)
    finds_once {X} Is Prevents Same same apart one = search (rules, finds_alike)

    free_alike : (name : List ℕ) → GivesOne (FindsFree Fails name)
    free_alike name = search (rules, finds_once, false≢true, there_once)

    text_alike : (name : List ℕ) → GivesOne (FindsText Fails name)
    text_alike name = search (rules, finds_once, one_spelled, none_there)

    load_alike : (name : List ℕ) (site at : ℕ) → site ≡ at → EndSo Fails (λ held other. idle held ≡ idle other) known (LoadsLog Fails name site) (LoadsLog Fails name at)
    load_alike name site at same = subst (λ (one : ℕ). EndSo Fails (λ held other. idle held ≡ idle other) known (LoadsLog Fails name site) (LoadsLog Fails name one)) same
        (finds_once (λ all held. Opens all name site held) (λ all failure. IsUnopened all name failure) (λ held other. idle held ≡ idle other)
        (one_opened entries name logs site) (λ held failure opened not. not_both entries name logs site failure held not opened) (one_unopened entries name logs))

    new_alike : (name : List ℕ) (log other : Log) → EndAs (SavesNew Fails name log) (SavesNew Fails name other)
    new_alike name log other new last p q a b = search (rules, false≢true, there_once)

    made_alike : (name : List ℕ) (source from : PlanSource) (state content : Content) → EndAs (SavesMade Fails name source state) (SavesMade Fails name from content)
    made_alike name source from state content = search (rules, then_done_alike, new_alike, gives_lacks)

    log_alike : (name : List ℕ) (source : PlanSource) → EndAs (MakesLog Fails name source) (MakesLog Fails name source)
    log_alike name source = search (rules, both_alike, reads_same, reads_alike, made_alike)

    source_alike : (domain plan : List ℕ) → GivesOne (FindsSource Fails domain plan)
    source_alike domain plan = search (rules, both_alike, text_alike, gives_alike)

    -- the names of steps are found once
    names_alike : (plan : Option (List ℕ)) (own : Bool) (source : PlanSource)
        → GivesOne (FindsNames Fails plan own source)
    names_alike None false source = reads_alike Fails (Ok None) known
    names_alike None true source = reads_alike Fails (own_plan_text source) known
    names_alike (Some plan) false source = search (rules, both_alike, reads_same, reads_alike, text_alike, gives_alike)
    names_alike (Some plan) true source = reads_alike Fails (Err no_such_word) known

    -- ---- what is asked of a log, by two copies that say the same
    module _ (held other : Held) (same : idle held ≡ idle other) where
      at_rest_alike : (IsCause : Held → Option Failure → Type 0) → ((one : Held) (cause : Option Failure) → IsCause one cause → IsCause (idle one) cause)
          → ((one : Held) → IsOne (IsCause one)) → (cause reason : Option Failure) → IsCause held cause → IsCause other reason → cause ≡ reason
      at_rest_alike IsCause rests one cause reason p q = search rules

      update_alike : (asked : Update) → EndAs (Updates Fails asked held) (Updates Fails asked other)
      update_alike (change asked) = search (rules, makes_alike, at_rest_alike, change_at_rest)
      update_alike (merge name) = then_alike Fails _ _ _ _ (λ one last. idle one ≡ idle last) (λ _ _. ⊤) known
          (search rules) (search rules) (load_alike name held.site other.site (ap (λ (one : Held). one.site) same))
          (λ theirs copy alike. makes_alike Fails _ _ (IsMergeRefusal held theirs) (IsMergeRefusal other copy) known (λ cause reason p q. one_merge (idle other) (idle copy) cause reason
          (subst (λ (one : Held). IsMergeRefusal one (idle copy) cause) same (subst (λ (one : Held). IsMergeRefusal (idle held) one cause) alike p)) q))
      update_alike (guard owned) = makes_alike Fails _ _ (IsUnguarded owned held) (IsUnguarded owned other) known (at_rest_alike (IsUnguarded owned) (guard_at_rest owned) (one_unguarded guards owned))

      says_alike : (asked : Query) (names : NameWords) → EndAs (SaysAsked Fails asked names held) (SaysAsked Fails asked names other)
      says_alike asked names =
          let file : Option (List ℕ) = option_map (λ (w : Bor (List ℕ)). w.now) names.plan in
          then_alike Fails _ _ _ _ (λ one last. one ≡ last) (λ _ _. ⊤) known (names_same Fails file names.own held.source) (names_same Fails file names.own other.source)
          (subst (λ (one : Held). EndSo Fails (λ one last. one ≡ last) known (FindsNames Fails file names.own held.source) (FindsNames Fails file names.own one.source)) same
          (names_alike file names.own held.source))
          (λ plan last alike. makes_alike Fails _ _ (IsRefusedBy plan asked held) (IsRefusedBy last asked other) known (λ cause reason p q. at_rest_alike (IsRefusedBy plan asked) (refused_at_rest plan asked) (one_refused plan asked) cause reason p
          (subst (λ (one : Option (List ℕ)). IsRefusedBy one asked other reason) (sym alike) q)))

    -- ---- a command
    updating_alike : (log : SiteLog) (asked : Update) → EndAs (UpdatesLog Fails log asked) (UpdatesLog Fails log asked)
    updating_alike log asked = then_alike Fails _ _ _ _ (λ held other. idle held ≡ idle other) (λ _ _. ⊤) known (search rules) (search rules)
        (load_alike log.name.now log.site log.site refl)
        (λ held other same. then_alike Fails _ _ _ _ (λ _ _. ⊤) (λ _ _. ⊤) known (update_same Fails asked held) (update_same Fails asked other) (update_alike held other same asked)
        (λ made last _. lacks_alike Fails known (SavesUpdated Fails log.name.now made) (SavesUpdated Fails log.name.now last)
        (saved_lacks Fails log.name.now made) (saved_lacks Fails log.name.now last)))

    answers_alike : (log : SiteLog) (asked : Query) (names : NameWords) → EndAs (AnswersAsked Fails log asked names) (AnswersAsked Fails log asked names)
    answers_alike log asked names = then_alike Fails _ _ _ _ (λ held other. idle held ≡ idle other) (λ _ _. ⊤) known (search rules) (search rules)
        (load_alike log.name.now log.site log.site refl) (λ held other same. says_alike held other same asked names)

    none_alike : EndAs (Settles {World = Entries} {X = List ℕ} Fails (Err no_such_word)) (Settles {World = Entries} {X = List ℕ} Fails (Err no_such_word))
    none_alike new last p q a b = search (rules, reads_alike)

    line_alike : (line : Line) → EndAs (DoesLine Fails line) (DoesLine Fails line)
    line_alike (Make log (Bare steps)) = search (rules, both_alike, free_alike, log_alike)
    line_alike (Make log (Init domain plan)) = search (rules, both_alike, free_alike, source_same, source_alike, log_alike)
    line_alike (Make log (Loosen domain plan early late robust)) =
        search (rules, both_alike, reads_same, reads_alike, free_alike, source_same, source_alike, then_alike, makes_same, makes_alike, one_loosening, made_alike)
    line_alike (Change log words) = search (rules, both_alike, reads_same, reads_alike, updating_alike)
    line_alike (Ask log words names) = search (rules, both_alike, reads_same, reads_alike, answers_alike)
    line_alike (Explain word) = search (rules, makes_alike, one_explained)
    line_alike line = none_alike

  pub one_line : (Fails : Fault → Type 0) (entries : List Entry) (line : Line) (one other : Entries) (ended last : Result (List ℕ) Failure)
      → DoesLine Fails line (Some entries) one ended → DoesLine Fails line (Some entries) other last → EndAlike Fails ended last
  one_line Fails entries line one other ended last does did = as_alike Fails ended last (line_alike Fails entries line one other ended last does did)
