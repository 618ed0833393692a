-- What is saved says what a site holds.
use Rattle.std.{proofs.{Common.{rules, ◌≡◌, ℕ, ◌+◌, ◌≤◌, Bool, false, List, [], ◌∷◌, ◌++◌, length, Option, Some, None, Result, Ok, refl, sym, ap, subst, ◌∙◌, arith, append-nil, length-append}, lemmas.{List.take_all, Bool.le-ltb}}, specs.{Prelude.nat_lt, Bool.then_some, FinMap.{FinMap, entries-from_sorted}}}
use Rattle.stn_records.{specs.{Id.{SiteCounter, id_cmp}, declared.record.Record.Record, Maps.dispute, Content.{most_known, Content, replaced_ids, known_ids, known_count, known_in_either, no_content, dispute_contents, joined_contents, IsSound}}, proofs.Places.nothing_sorted}
use Rattle.std.specs.FinMap as fin
use Rattle.stn_device.specs.Bytes.{most_bytes}
use Rattle.stn_lift.specs.PlanSource.{PlanSource, events_of, base_of}
use Rattle.stn_site.{specs.{Bounds.RecordsName, Held.{Held, holding_state}, Refusals.take_refusal, declared.faults.ReplicaFault.{ReplicaFault, TheVariants.Full}}, proofs.Refused.agreed_take}
use Rattle.stn_wire.specs.Frame.{FrameContent, hello, records, body_of, spelling, IsFrame}
use Rattle.stn_store.specs.{Log.{Log, LogSoFar, log_held, so_far, log_text, opened, joined, taken, all_taken, IsLogAnswer, IsLog}, declared.log.{version.Version.TheVariants.New, fault.LoadFault.LoadFault}}

-- a log doesn't say by how much work it came
pub same_log : (one other : Held) → other.source ≡ one.source → other.state ≡ one.state → log_held other ≡ log_held one
same_log one other from state = cc

-- ---- a state is taken into one that holds nothing

no_entries : (X : Type 0) → (let m : FinMap id_cmp X = fin.empty in fin.entries m) ≡ []
no_entries X = ap fin.entries (sym (nothing_sorted X)) ∙ entries-from_sorted id_cmp [] tt

no_keys : (X : Type 0) → (let m : FinMap id_cmp X = fin.empty in fin.keys m) ≡ []
no_keys X = cc (no_entries X)

no_values : (X : Type 0) → (let m : FinMap id_cmp X = fin.empty in fin.values m) ≡ []
no_values X = cc (no_entries X)

none_replaced : replaced_ids no_content ≡ []
none_replaced = cc (no_values SiteCounter, no_keys (Unit {0}))

none_known : known_ids no_content ≡ []
none_known = λ i. no_keys Record i ++ none_replaced i

joined_alone : (state : Content) → joined_contents no_content state ≡ state
joined_alone state = simp no_entries

none_disputed : {X : Type 0} (same : X → X → Bool) (m : FinMap id_cmp X) → dispute same fin.empty m ≡ None
none_disputed {X} same m = search (rules, no_keys)

nothing_disputed : (state : Content) → dispute_contents no_content state ≡ None
nothing_disputed state = search (rules, none_disputed)

known_alone : (state : Content) → known_in_either no_content state ≡ known_count state
known_alone state = cc (none_known)

pub nothing_against : (log : Log) {state : Content} → log.state ≡ no_content → RecordsName (events_of log.source) state → IsSound state → take_refusal (holding_state log.source log.state) state ≡ None
nothing_against log {state} empty named sound =
    let agreed : dispute_contents log.state state ≡ None = cc (nothing_disputed state) in
    let few : known_in_either log.state state ≡ known_count state = cc (known_alone state) in
    agreed_take (holding_state log.source log.state) state named agreed
    ∙ ap (λ (b : Bool). then_some b Full) (le-ltb most_known (known_in_either log.state state) (omega (arith, few, sound.limited)))

-- ---- the two frames of a log

spelled_length : (frame : FrameContent) → length (spelling frame) ≡ 4 + length (body_of frame)
spelled_length frame = search rules

-- the source has a base
abbrev pub HasBase : PlanSource → Type 0
HasBase source = base_of source ≡ Ok source

pub saved_log : {log : Log} → IsFrame (hello log.source) → IsFrame (records log.state) → HasBase log.source → RecordsName (events_of log.source) log.state → IsSound log.state
    → IsLog (log_text log) (Ok log)
saved_log {log} first second based named sound =
    let h = hello log.source in
    let r = records log.state in
    let text = spelling h ++ spelling r in
    let long : length text ≤ most_bytes = search (rules, length-append, spelled_length) in
    let begun : Log = record { source = log.source; state = no_content } in
    let opens : taken None h ≡ Ok (so_far New begun) = ap (opened New) based in
    let takes : taken (Some (so_far New begun)) r ≡ Ok (so_far New log) =
    ap (λ (o : Option ReplicaFault). joined New o begun log.state) (nothing_against begun refl named sound) ∙ (λ i. Ok (so_far New (record { source = log.source; state = joined_alone log.state i }))) in
    let all : all_taken None (h ∷ r ∷ []) ≡ Ok (Some (so_far New log)) = search rules
    in
    let more : nat_lt most_bytes (length text) ≡ false = le-ltb most_bytes (length text) long in
    record {
      said = record {
        frames = h ∷ r ∷ [];
        behind = [];
        each = (first, (second, tt));
        cut = take_all most_bytes text long ∙ (ap (λ (l : List ℕ). spelling h ++ l) (sym (append-nil (spelling r))) ∙ sym (append-nil (spelling h ++ (spelling r ++ []))));
        answer = subst (λ (o : Result (Option LogSoFar) LoadFault). IsLogAnswer (nat_lt most_bytes (length text)) [] o (Ok log)) (sym all) (more, refl, refl);
      };
    }
