-- What a log and a text are that were read.
use Rattle.std.{proofs.{lemmas.{Grind.common_steps, List.take_all}, Common.{arith, rules, ◌≡◌, ℕ, ◌+◌, ◌<◌, ◌≤◌, List, [], ◌++◌, length, take, Option, Some, None, Result, Err, refl, sym, ap, subst, ◌∙◌, inl, inr}}, specs.{Prelude.{IfSome, ◌⊎◌, option_map}, Io.KnownBytes.{Consumes, IsAtEnd}}}
use Rattle.stn_device.specs.{declared.whole.ReadFault.ReadFault, Failures.read_failure}
use Rattle.stn_device.specs.declared.whole.ReadFault.TheVariants as read
use Rattle.stn_text.specs.Bytes.{most_text}
use Rattle.stn_store.specs.{Log.{Log, IsLog, IsDecided, meaning_of, Failures.load_failure}, declared.log.fault.LoadFault.LoadFault, Bytes.{IsLogIn, IsTextIn}}
use Rattle.stn_store.specs.declared.log.fault.LoadFault.TheVariants as load
use Rattle.stn_refusal.specs.declared.failure.{Failure.TheVariants.Failed, Fault.TheVariants.{Memory, Read, Bound}}

at_end : {read rest : List ℕ} {meaning : Result Log LoadFault} → rest ≡ [] → IsLog read meaning → IsLog (read ++ rest) meaning
at_end e log = search rules

-- what was read has a meaning, and so have the bytes
pub decided_log : (known rest : Option (List ℕ)) {meaning : Result Log LoadFault} → IsDecided known rest meaning → IsLogIn known meaning
decided_log None rest (read, consumed, inl ended) = (read, tt, ended.1)
decided_log None rest (read, consumed, inr all) = (read ++ [], tt, all [])
decided_log (Some bytes) None (read, consumed, ends) = absurd consumed
decided_log (Some bytes) (Some rest) (read, consumed, inl ended) = search rules
decided_log (Some bytes) (Some rest) (read, consumed, inr all) = (read ++ rest, consumed, all rest)

-- why a log was not loaded
pub load_failed : (known rest : Option (List ℕ)) (fault : LoadFault) → IfSome (meaning_of (Err fault)) (IsDecided known rest)
    → (load_failure fault ≡ Failed Memory) ⊎ ((load_failure fault ≡ Failed Read)
    ⊎ ((cause : LoadFault) × IsLogIn known (Err cause) × (load_failure fault ≡ load_failure cause)))
load_failed known rest load.Memory decided = inl refl
load_failed known rest load.Read decided = inr (inl refl)
load_failed known rest fault decided = inr (inr (fault, decided_log known rest decided, refl))

pub decided_log_of : {known first : Option (List ℕ)} (rest : Option (List ℕ)) {meaning : Result Log LoadFault} → first ≡ known → IsDecided first rest meaning
    → IsLogIn known meaning
decided_log_of {first} rest {meaning} same decided = subst (λ (bytes : Option (List ℕ)). IsLogIn bytes meaning) same (decided_log first rest decided)

pub load_failed_of : {known first : Option (List ℕ)} (rest : Option (List ℕ)) (fault : LoadFault) → first ≡ known
    → IfSome (meaning_of (Err fault)) (IsDecided first rest)
    → (load_failure fault ≡ Failed Memory) ⊎ ((load_failure fault ≡ Failed Read)
    ⊎ ((cause : LoadFault) × IsLogIn known (Err cause) × (load_failure fault ≡ load_failure cause)))
load_failed_of {known} rest fault same decided = load_failed known rest fault
    (subst (λ (bytes : Option (List ℕ)). IfSome (meaning_of (Err fault)) (IsDecided bytes rest)) same decided)

-- a text of which no more was read than a limit
pub text_read : (known first rest : Option (List ℕ)) {limit : ℕ} {text : List ℕ} → first ≡ option_map (take limit) known → limit ≡ most_text + 1
    → Consumes first rest text → IsAtEnd rest → length text ≤ most_text + 1 → IsTextIn known text
text_read None first rest {text} e limited consumed ended short = (text, tt, sym (take_all (most_text + 1) text short))
text_read (Some bytes) None rest e limited consumed ended short = absurd (cc)
text_read (Some bytes) (Some first) None e limited consumed ended short = absurd consumed
text_read (Some bytes) (Some first) (Some rest) {limit} {text} e limited consumed ended short =
    let whole : first ≡ text = search rules in
    let cut : first ≡ take limit bytes = cc in
    (bytes, refl, sym whole ∙ cut ∙ ap (λ (n : ℕ). take n bytes) limited)

-- why a text was not read
pub text_failed : {known first : Option (List ℕ)} {limit : ℕ} {fault : ReadFault} → first ≡ option_map (take limit) known → limit ≡ most_text + 1
    → (fault ≡ read.Bound → IfSome first (λ input. most_text + 1 < length input))
    → (read_failure fault ≡ Failed Memory) ⊎ ((read_failure fault ≡ Failed Read) ⊎ ((read_failure fault ≡ Failed Bound) × (known ≡ None)))
text_failed e limited long = grind (arith, common_steps)
