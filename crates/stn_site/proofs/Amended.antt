-- What an amendment under a new id leaves, and why it is refused.
use Rattle.std.{proofs.Common.{rules, ◌≡◌, suc, ◌≤◌, true, false, cond, Some, None}, specs.{Prelude.{option_map, ◌==◌}, Bool.then_some, FinMap.get}}
use Rattle.stn_net.specs.Difference.{Difference}
use Rattle.stn_records.{specs.{Id.{SiteCounter, most_counter, same_ids}, Refusals.{amendment_refusal, clashes, is_too_much}, Content.{most_known, Content, IsSound, is_known, known_count, next_counter, with_amendment}}, proofs.Limits.amended_count}
use Rattle.stn_records.specs.declared.faults.RecordsFault.TheVariants as records
use Rattle.stn_site.specs.{declared.faults.ReplicaFault.TheVariants.Full, FaultsOf.of_records_fault, Held.Held, Refusals.next_refusal}

module _ (s : Content) (id old : SiteCounter) (bound : Difference) (unknown : is_known s id ≡ false) (known : is_known s old ≡ true) (nothing : get s.replacements id ≡ None) where
  abbrev amended : Content
  amended = with_amendment s id old bound

  others : same_ids id old ≡ false
  others = search rules

  -- one id more is known
  one_known : known_count amended ≡ suc (known_count s)
  one_known = search (rules, amended_count)

  too_much_where_full : known_count s ≡ most_known → is_too_much s id old bound ≡ true
  too_much_where_full full = search (rules, one_known)

  full_where_too_much : known_count s ≤ most_known → is_too_much s id old bound ≡ true → known_count s ≡ most_known
  full_where_too_much most e = search (rules, one_known)

  agrees : clashes s id old bound ≡ false
  agrees = search rules

  -- only too many known ids refuse it
  refusal : amendment_refusal s id old bound ≡ cond (is_too_much s id old bound) (Some records.Full) None
  refusal = search rules

  -- which happens where as many are known as may be
  pub next_amended : known_count s ≤ most_known → option_map of_records_fault (amendment_refusal s id old bound) ≡ then_some (known_count s == most_known) Full
  next_amended most = search (rules, full_where_too_much, too_much_where_full)

-- an amendment under the site's next id is refused only for want of room
pub amended_next : (held : Held) (id old : SiteCounter) (bound : Difference) → IsSound held.state → next_counter held.state held.site ≤ most_counter
    → is_known held.state id ≡ false → is_known held.state old ≡ true → option_map of_records_fault (amendment_refusal held.state id old bound) ≡ next_refusal held
amended_next held id old bound sound counter unknown known = search (rules, next_amended)
