-- Why records refuse a change: the first cause that stands against it. Where there is none, nothing but lack of memory can stop it.
use Rattle.std.specs.{Prelude.{Bool, true, false, not, ◌&&◌, ◌||◌, ◌==◌, nat_lt, Option, Some, None, option_map, if◌then◌else◌}, Bool.then_some, Option.option_or}
use Rattle.std.specs.FinMap as map
use Rattle.stn_net.specs.Difference.{Difference}
use Rattle.stn_records.specs.{Id.{SiteCounter, same_ids}, Record.same_records, Maps.differ, Content.{Content, most_known, is_known, is_limited, known_count, known_in_either, dispute_contents, plain, with_amendment}, declared.{record.Record.Record, faults.RecordsFault.{RecordsFault, TheVariants.{SelfReplace, Clash, Unknown, Full}}}}

-- the id is new, and as many are known as may be
abbrev pub has_no_room : Content → SiteCounter → Bool
has_no_room s id = not (is_known s id) && (known_count s == most_known)

-- an addition: the id has another record, there is no room for it
abbrev pub addition_refusal : Content → SiteCounter → Record → Option RecordsFault
addition_refusal s id one = option_or (then_some (differ same_records (map.get s.additions id) (Some one)) (Clash id)) (then_some (has_no_room s id) Full)

-- a withdrawal that asks for a known id: the id is not known
abbrev pub withdrawal_refusal : Content → SiteCounter → Option RecordsFault
withdrawal_refusal s id = then_some (not (is_known s id)) Unknown

-- a withdrawal that takes any id: there is no room for it
abbrev pub bury_refusal : Content → SiteCounter → Option RecordsFault
bury_refusal s id = then_some (has_no_room s id) Full

-- what another site holds: an id has two different records or replaces two different ids, more ids would be known than the most
abbrev pub join_refusal : Content → Content → Option RecordsFault
join_refusal s other = option_or (option_map Clash (dispute_contents s other)) (then_some (nat_lt most_known (known_in_either s other)) Full)

-- the id has another record, or replaces another id
abbrev pub clashes : Content → SiteCounter → SiteCounter → Difference → Bool
clashes s id old bound = differ same_records (map.get s.additions id) (Some (plain bound)) || differ same_ids (map.get s.replacements id) (Some old)

-- more ids would be known than the most
abbrev pub is_too_much : Content → SiteCounter → SiteCounter → Difference → Bool
is_too_much s id old bound = not (is_limited (with_amendment s id old bound))

-- an amendment, whose old id must be known, or need not be
abbrev pub first_refusal : Bool → Content → SiteCounter → SiteCounter → Difference → Option RecordsFault
first_refusal must_know s id old bound =
    if same_ids id old then Some SelfReplace
    else if clashes s id old bound then Some (Clash id)
    else if must_know && not (is_known s old) then Some Unknown
    else if is_too_much s id old bound then Some Full
    else None

abbrev pub amendment_refusal : Content → SiteCounter → SiteCounter → Difference → Option RecordsFault
amendment_refusal = first_refusal true

abbrev pub replace_refusal : Content → SiteCounter → SiteCounter → Difference → Option RecordsFault
replace_refusal = first_refusal false
