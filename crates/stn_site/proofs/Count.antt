-- How many records and replaced ids a state has.
use Rattle.std.{proofs.{Common.{rules, ◌≡◌, ◌≤◌, Bool, not, length, arith, refl}, lemmas.List.{length-map, Filters.length-filter_both}}, specs.FinMap.entries}
use Rattle.stn_records.{specs.{Id.SiteCounter, declared.record.Record.Record, Content.{Content, known_count, is_replaced, live_of, replaced_count, replaced_set}}, proofs.Limits.{additions_within, replaced_within}}

-- as many ids are replaced as the set has entries
pub replaced_counted : (s : Content) → length (entries (replaced_set s)) ≡ replaced_count s
replaced_counted s = search (rules, length-map)

-- and no more than are known
pub few_replaced : (s : Content) → replaced_count s ≤ known_count s
few_replaced s = omega (arith, replaced_within s, replaced_counted s)

-- no more records are live than ids are known
pub live_within : (s : Content) → length (live_of s) ≤ known_count s
live_within s =
    let kept : SiteCounter × Record → Bool = λ entry. not (is_replaced s entry.0) in
    omega (arith, additions_within s, length-filter_both kept (λ entry. not (kept entry)) (λ _. refl) (entries s.additions))
