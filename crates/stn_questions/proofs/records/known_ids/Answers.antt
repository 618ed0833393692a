use Rattle.std.{proofs.{Common.{rules, ◌≡◌, ap, ◌∙◌}, lemmas.List.Filters.dedup_is}, specs.FinMap.entries}
use Rattle.stn_records.specs.{Content.Content}
use Rattle.stn_questions.proofs.KnownOnce.{same_numbers, listed_ids, known_once}
use Rattle.stn_questions.proofs.records.known_ids.Goals as goal

pub returns : goal.returns
returns g c =
    let state = c.args.records.now in
    let sorted = c.sort_unstable.new.self.items in
    let listed = c.in_ok-ids.ids.items in
    let held : c.state-state.result.now ≡ state = c.state-state.ensures.value in
    let added : c.entries.result.now ≡ entries state.additions = c.entries.ensures.value ∙ ap entries (c.additions.ensures ∙ ap (λ (s : Content). s.additions) held) in
    let gone : c.entries-2.result.now ≡ entries state.tombstones = c.entries-2.ensures.value ∙ ap entries (c.tombstones.ensures ∙ ap (λ (s : Content). s.tombstones) held) in
    let old : c.entries-3.result.now ≡ entries state.replacements = cc in
    let all : listed ≡ listed_ids state = search rules
    in
    known_once state listed sorted c.dedup.new.self.items all c.sort_unstable.ensures.permutation c.sort_unstable.ensures.sorted
    (dedup_is same_numbers sorted c.dedup.new.self.items c.dedup.ensures.filtered)
