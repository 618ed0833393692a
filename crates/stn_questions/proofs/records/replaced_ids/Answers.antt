use Rattle.std.{proofs.{Common.{◌≡◌, List, ap, sym, ◌∙◌, map}, lemmas.List.Sorted.list_any-IsPermutation}, specs.{FinMap.{entries, values}, Set.is_member}}
use Rattle.stn_records.specs.{Id.{SiteCounter, same_ids}, Content.Content}
use Rattle.stn_questions.proofs.records.replaced_ids.Goals as goal

pub returns : goal.returns
returns g c =
    let state = c.args.records.now in
    let old = c.in_ok-ids.ids.items in
    let listed : old ≡ values state.replacements =
    c.in_ok-ids.ensures
    ∙ ap (λ (all : List (SiteCounter × SiteCounter)). map (λ entry. entry.1) all)
    (c.entries.ensures.value ∙ ap entries (c.replacements.ensures ∙ ap (λ (s : Content). s.replacements) c.state.ensures.value)) in
    record {
      order = c.sort_unstable.ensures.sorted;
      each = λ id. sym (list_any-IsPermutation (same_ids id) old c.sort_unstable.new.self.items c.sort_unstable.ensures.permutation)
          ∙ ap (λ (ids : List SiteCounter). is_member same_ids ids id) listed;
    }
