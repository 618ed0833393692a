use Rattle.std.proofs.{Common.rules, lemmas.List.Sorted.answers_always}
use Rattle.stn_records.proofs.Places.{searched}
use Rattle.stn_records.proofs.sorted.place_of.Goals as goal

-- the closure gives an entry's id
pub returns : goal.returns
returns g c =
    let facts = c.binary_search_by_key.ensures in
    let by_id = facts.position (λ entry. entry.0) (answers_always _ _ _ (λ f a r g called. search rules)) in
    searched c.args.entries.now c.requires c.args.id _ facts.bound by_id
