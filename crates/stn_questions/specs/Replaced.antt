-- For proofs alone: no public clause cites these words.
-- The ids that records replace.
use Rattle.std.specs.{Prelude.{◌≡◌, List}, List.Sorted.IsSorted, Set.is_member}
use Rattle.stn_records.specs.{Id.{SiteCounter, id_cmp, same_ids}, Content.Content}
use Rattle.stn_questions.specs.Records.{is_amended}

-- the list has the ids that records replace, in order
pub record AreReplaced (state : Content) (ids : List SiteCounter) : Type 0 where
  pub order : IsSorted id_cmp ids
  pub each : (id : SiteCounter) → is_member same_ids ids id ≡ is_amended state id
