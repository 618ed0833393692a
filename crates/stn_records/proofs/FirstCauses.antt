-- The first cause that refuses a call, from what its parts answer.
use Rattle.std.{proofs.Common.{rules, ◌≡◌, ◌≤◌, ltb, None}, specs.Bool.then_some}
use Rattle.stn_records.specs.{declared.faults.RecordsFault.TheVariants.Full, Content.{most_known, Content, known_in_either, dispute_contents}, Refusals.join_refusal}

-- where no id is in dispute, only too many ids refuse a join
module _ (s other : Content) (agreed : dispute_contents s other ≡ None) where
  counted : join_refusal s other ≡ then_some (ltb most_known (known_in_either s other)) Full
  counted = cc

  pub take_free : known_in_either s other ≤ most_known → join_refusal s other ≡ None
  take_free few = search rules
