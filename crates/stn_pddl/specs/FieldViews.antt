-- For proofs alone: no public clause cites these words.
-- What the values of an action's keys say.
use Rattle.std.specs.Option.{option_map}
use Rattle.stn_pddl.specs.{Tree.Cursors.row_at, declared.fields.{Listing.Listing, Values.Values}}
use Rattle.stn_pddl.specs.Fields as spec

abbrev pub listing_of : Listing → spec.Listing
listing_of listing = record { line = listing.line; children = row_at listing.inside }

abbrev pub values_of : Values → spec.Values
values_of values = record {
  parameters = option_map listing_of values.parameters;
  duration = option_map listing_of values.duration;
  condition = option_map listing_of values.condition;
  effect = option_map listing_of values.effect;
}
