use Rattle.std.{proofs.Common.{◌≡◌, ◌^◌, ◌<◌, drop}, specs.Str.{all_ascii_digits, Parse.{digits_value, digits_value_after}}}
use Rattle.stn_text.proofs.numbers.read_number.Given as goal

abbrev pub invariant-loop-digit : goal.invariant-loop-digit
invariant-loop-digit l = record {
  digits : all_ascii_digits (drop l.digit-index l.word) ≡ all_ascii_digits l.word;
  value : digits_value_after 10 l.number (drop l.digit-index l.word) ≡ digits_value 10 l.word;
  below : l.number < 10 ^ l.digit-index;
}
