use Rattle.std.proofs.Common.{sym, ◌∙◌}
use Rattle.stn_time.proofs.Forms.{form-parts_of, time_of-found, read-time, read-malformed, read-too_fine, read-out_of_range, same_millis}
use Rattle.stn_time.proofs.millis.Ms.read.Goals as goal

pub time-requires-clause-whole : goal.time-requires-clause-whole
time-requires-clause-whole c = (form-parts_of c.args.text.now c.in-Some.ensures).whole.1

pub time-requires-clause-fraction : goal.time-requires-clause-fraction
time-requires-clause-fraction c = (form-parts_of c.args.text.now c.in-Some.ensures).fraction

pub returns-in-Some : goal.returns-in-Some
returns-in-Some c =
    let text = c.args.text.now in
    let is = c.time.ensures ∙ sym (time_of-found text _ c.in-Some.ensures) in
    record {
      value = is;
      time = read-time text _ is;
      malformed = read-malformed is;
      too_fine = read-too_fine is;
      out_of_range = read-out_of_range is;
      unique = same_millis text;
    }

pub returns-in-None : goal.returns-in-None
returns-in-None c =
    let text = c.args.text.now in
    let is = sym (time_of-found text _ c.in-None.ensures) in
    record {
      value = is;
      time = read-time text _ is;
      malformed = read-malformed is;
      too_fine = read-too_fine is;
      out_of_range = read-out_of_range is;
      unique = same_millis text;
    }
