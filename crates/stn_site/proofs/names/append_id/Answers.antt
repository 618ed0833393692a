use Rattle.std.proofs.Common.{length-append, rules}
use Rattle.stn_site.proofs.Lengths.{short_number, length_appended_ok}
use Rattle.stn_records.specs.Id.{id_text}
use Rattle.stn_site.proofs.names.append_id.Goals as goal

pub returns-clause-short : goal.returns-clause-short
returns-clause-short g c =
    length_appended_ok c.print.result c.print.new.out.items c.args.out.now.items (id_text c.args.id) 11 c.print.ensures.printed (search (rules, short_number, length-append))
