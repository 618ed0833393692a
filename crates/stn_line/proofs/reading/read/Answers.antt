use Rattle.std.proofs.Common.{refl}
use Rattle.stn_line.proofs.{OfStn.entered_has, Values.entered_is}
use Rattle.stn_line.proofs.reading.read.Goals as goal

pub command-requires : goal.command-requires
command-requires c =
    entered_has c.args.matches.now c.subcommand.result c.unwrap.result c.subcommand.ensures.name c.subcommand.ensures.rows c.unwrap.ensures c.requires c.unwrap.result.0.now refl

pub returns : goal.returns
returns c =
    let entered = entered_is c.args.matches.now c.subcommand.result c.unwrap.result c.subcommand.ensures.name c.subcommand.ensures.rows c.unwrap.ensures in
    rw entered c.command.ensures
