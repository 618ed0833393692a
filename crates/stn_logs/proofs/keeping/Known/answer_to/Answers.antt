use Rattle.std.proofs.Common.{None, sym, subst}
use Rattle.stn_site.specs.Held.{Held}
use Rattle.stn_command.specs.Query.{seen_query, IsSaid, IsQueryRefusal}
use Rattle.stn_logs.{proofs.Spelled.this_answer}
use Rattle.stn_logs.proofs.keeping.Known.answer_to.Goals as goal

pub returns-in-Some : goal.returns-in-Some
returns-in-Some g c =
    let query = seen_query c.args.query.now in
    let same = c.is.ensures c.if-is.true in
    let said = this_answer c.self.inside.plan c.in-Some.is c.self.invariant.2 in
    let asked = rw same at said in
    let spelled = rw (sym c.deref.ensures.value) at asked in
    subst (λ (known : Held). IsSaid query known c.deref.result.now × IsQueryRefusal query known None) c.self.view_is spelled
