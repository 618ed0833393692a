use Rattle.std.proofs.Common.{rules}
use Rattle.stn_shell.proofs.Turns.{no_texts, one_further}
use Rattle.stn_shell.proofs.coprocess.read_further.Goals as goal

pub returns-in-Err-clause-none : goal.returns-in-Err-clause-none
returns-in-Err-clause-none c = search (rules, no_texts)

pub words-preserved : goal.words-preserved
words-preserved c =
    let done = c.words.invariant.done in
    record {
      done = one_further c.args.before.items c.words.words.items c.push.new.self.items c.in-Ok.word c.in-Some.word.now _ _ _ done.0 done.1
          c.in-Ok.ensures.cases.1 done.2 c.in-Some.ensures.words c.in-Ok.ensures.cases.0 done.3 c.in_ok-push-in-Ok.ensures.items;
    }
