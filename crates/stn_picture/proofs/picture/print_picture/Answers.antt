use Rattle.std.proofs.{Common.{◌++◌, ◌∙◌, ap}, lemmas.Result.IfOk-weaker}
use Rattle.stn_site.proofs.Printing.{appended_ok, kept_err}
use Rattle.stn_picture.proofs.picture.print_picture.Goals as goal

pub returns-clause-drawn : goal.returns-clause-drawn
returns-clause-drawn g c =
    IfOk-weaker c.extend_from_slice.result _ _ (λ _ ended. (c.in_ok-text.text.items, c.in_ok-text.ensures, ended ∙ ap (λ text. c.args.out.now.items ++ text) c.deref.ensures.value))
    (appended_ok c.extend_from_slice.result c.extend_from_slice.new.self.items c.args.out.now.items c.deref.result.now c.extend_from_slice.ensures.items)

pub returns-clause-kept : goal.returns-clause-kept
returns-clause-kept g c = kept_err c.extend_from_slice.result c.extend_from_slice.new.self.items c.args.out.now.items c.deref.result.now c.extend_from_slice.ensures.items
