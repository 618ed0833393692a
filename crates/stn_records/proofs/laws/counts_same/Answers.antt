use Rattle.std.proofs.{Common.{is_some, refl, sym, ap, ◌∙◌}, lemmas.Bool.false≢true}
use Rattle.stn_records.{specs.Content.{plain, with_record}, proofs.Replaced.{replaced_amended, replaced_withdrawn}}
use Rattle.stn_records.proofs.laws.counts_same.Goals as goal

pub returns-clause-amended : goal.returns-clause-amended
returns-clause-amended c s id old bound none = record {
  additions = refl;
  replaced = sym (replaced_amended s id old bound (λ z e. absurd (false≢true (ap is_some (sym none ∙ e))))) ∙ replaced_withdrawn (with_record s id (plain bound)) old;
}
