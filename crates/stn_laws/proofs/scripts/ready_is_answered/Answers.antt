use Rattle.stn_world.specs.Steps.{TookSameAt}
use Rattle.stn_questions.specs.Ready.{IsReadyText}
use Rattle.stn_laws.{specs.Reports.AsksReady, proofs.{scripts.Reports.{print_same, ready_said}, questions.Counted.same_ready}}
use Rattle.stn_laws.proofs.scripts.ready_is_answered.Goals as goal

pub returns-clause-text : goal.returns-clause-text
returns-clause-text c = ready_said c.chosen_all.ensures

pub returns-clause-bytes : goal.returns-clause-bytes
returns-clause-bytes c = λ now.
    print_same (λ _ at site. AsksReady at site now) TookSameAt (λ source state text. IsReadyText source state now text) (λ script at site asks. asks.there)
    (λ script output text at site. ready_said c.chosen_all.ensures script output text at site now)
    (λ source sites others ours theirs site other here there took text last p q.
    let alike = (c.sites_took_same_same_bytes.ensures.bytes source sites others ours theirs site other here there took).0 in
    c.one_ready_text.ensures source _ now text last (same_ready source _ _ (c.counts_same.ensures.live _ _ alike) now text p) q)
