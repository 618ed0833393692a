use Rattle.std.{proofs.{Common.{◌∙◌, [], ap, map, option_map, sym}, lemmas.Result.IfOk-weaker}, specs.Option.unwrap_or}
use Rattle.clap.{specs.Words.found_of, proofs.WalkLemmas.raw_values-rows}
use Rattle.stn_line.proofs.reading.all_words.Goals as goal

pub returns-in-Some : goal.returns-in-Some
returns-in-Some c =
    let all = sym (raw_values-rows (found_of c.args.words.now) c.args.name.now) ∙ sym c.get_strs.ensures ∙ ap (option_map (λ s. map (λ v. v.now) s.now)) c.in-Some.is in
    IfOk-weaker c.to_vec.result _ _ (λ list same. ap (λ o. unwrap_or o []) all ∙ ap (map (λ v. v.now)) (sym (same (λ x y is. is)))) c.to_vec.ensures.items_if_clones_equal

pub returns-in-None : goal.returns-in-None
returns-in-None c =
    let all = sym (raw_values-rows (found_of c.args.words.now) c.args.name.now) ∙ sym c.get_strs.ensures ∙ ap (option_map (λ s. map (λ v. v.now) s.now)) c.in-None.is in
    ap (λ o. unwrap_or o []) all ∙ ap (map (λ v. v.now)) (sym c.new.ensures.items)
