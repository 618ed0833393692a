use Rattle.std.{proofs.{Common.{◌≡◌, ◌++◌, ap, ◌∙◌, codes}, lemmas.Result.on_ok_weaker}, specs.FinMap.{get, contains_key}}
use Rattle.stn_records.{specs.{Id.{id_text}, Content.Content}, proofs.Places.id_searched}
use Rattle.stn_questions.{specs.Records.{amends_text, held_text, word_where, is_amended}, proofs.Listing.line_in_parts}
use Rattle.stn_questions.proofs.records.append_line.Goals as goal

pub returns : goal.returns
returns g c =
    let state = c.args.records.now in
    let id = c.args.id in
    let there : c.state-state.result.now ≡ state = c.state-state.ensures.value in
    let added = c.get.ensures ∙ ap (λ m. get m id) (c.additions.ensures ∙ ap (λ (s : Content). s.additions) there) in
    let old = c.get-2.ensures ∙ ap (λ m. get m id) (c.replacements.ensures ∙ ap (λ (s : Content). s.replacements) there) in
    let gone = c.contains.ensures ∙ ap (λ m. contains_key m id) (c.tombstones.ensures ∙ ap (λ (s : Content). s.tombstones) there) in
    let replaced : c.is_ok.result ≡ is_amended state id = c.is_ok.ensures.value
    ∙ id_searched c.args.replaced.now id c.requires.order c.binary_search.result c.binary_search.ensures.bound c.binary_search.ensures.position ∙ c.requires.each id in
    on_ok_weaker c.append_pieces.result (λ ended. line_in_parts c.args.out.now.items (id_text id) (held_text (get state.additions id)) (amends_text (get state.replacements id))
    (word_where (contains_key state.tombstones id) (codes " withdrawn")) (word_where (is_amended state id) (codes " replaced"))
    c.append_held.new.out.items c.append_amended.new.out.items c.append_pieces.new.out.items
    (c.in_ok-append_held.ensures ∙ ap (λ held. c.args.out.now.items ++ (id_text id ++ held_text held)) added)
    (c.in_ok-append_amended.ensures ∙ ap (λ one. c.append_held.new.out.items ++ amends_text one) old)
    (rw (c.word_where.ensures ∙ ap (λ so. word_where so (codes " withdrawn")) gone, c.word_where-2.ensures ∙ ap (λ so. word_where so (codes " replaced")) replaced) at ended)) c.append_pieces.ensures.text
