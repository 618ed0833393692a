use Rattle.std.{proofs.{Common.{◌≡◌, ◌∙◌, ℕ, List, [], ◌++◌, length, map, sym, ap, arith}, lemmas.{Grind.common_steps, List.append-nil}}, specs.List.flat_map}
use Rattle.stn_text.specs.Lines.{lines_of}
use Rattle.stn_command.specs.NamedLines.{line_with_names}
use Rattle.stn_command.proofs.named_lines.with_names.Goals as goal

-- an empty text has no lines
no_lines : (text : List ℕ) → length text ≡ 0 → lines_of text ≡ []
unfolding lines_of
no_lines text none = grind (arith, common_steps)

pub returns : goal.returns
returns g c =
    let line = line_with_names (map (λ name. name.items) c.args.names.now) c.args.plan.now.state in
    let none : lines_of c.loop-rest.rest.now ≡ [] = no_lines c.loop-rest.rest.now (grind (arith, common_steps)) in
    sym (c.loop-rest.invariant ∙ ap (λ lines. c.loop-rest.text.items ++ flat_map line lines) none ∙ append-nil c.loop-rest.text.items)
