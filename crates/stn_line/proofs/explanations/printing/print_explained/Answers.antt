use Rattle.std.proofs.Common.{rules, ◌≡◌, ◌∙◌, ◌++◌, Some, None, Err, List, ℕ, sym, ap, option_map, subst}
use Rattle.stn_line.{specs.Explanations.Explained.{IsExplained, NamesNothing, AreMeanings}, proofs.explanations.{Entries.{all_entries, names_nothing, appended}, printing.print_explained.Goals.{in-None+in_ok-append_meanings-in-None, in-Some+in-Some-entry_of+in_ok-append_explanation-in-Some-entry_of}}}
use Rattle.stn_line.proofs.explanations.printing.print_explained.Goals as goal

pub append_meanings-requires : goal.append_meanings-requires
append_meanings-requires g c = search (rules, all_entries)

pub entry_of-requires : goal.entry_of-requires
entry_of-requires g c = search (rules, all_entries)

pub returns-in-None-entry_of-clause-unknown : goal.returns-in-None-entry_of-clause-unknown
returns-in-None-entry_of-clause-unknown g c =
    let none = names_nothing c.in-Some.word.now c.table-entries.result.now c.table-entries.ensures c.in-None-entry_of.ensures in
    (λ _. subst (λ word. NamesNothing (option_map (λ one. one.now) word)) (sym c.in-Some.is) none, λ _. ap Err c.refused_at.ensures)

pub returns-clause-explained : goal.returns-clause-explained
returns-clause-explained g c = elim c.match-word.branch [
  | in-None+in_ok-append_meanings-in-None w ↦
      let said = w.in_ok-append_meanings-in-None.ensures in
      subst (λ word. (text : List ℕ) × IsExplained (option_map (λ one. one.now) word) text × (c.extend_from_slice.new.self.items ≡ c.args.out.now.items ++ text)) (sym w.in-None.is)
      (appended None said.0 c.args.out.now.items c.deref.result.now c.extend_from_slice.new.self.items (subst (λ subjects. AreMeanings subjects said.0) c.table-entries.ensures.each said.1)
      (c.deref.ensures.value ∙ ap (λ text. text.items) w.text-is ∙ said.2 ∙ ap (λ items. items ++ said.0) c.new-text.ensures.items) c.in_ok-extend_from_slice.ensures.items)
  | in-Some+in-Some-entry_of+in_ok-append_explanation-in-Some-entry_of w ↦
      let said = w.in_ok-append_explanation-in-Some-entry_of.ensures in
      subst (λ word. (text : List ℕ) × IsExplained (option_map (λ one. one.now) word) text × (c.extend_from_slice.new.self.items ≡ c.args.out.now.items ++ text)) (sym w.in-Some.is)
      (appended (Some w.in-Some.word.now) said.0 c.args.out.now.items c.deref.result.now c.extend_from_slice.new.self.items (_, w.in-Some-entry_of.ensures.1, said.1)
      (c.deref.ensures.value ∙ ap (λ text. text.items) w.text-is ∙ said.2 ∙ ap (λ items. items ++ said.0) c.new-text.ensures.items) c.in_ok-extend_from_slice.ensures.items)
]
