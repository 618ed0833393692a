-- The bounds of a state that is spelled.
use Rattle.std.{proofs.{Common.ℕ, lemmas.List.Elements.All-from_recursion}, specs.{Prelude.All, FinMap.entries}}
use Rattle.stn_net.specs.Difference.{NamesEvents, IsBoundWithin}
use Rattle.stn_records.{specs.{Maps.AllFit, Content.Content, ContentLaws.{ids_total, ids_exact}}, proofs.Gets.get_from_entries}
use Rattle.stn_wire.specs.{declared.layout.Layout.Layout, Spelling.IsEntry, Frame.IsState}

-- another crate's lemma rests on it: its records are of bounds of each plan that has their events
pub said_bounds : (layout : Layout) (state : Content) → IsState layout state → (events : ℕ) → All (λ entry. NamesEvents events entry.1.bound) (entries state.additions)
    → AllFit (λ one. IsBoundWithin events one.bound) state.additions
said_bounds layout state said events named id one there =
    let entry = get_from_entries ids_total ids_exact state.additions (IsEntry layout) (All-from_recursion (IsEntry layout) (entries state.additions) said.additions.each) id one there in
    record {
      named = get_from_entries ids_total ids_exact state.additions (λ entry. NamesEvents events entry.1.bound) named id one there;
      differs = entry.said.sound.differs;
      ordered = entry.said.sound.ordered;
    }
