use Rattle.std.proofs.{Common.{rules, ◌≡◌, [], length, sym, ap, ◌∙◌, eqb-true}, lemmas.{Bool.{false≢true, eq-eqb}, List.nil_from_length}}
use Rattle.stn_wire.proofs.States.{no_additions, no_tombstones, no_entries, something_left, lists_read}
use Rattle.stn_wire.proofs.state.read_state.Goals as goal

pub returns-in_default : goal.returns-in_default
returns-in_default g c = search (rules, no_additions)

pub returns-in_default-2 : goal.returns-in_default-2
returns-in_default-2 g c =
    no_tombstones c.args.layout c.args.amended c.args.bytes.now c.in-Some.additions.items c.in-Some.rest.now (rw c.in-Some.is at c.in_ok-additions.ensures) (rw c.in_default-2.is at c.in_ok-tombstones.ensures)

pub returns-in_default-3 : goal.returns-in_default-3
returns-in_default-3 g c =
    no_entries c.args.layout c.args.amended c.args.bytes.now c.in-Some.additions.items c.in-Some.rest.now (rw c.in-Some.is at c.in_ok-additions.ensures) c.in-Some-2.tombstones.items c.in-Some-2.rest.now (rw c.in-Some-2.is at c.in_ok-tombstones.ensures)
    (rw c.in_default-3.is at c.in_ok-replacements.ensures)

pub returns-then-is_empty : goal.returns-then-is_empty
returns-then-is_empty g c =
    let none : c.in-Some-3.rest.now ≡ [] = nil_from_length c.in-Some-3.rest.now (eqb-true _ _ (sym c.is_empty.ensures ∙ c.if-is_empty.true)) in
    lists_read c.args.layout c.args.amended c.args.bytes.now c.in-Some.additions.items c.in-Some.rest.now (rw c.in-Some.is at c.in_ok-additions.ensures) c.in-Some-2.tombstones.items c.in-Some-2.rest.now (rw c.in-Some-2.is at c.in_ok-tombstones.ensures)
    c.in-Some-3.replacements.items c.in-Some-3.rest.now (rw c.in-Some-3.is at c.in_ok-replacements.ensures)
    none c.from_lists.result c.from_lists.ensures.additions c.from_lists.ensures.tombstones c.from_lists.ensures.replacements c.from_lists.ensures.sound c.from_lists.ensures.all

pub returns-else-is_empty : goal.returns-else-is_empty
returns-else-is_empty g c =
    something_left c.args.layout c.args.amended c.args.bytes.now c.in-Some.additions.items c.in-Some.rest.now (rw c.in-Some.is at c.in_ok-additions.ensures) c.in-Some-2.tombstones.items c.in-Some-2.rest.now (rw c.in-Some-2.is at c.in_ok-tombstones.ensures)
    c.in-Some-3.replacements.items c.in-Some-3.rest.now (rw c.in-Some-3.is at c.in_ok-replacements.ensures)
    (λ none. false≢true (sym c.if-is_empty.false ∙ c.is_empty.ensures ∙ eq-eqb (length c.in-Some-3.rest.now) 0 (ap length none)))
