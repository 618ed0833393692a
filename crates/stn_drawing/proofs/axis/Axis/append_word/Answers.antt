use Rattle.std.{proofs.Common.{rules, ◌≡◌, ◌==◌, nat_lt, ℕ, ◌*◌, ◌/◌, List, [], ◌++◌, codes, decimal, if◌then◌else◌, sym, ap, append_assoc}, specs.Int.abs_diff}
use Rattle.stn_drawing.{specs.{Ticks.{Axis, tick_count}, Axis.{unit_of, unit_text}, Seen.seen_axis}, proofs.Grown.written}
use Rattle.stn_drawing.proofs.axis.Axis.append_word.Goals as goal

counted : (axis : Axis) (tick far one : ℕ) (sign unit : List ℕ) → far ≡ abs_diff tick axis.before → one ≡ unit_of axis.gap → sign ≡ (if nat_lt tick axis.before then codes "-" else [])
    → unit ≡ (if tick == axis.before then unit_text axis.gap else []) → sign ++ (decimal (axis.gap * far / one) ++ unit) ≡ tick_count axis tick
counted axis tick far one sign unit a b c d = search rules

-- the pieces of a word
pieced : (out opening place middle sign count unit closing : List ℕ) {at text : List ℕ} → place ≡ at → sign ++ (count ++ unit) ≡ text
    → out ++ (opening ++ (place ++ (middle ++ (sign ++ (count ++ (unit ++ closing)))))) ≡ out ++ (opening ++ at ++ middle ++ text ++ closing)
pieced out opening place middle sign count unit closing there is = simp (append_assoc, sym there, sym is)

pub returns : goal.returns
returns g c =
    let axis = seen_axis c.args.self.now in
    let tick = c.args.tick in
    let sign : c.if-tick-self.sign.now ≡ (if nat_lt tick axis.before then codes "-" else []) = search rules in
    let unit : c.if-tick-self-2.unit.now ≡ (if tick == axis.before then unit_text axis.gap else []) = search rules in
    written c.in_memory.result c.write.result _ _ _ c.in_memory.ensures c.write.ensures.bytes
    (pieced c.args.out.now.items (codes "<tspan x='") (decimal c.tick_place-left.result) (codes "'>") c.if-tick-self.sign.now (decimal (axis.gap * c.abs_diff.result / c.unit_of.result)) c.if-tick-self-2.unit.now (codes "</tspan>")
    (ap decimal c.tick_place-left.ensures) (counted axis tick _ _ _ _ c.abs_diff.ensures c.unit_of.ensures.value sign unit))
