-- What the bytes of a plan text are.
use Rattle.std.specs.Prelude.{ℕ, ◌==◌, if◌then◌else◌}
use Rattle.stn_text.specs.Bytes.{is_space, is_visible, semicolon}
use Rattle.stn_lift.specs.declared.plan.bytes.{Mark.TheVariants.{Colon, Open, Close, OpenSquare, CloseSquare}, Kind.Kind}
use Rattle.stn_lift.specs.declared.plan.bytes.Kind.TheVariants as kind

-- What a byte is outside comments: `:` `(` `)` `[` `]` are tokens of one byte, and the other printing bytes but `;` are letters of words.
unfoldable pub kind_of : ℕ → Kind
kind_of b =
    if b == 58 then kind.Mark Colon
    else (if b == 40 then kind.Mark Open
    else (if b == 41 then kind.Mark Close
    else (if b == 91 then kind.Mark OpenSquare
    else (if b == 93 then kind.Mark CloseSquare
    else (if b == semicolon then kind.Comment
    else (if is_space b then kind.Space
    else (if is_visible b then kind.Letter else kind.Stray)))))))
