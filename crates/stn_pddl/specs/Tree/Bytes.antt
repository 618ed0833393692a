-- What the bytes of a text are.
use Rattle.std.specs.Prelude.{ℕ, ◌+◌, Bool, false, ◌||◌, ◌==◌, if◌then◌else◌}
use Rattle.stn_text.specs.Bytes.{is_space, is_visible, line_feed, semicolon}
use Rattle.stn_pddl.specs.declared.tree.bytes.Kind.{Kind, TheVariants.{Blank, Open, Close, Letter, Stray}}

-- outside a comment; `;` begins one, and is blank like what stands in it
unfoldable pub kind_of : ℕ → Kind
kind_of b = if is_space b || (b == semicolon) then Blank
    else (if b == 40 then Open
    else (if b == 41 then Close
    else (if is_visible b then Letter else Stray)))

-- in a comment each byte is blank
abbrev pub kind_in : Bool → ℕ → Kind
kind_in comment b = if comment then Blank else kind_of b

-- a comment goes from `;` up to the end of the line
unfoldable pub comment_after : Bool → ℕ → Bool
comment_after comment b = if b == line_feed then false else (comment || (b == semicolon))

-- the line of a place is 1 plus the number of line feeds before it
unfoldable pub line_after : ℕ → ℕ → ℕ
line_after line b = if b == line_feed then line + 1 else line
