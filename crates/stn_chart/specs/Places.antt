-- Where things stand in the picture of a plan, in units from the left and from the top.
use Rattle.std.specs.Prelude.{ℕ, ◌+◌, ◌*◌}

-- where the axis begins, and how long it is
abbrev pub line_left : ℕ
line_left = 344

abbrev pub line_width : ℕ
line_width = 540

abbrev pub row_height : ℕ
row_height = 24

-- where a row begins; rows are counted from 0
abbrev pub row_top : ℕ → ℕ
row_top row = 54 + row_height * row

-- the height of the picture of so many steps: below the rows are the word for the present, and the legend
abbrev pub height_of : ℕ → ℕ
height_of steps = row_top steps + 64

-- from the top of a row to the line on which its words stand, and to the middle of its bars
abbrev pub words_below : ℕ
words_below = 16

abbrev pub middle_below : ℕ
middle_below = 12

-- a bar is at least so wide
abbrev pub least_width : ℕ
least_width = 2

-- a name has at most so many characters
abbrev pub most_name : ℕ
most_name = 46

-- where the first entry of the legend begins, and how far each is from the one before
abbrev pub legend_left : ℕ
legend_left = 32

abbrev pub legend_apart : ℕ
legend_apart = 120
