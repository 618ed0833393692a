-- What each picture begins with: its size and title, the ground, the title as it is seen.
use Rattle.std.specs.Prelude.{ℕ, max, List, ◌++◌, codes, decimal}
use Rattle.stn_drawing.specs.Escape.{shown, cut}

-- the title has at most so many characters
abbrev pub most_title : ℕ
most_title = 60

-- the beginning of a picture of such a height, with this title
abbrev pub open_text : List ℕ → ℕ → List ℕ
open_text title height = codes "<svg xmlns='http://www.w3.org/2000/svg' viewBox='0 0 1000 " ++ decimal height ++ codes "' role='img'>\n<title>" ++ shown title ++ codes "</title>\n"

-- the ground, and stripes from the second row to the end of the rows
abbrev pub paper_text : ℕ → ℕ → ℕ → List ℕ
paper_text height second end = codes "<rect class='z' width='1000' height='" ++ decimal height ++ codes "'/>\n<path class='y' d='M500 " ++ decimal second
    ++ codes "V" ++ decimal (max second end) ++ codes "'/>\n"

abbrev pub heading_text : List ℕ → List ℕ
heading_text title = codes "<text class='t' x='8' y='20'>" ++ cut most_title title ++ codes "</text>\n"
