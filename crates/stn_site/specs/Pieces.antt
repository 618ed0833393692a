use Rattle.std.specs.{Prelude.{ℕ, List, decimal, length}, List.flat_map}
use Rattle.stn_time.specs.Text.{printed}
use Rattle.stn_net.specs.Event.{event_text}
use Rattle.stn_site.specs.{declared.pieces.Piece.{Piece, TheVariants.{Text, Number, Event, Bound, Time, Sum}}, Names.name_text}

-- the text of a piece
abbrev pub piece_text : Piece → List ℕ
piece_text (Text bytes) = bytes.now
piece_text (Number number) = decimal number
piece_text (Event event) = event_text event
piece_text (Bound name) = name_text name
piece_text (Time time) = printed time
piece_text (Sum millis) = printed millis

-- the texts of all pieces, one after the other
abbrev pub pieces_text : List Piece → List ℕ
pieces_text = flat_map piece_text

-- so many bytes a piece has at most
abbrev pub most_of : Piece → ℕ
most_of (Text bytes) = length bytes.now
most_of (Number number) = 5
most_of (Event event) = 6
most_of (Bound name) = 15
most_of (Time time) = 21
most_of (Sum millis) = 21
