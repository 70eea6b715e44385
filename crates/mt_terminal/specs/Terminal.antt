-- Strangers' bytes as a terminal is given them (the form: findmnt(8), which writes `\xNN` for what cannot be printed).
-- A word with no source is this project's rule.
use Rattle.std.specs.Prelude.{ℕ, ◌+◌, ◌/◌, ◌%◌, Bool, false, ◌==◌, ◌||◌, ◌&&◌, nat_lt, nat_le, cond, List, [], ◌∷◌, ◌++◌, take, drop, min, Option, Some, None, unwrap_or, codes}
use Rattle.std.specs.List.{flat_map}
use Rattle.bstr.specs.Utf8.{Decoded, decoded}
use Rattle.unicode_width.specs.Width.{char_width}

-- a hexadecimal digit
abbrev pub hex_digit : ℕ → ℕ
hex_digit n = cond (nat_lt n 10) (48 + n) (87 + n)

-- a byte in hexadecimal digits
abbrev pub hex_byte : ℕ → List ℕ
hex_byte b = codes "\\x" ++ hex_digit (b / 16) ∷ hex_digit (b % 16) ∷ []

-- a control of ASCII, or one of those behind them (ECMA-48, C0 and C1)
abbrev pub is_control : ℕ → Bool
is_control c = nat_lt c 32 || (nat_le 127 c && nat_le c 159)

-- a character that turns the direction of text (Unicode Standard Annex #9): U+061C, U+200E, U+200F, U+202A to U+202E, U+2066 to U+2069;
-- a separator of lines or paragraphs, U+2028 and U+2029 in front of these; or a byte order mark, U+FEFF
abbrev pub is_hidden : ℕ → Bool
is_hidden c = c == 1564 || (nat_le 8206 c && nat_le c 8207) || (nat_le 8232 c && nat_le c 8238) || (nat_le 8294 c && nat_le c 8297) || c == 65279

-- a character that a terminal obeys: with it a text looks as another one
abbrev pub is_obeyed : ℕ → Bool
is_obeyed c = is_control c || is_hidden c

-- the bytes of a character stand as they are, unless a terminal obeys it; these and bytes that are none are written as hexadecimal digits
abbrev pub piece_text : Option ℕ → List ℕ → List ℕ
piece_text (Some c) bytes = cond (is_obeyed c) (flat_map hex_byte bytes) bytes
piece_text None bytes = flat_map hex_byte bytes

-- the code of a character in four hexadecimal digits
abbrev pub hex_code : ℕ → List ℕ
hex_code c = codes "\\u" ++ hex_digit (c / 4096 % 16) ∷ hex_digit (c / 256 % 16) ∷ hex_digit (c / 16 % 16) ∷ hex_digit (c % 16) ∷ []

-- the bytes of a character stand as they are, unless a terminal obeys it, which is written by its code; so do bytes that are none
abbrev pub quoted_piece : Option ℕ → List ℕ → List ℕ
quoted_piece (Some c) bytes = cond (is_obeyed c) (hex_code c) bytes
quoted_piece None bytes = bytes

-- the first character of a text, or its first bytes that are none, as these are written
abbrev pub first_text : (Option ℕ → List ℕ → List ℕ) → Decoded → List ℕ → List ℕ
first_text piece first bytes = piece first.char (take first.size bytes)

-- so many characters at most, as many as the first list is long
abbrev pub text_by : (Option ℕ → List ℕ → List ℕ) → List ℕ → List ℕ → List ℕ
text_by piece [] bytes = []
text_by piece (f ∷ fs) bytes = first_text piece (decoded bytes) bytes ++ text_by piece fs (drop (decoded bytes).size bytes)

-- bytes as a terminal is given them
unfoldable pub terminal_text : List ℕ → List ℕ
terminal_text bytes = text_by piece_text bytes bytes

-- a text of JSON in which no character stands that a terminal obeys (RFC 8259: in a string each character may be written by its code)
unfoldable pub quoted_text : List ℕ → List ℕ
quoted_text bytes = text_by quoted_piece bytes bytes

-- how many cells of a line a character takes: two if it is wide, and none if it combines with the one before it (Unicode Standard Annex #11)
abbrev pub character_cells : Option ℕ → ℕ
character_cells (Some c) = min (unwrap_or (char_width false c) 0) 2
character_cells None = 0

abbrev pub cells_by : List ℕ → List ℕ → ℕ
cells_by [] bytes = 0
cells_by (f ∷ fs) bytes = character_cells (decoded bytes).char + cells_by fs (drop (decoded bytes).size bytes)

-- how many cells of a line a text takes
unfoldable pub cells_of_text : List ℕ → ℕ
cells_of_text bytes = cells_by bytes bytes
