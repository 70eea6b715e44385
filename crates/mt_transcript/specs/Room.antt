-- What the arguments of a transcript say: which room the server has.
-- A word with no source is this project's rule.
use Rattle.std.specs.Prelude.{ℕ, ◌<◌, ◌≤◌, nat_lt, nat_le, ◌&&◌, if◌then◌else◌, List, ◌++◌, drop, Option, Some, None, IfSome, codes}
use Rattle.std.specs.List.{slice_get, filter_map}
use Rattle.mt_lines.specs.Words.{number_in_text}
use Rattle.mt_transcript.specs.Lines.{ReadLine}
use Rattle.mt_transcript.specs.Sent.{has_mark}
use Rattle.mt_transcript.specs.declared.lines.LineKind.{LineKind}
use Rattle.mt_transcript.specs.declared.lines.LineKind.TheVariants.{Arguments}

-- the greatest room
abbrev pub most_room : ℕ
most_room = 256

abbrev pub IsRoom : Option ℕ → Type 0
IsRoom room = IfSome room (λ n. (0 < n) × (n ≤ most_room))

-- which room a line says, `$ --room N`
abbrev pub if_room : ℕ → Option ℕ
if_room n = if nat_lt 0 n && nat_le n most_room then Some n else None

abbrev pub room_by : Option ℕ → Option ℕ
room_by None = None
room_by (Some n) = if_room n

abbrev pub room_written : List ℕ → Option ℕ
room_written line = if has_mark (codes "$ -" ++ codes "-room ") line then room_by (number_in_text (drop 9 line)) else None

-- which one a line says that has arguments
abbrev pub written_by : LineKind → List ℕ → Option ℕ
written_by Arguments text = room_written text
written_by kind text = None

abbrev pub room_said : ReadLine → Option ℕ
room_said l = written_by l.kind l.text

-- the first one that lines say
abbrev pub room_in : List ReadLine → Option ℕ
room_in lines = slice_get (filter_map room_said lines) 0
