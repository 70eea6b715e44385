-- What the arguments of a transcript say: how many posts the queue of a watcher holds.
-- A word with no source is this project's rule.
use Rattle.std.specs.Prelude.{ℕ, ◌<◌, ◌≤◌, nat_lt, nat_le, ◌&&◌, if◌then◌else◌, List, ◌++◌, drop, Option, Some, None, IfSome, codes}
use Rattle.std.specs.List.{slice_get, filter_map}
use Rattle.mt_lines.specs.Words.{number_in_text}
use Rattle.mt_transcript.specs.Lines.{ReadLine}
use Rattle.mt_transcript.specs.Sent.{has_mark}
use Rattle.mt_transcript.specs.declared.lines.LineKind.{LineKind}
use Rattle.mt_transcript.specs.declared.lines.LineKind.TheVariants.{Arguments}

-- the most posts of a queue
abbrev pub most_queued : ℕ
most_queued = 16384

abbrev pub IsQueue : Option ℕ → Type 0
IsQueue posts = IfSome posts (λ n. (0 < n) × (n ≤ most_queued))

-- how many posts a line says, `$ --queue N`
abbrev pub if_within : ℕ → Option ℕ
if_within n = if nat_lt 0 n && nat_le n most_queued then Some n else None

abbrev pub within_by : Option ℕ → Option ℕ
within_by None = None
within_by (Some n) = if_within n

abbrev pub queue_of : List ℕ → Option ℕ
queue_of line = if has_mark (codes "$ -" ++ codes "-queue ") line then within_by (number_in_text (drop 10 line)) else None

-- how many a line says that has arguments
abbrev pub posts_by : LineKind → List ℕ → Option ℕ
posts_by Arguments text = queue_of text
posts_by kind text = None

abbrev pub queue_said : ReadLine → Option ℕ
queue_said l = posts_by l.kind l.text

-- the first one that lines say
abbrev pub queue_in : List ReadLine → Option ℕ
queue_in lines = slice_get (filter_map queue_said lines) 0
