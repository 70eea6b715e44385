-- Which lines of a transcript do not stand where they may.
-- A word with no source is this project's rule.
use Rattle.std.specs.Prelude.{ℕ, ◌+◌, Bool, true, false, not, ◌||◌, ◌&&◌, List, [], ◌∷◌, length, take, drop, Option, Some, None, codes}
use Rattle.std.specs.List.{slice_get, list_any, find, filter_map, range_with_len, last_or}
use Rattle.std.specs.Option.{is_none, option_map, option_map_or}
use Rattle.mt_transcript.specs.Lines.{ReadLine}
use Rattle.mt_transcript.specs.Queue.{queue_of}
use Rattle.mt_transcript.specs.Room.{room_written}
use Rattle.mt_transcript.specs.Sent.{bytes_sent, ends_input}
use Rattle.mt_transcript.specs.declared.lines.LineKind.{LineKind}
use Rattle.mt_transcript.specs.declared.lines.LineKind.TheVariants.{Nothing, Comment, Arguments, Sent, Answer}
use Rattle.mt_transcript.specs.declared.misplaced.Above.{Above}
use Rattle.mt_transcript.specs.declared.misplaced.Misplaced.{Misplaced}
use Rattle.mt_transcript.specs.declared.misplaced.Why.{Why}
use Rattle.mt_transcript.specs.declared.misplaced.Why.TheVariants as why

-- what is wrong, in words
abbrev pub sentence_of : Why → List ℕ
sentence_of why.Unended = codes "the last line has no end"
sentence_of why.Empty = codes "an empty line"
sentence_of why.Unread = codes "no input line: it is > TEXT, >. TEXT, or >* TEXT with {N WORD}"
sentence_of why.Behind = codes "an input line behind one without end"
sentence_of why.Lost = codes "an answer below no input line"
sentence_of why.Arguments = codes "no arguments of a session: they are --queue N, from 1 to 16384, or --room N, from 1 to 256"
sentence_of why.Place = codes "arguments that are not right above the first input line"

-- what a line is
abbrev pub is_sent : LineKind → Bool
is_sent Sent = true
is_sent kind = false

-- whether an answer may stand right below a line: below an input line, and below another line of an answer
abbrev pub takes_answer : LineKind → Bool
takes_answer Sent = true
takes_answer Answer = true
takes_answer kind = false

-- what the lines above one say of it: whether the last of them takes an answer, whether one is sent, whether one ends the input
abbrev pub said_above : List ReadLine → Above
said_above lines = record {
  takes_answer = option_map_or (λ l. takes_answer l.kind) (last_or None lines) false;
  is_sent = list_any (λ l. is_sent l.kind) lines;
  ends = list_any (λ l. ends_input l.text) lines;
}

-- what may be wrong with a line, by what it is, below lines that say this, and right above one of this kind: each reason, and
-- whether it is so
abbrev pub arguments_wrongs : List ℕ → Above → LineKind → List (Why × Bool)
arguments_wrongs text a below = (why.Arguments, is_none (queue_of text) && is_none (room_written text)) ∷ (why.Place, a.is_sent || not (is_sent below)) ∷ []

abbrev pub sent_wrongs : List ℕ → Above → List (Why × Bool)
sent_wrongs text a = (why.Behind, a.ends) ∷ (why.Unread, is_none (bytes_sent text)) ∷ []

abbrev pub answer_wrongs : Above → List (Why × Bool)
answer_wrongs a = (why.Lost, not a.takes_answer) ∷ []

abbrev pub wrongs : LineKind → List ℕ → Above → LineKind → List (Why × Bool)
wrongs Nothing text a below = (why.Empty, true) ∷ []
wrongs Comment text a below = []
wrongs Arguments text a below = arguments_wrongs text a below
wrongs Sent text a below = sent_wrongs text a
wrongs Answer text a below = answer_wrongs a

-- the first reason that is so
abbrev pub first_so : List (Why × Bool) → Option Why
first_so reasons = option_map (λ (r : Why × Bool). r.0) (find (λ (r : Why × Bool). r.1) reasons)

-- why the first of these lines may not stand there: the last one is what stands behind the last line end, which is nothing
abbrev pub unended : List ℕ → Option Why
unended [] = None
unended (b ∷ bs) = Some why.Unended

abbrev pub why_not : Above → List ReadLine → Option Why
why_not a [] = None
why_not a (last ∷ []) = unended last.text
why_not a (line ∷ below ∷ lines) = first_so (wrongs line.kind line.text a below.kind)

-- the line below the first n lines, if it may not stand there, by its number from 1
abbrev pub misplaced_at : List ReadLine → ℕ → Option Misplaced
misplaced_at lines n = option_map (λ why. record { number = n + 1; why = why }) (why_not (said_above (take n lines)) (drop n lines))

-- the first of all lines that may not stand where they do
abbrev pub misplaced_in : List ReadLine → Option Misplaced
misplaced_in lines = slice_get (filter_map (misplaced_at lines) (range_with_len 0 (length lines))) 0
