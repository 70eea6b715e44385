-- What a session of the program's own answers, and what is printed of a line of a transcript that is played.
-- A word with no source is this project's rule.
use Rattle.std.specs.Prelude.{◌≡◌, ℕ, Bool, if◌then◌else◌, List, [], Option, Some, None, bytes_eq}
use Rattle.std.specs.Option.{is_none}
use Rattle.std.specs.Io.KnownBytes.{Appends}
use Rattle.mt_floor.specs.Schedule.{FloorView}
use Rattle.mt_session.specs.Answering.{ServesNext}
use Rattle.mt_session.specs.Serving.{OnFloor}
use Rattle.mt_session.specs.declared.serving.End.{End}
use Rattle.mt_transcript.specs.Sent.{bytes_sent}
use Rattle.mt_transcript.specs.Told.{played_text}
use Rattle.mountctl.specs.declared.kept.Kept.{Kept}
use Rattle.mountctl.specs.declared.play.Played.{Played}

-- what was kept of an answer
abbrev pub kept_text : Kept → List ℕ
kept_text k = k.text.items

-- a plain session on a floor was served one line of these bytes: this is all that it wrote, and whether it goes on
abbrev pub IsServedAlone : List ℕ → FloorView × Option ℕ → List ℕ → Bool → FloorView × Option ℕ → Type 0
IsServedAlone sent s answer goes_on s' = (end : Option End) × (later : Option (List ℕ)) × (goes_on ≡ is_none end) × ServesNext OnFloor (Some sent) s (Some []) end later s' (Some answer)

-- what an input line sends, if its session goes on
abbrev pub sent_while : List ℕ → Bool → Option (List ℕ)
sent_while line goes_on = if goes_on then bytes_sent line else None

-- what is sent is answered so; where nothing is, nothing is answered, and all is as it was
abbrev pub IsSentAnswered : Option (List ℕ) → Bool → FloorView × Option ℕ → List ℕ → Bool → FloorView × Option ℕ → Type 0
IsSentAnswered (Some sent) before s answer goes_on s' = IsServedAlone sent s answer goes_on s'
IsSentAnswered None before s answer goes_on s' = (answer ≡ []) × (goes_on ≡ before) × (s' ≡ s)

-- an input line was played, below which this answer is told: it is printed with the answer that came, and with the one that is told where
-- that is another one
abbrev pub IsPlayed : List ℕ → List ℕ → Bool → FloorView × Option ℕ → Option (List ℕ) → Played → FloorView × Option ℕ → Option (List ℕ) → Type 0
IsPlayed line told before s out played s' printed =
    (answer : List ℕ) × IsSentAnswered (sent_while line before) before s answer played.goes_on s' × (played.is_alike ≡ bytes_eq answer told)
    × Appends out printed (played_text line answer told)
