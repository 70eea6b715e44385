-- A line of a trace that is played: told and counted once.
-- A word with no source is this project's rule.
use Rattle.std.specs.Prelude.{ℕ, ◌≡◌, List}
use Rattle.mt_strace.specs.declared.line.StraceLine.{StraceLine}
use Rattle.mt_trace.specs.Counting.{IsTallied, IsBeginnerCounted, line_counting, line_ended, line_trouble, bad_if, beginner_of, early_after_read}
use Rattle.mt_trace.specs.Joining.{joined_line}
use Rattle.mt_trace.specs.Players.{PlayerView, IsSameSetting}
use Rattle.mt_trace.specs.Telling.{IsAppended, IsLineTold}

-- a line: first its process is entered, if it is a child that was not met; then what the line ends is told and counted
pub record IsLinePlayed (number : ℕ) (read : StraceLine) (before after : PlayerView) (old new : List ℕ) : Type 0 where
  pub entered : PlayerView
  pub between : List ℕ
  pub beginner : IsBeginnerCounted (beginner_of read) before.early before.tally entered.early entered.tally
  pub setting : IsSameSetting before entered
  pub kept : IsAppended old between
  pub told : IsLineTold entered number (line_ended read (joined_line read before.waiting).0) between new
  pub counted : IsTallied (line_counting (line_ended read (joined_line read before.waiting).0) entered.early) (bad_if (line_trouble read (joined_line read before.waiting).0) entered.tally) after.tally
  pub early : after.early ≡ early_after_read (line_ended read (joined_line read before.waiting).0) entered.early
