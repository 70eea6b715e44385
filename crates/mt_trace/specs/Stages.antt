-- The world that calls are played on, and the commands that are tried on it.
-- A word with no source is this project's rule.
use Rattle.std.specs.Prelude.{◌≡◌, ◌≢◌, List, [], ◌∷◌, Option, None, Some, Result, Ok, Err}
use Rattle.mt_skel.specs.declared.fault.Fault.{Fault}
use Rattle.mt_skel.specs.declared.fault.Fault.TheVariants.{NoMemory}
use Rattle.mt_propagate.specs.World.{WorldView, world_view}
use Rattle.mt_propagate.specs.WellFormed.{IsWellFormed}
use Rattle.mt_propagate.specs.Touched.{SinceView, since_of, since_view}
use Rattle.mt_book.specs.declared.command.Command.{Command}
use Rattle.mt_book.specs.declared.command.Reply.{Reply}
use Rattle.mt_book.specs.Attempts.{tried}
use Rattle.mt_trace.specs.declared.stage.Attempt.{Attempt}
use Rattle.mt_trace.specs.declared.stage.Attempt.TheVariants.{Changed, Refused}
use Rattle.mt_trace.specs.declared.stage.Spare.{Spare}
use Rattle.mt_trace.specs.declared.stage.Spare.TheVariants.{Gone, Level, Behind}

-- the world after a command, which is as before where the command is refused
abbrev pub world_after_trial : WorldView → Result (WorldView × Reply) Fault → WorldView
world_after_trial w (Ok (v, reply)) = v
world_after_trial w (Err fault) = w

abbrev pub all_tried : WorldView → List Command → WorldView
all_tried w [] = w
all_tried w (c ∷ cs) = all_tried (world_after_trial w (tried w c)) cs

-- why a command is refused, if it is
abbrev pub why_refused : Result (WorldView × Reply) Fault → Option Fault
why_refused (Ok done) = None
why_refused (Err fault) = Some fault

-- a command was done on a world, and what it changed is noted; or it was refused, with the world as it was
abbrev pub IsAttempt : WorldView → Command → Attempt → Type 0
IsAttempt w c (Changed v r) = (tried w c ≡ Ok (world_view v.value, r)) × IsWellFormed (world_view v.value) × (since_view v.value ≡ since_of w)
IsAttempt w c (Refused v f) = (world_view v.value ≡ w) × (f ≢ NoMemory → tried w c ≡ Err f)

-- a spare world is equal to the one that is shown, or lacks the last command: then the shown one has noted what that changed
abbrev pub IsSpareWorld : WorldView → SinceView → Spare → Type 0
IsSpareWorld w noted Gone = Unit {0}
IsSpareWorld w noted (Level v) = world_view v.value ≡ w
IsSpareWorld w noted (Behind v) = IsWellFormed (world_view v.value) × (noted ≡ since_of (world_view v.value)) × (w.skel ≡ (world_view v.value).skel)

-- what is always true of a stage
pub record IsStage (w : WorldView) (noted : SinceView) (spare : Spare) : Type 0 where
  pub world : IsWellFormed w
  pub lags : IsSpareWorld w noted spare
