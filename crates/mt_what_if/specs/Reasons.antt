-- Why a line is refused.
-- A word with no source is this project's rule.
use Rattle.std.specs.Prelude.{ℕ, List, [], ◌∷◌, Option, None, Some, map, unwrap_or}
use Rattle.std.specs.Option.{option_and_then}
use Rattle.mt_skel.specs.declared.fault.Fault.{Fault}
use Rattle.mt_propagate.specs.World.{WorldView}
use Rattle.mt_book.specs.declared.command.Command.{Command}
use Rattle.mt_reach.specs.Seen.{seen_rows}
use Rattle.mt_refused.specs.Texts.{refused_text}
use Rattle.mt_refused.specs.Titles.{TitlesView}
use Rattle.mt_what_if.specs.KnownSpaces.{TitledSpace}
use Rattle.mt_what_if.specs.Naming.{numbers_of}
use Rattle.mt_what_if.specs.Trials.{TrialView, world_after}
use Rattle.mt_what_if.specs.declared.trying.Outcome.{Outcome}
use Rattle.mt_what_if.specs.declared.trying.Outcome.TheVariants.{Done, Refused}

-- the namespaces of tables by their names, and the mounts and peer groups that a world had from its beginning by their numbers
abbrev pub titles_told : List TitledSpace → WorldView → TitlesView
titles_told names w =
    record { spaces = map (λ (s : TitledSpace). s.name) names; last_mount = (numbers_of w).mounts; last_group = (numbers_of w).groups }

-- the command for which a line is refused
abbrev pub command_refused : List Command → Option Command
command_refused [] = None
command_refused (c ∷ cs) = Some c

-- what is told of it: why it is refused so, by the rows of all namespaces in the world before it (mt_refused); nothing, where they say no such thing
abbrev pub reason_by : List TitledSpace → TrialView → Fault → Command → Option (List ℕ)
reason_by names t fault c = refused_text (seen_rows (world_after t)) (titles_told names t.start) c fault

abbrev pub reason_known : List TitledSpace → TrialView → Fault → Option (List ℕ)
reason_known names t fault = option_and_then (reason_by names t fault) (command_refused t.refused)

unfoldable pub reason_told : List TitledSpace → TrialView → Outcome → List ℕ
reason_told names t Done = []
reason_told names t (Refused fault) = unwrap_or (reason_known names t fault) []
