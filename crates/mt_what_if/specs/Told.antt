-- What changes from one world to another one, as JSON.
-- A word with no source is this project's rule.
use Rattle.std.specs.Prelude.{ℕ, List, []}
use Rattle.std.specs.List.{flat_map}
use Rattle.std.specs.Option.{option_map_or}
use Rattle.mt_propagate.specs.World.{WorldView}
use Rattle.mt_info.specs.declared.row.Row.{Row}
use Rattle.mt_events.specs.Difference.{difference, some_change}
use Rattle.mt_events.specs.declared.post.Delta.{Delta}
use Rattle.mt_render.specs.Events.{told_as}
use Rattle.mt_render.specs.declared.telling.Telling.TheVariants.{Json}
use Rattle.mt_what_if.specs.KnownSpaces.{TitledSpace}
use Rattle.mt_what_if.specs.Difference.{rows_if_there}

-- the difference of two tables, as a post that tells it
abbrev pub told_delta : ℕ → List ℕ → List Row → Delta → List ℕ
told_delta n name before d =
    told_as Json name (record { space = n; number = 0; rows = before }) (record { space = n; number = 1; gone = d.gone; rows = d.rows })

abbrev pub table_events : ℕ → List ℕ → List Row → List Row → List ℕ
table_events n name before after = option_map_or (told_delta n name before) (some_change (difference before after)) []

-- what changes in a namespace, and in each of several
abbrev pub events_between : WorldView → WorldView → TitledSpace → List ℕ
events_between w v s = table_events s.number s.name (rows_if_there w s.number) (rows_if_there v s.number)

unfoldable pub events_text : WorldView → WorldView → List TitledSpace → List ℕ
events_text w v spaces = flat_map (events_between w v) spaces
