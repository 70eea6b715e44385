-- All that is told of a refusal.
-- A word with no source is this project's rule.
use Rattle.std.specs.Prelude.{ℕ, List, ◌++◌, Option, codes}
use Rattle.std.specs.Option.{option_map}
use Rattle.mt_skel.specs.declared.fault.Fault.{Fault}
use Rattle.mt_skel.specs.Fault.{name_of}
use Rattle.mt_book.specs.declared.command.Command.{Command}
use Rattle.mt_reach.specs.declared.row.SeenRow.{SeenRow}
use Rattle.mt_refused.specs.declared.hindrance.Hindrance.{Hindrance}
use Rattle.mt_refused.specs.Titles.{TitlesView}
use Rattle.mt_refused.specs.Pages.{PageView}
use Rattle.mt_refused.specs.Hindrances.{hindrance_of}
use Rattle.mt_refused.specs.Witnesses.{witnesses}
use Rattle.mt_refused.specs.Sentences.{sentence}
use Rattle.mt_refused.specs.Listings.{listed_rows}
use Rattle.mt_refused.specs.Remedies.{remedies}

-- the refusal, and what is in the way
abbrev pub hindrance_line : PageView → Fault → Hindrance → List ℕ
hindrance_line v refusal why = name_of refusal ++ (codes ": " ++ (sentence v why ++ codes "\n"))

-- the rows of the mounts that are named
abbrev pub witness_lines : PageView → Hindrance → List ℕ
witness_lines v why = listed_rows v (witnesses v.rows v.command why)

-- the refusal and what is in the way, the rows of the mounts that are named, and what would change it
abbrev pub hindrance_text : PageView → Fault → Hindrance → List ℕ
hindrance_text v refusal why = hindrance_line v refusal why ++ (witness_lines v why ++ remedies v why)

-- what is told of a command that is refused so, by the rows of the tables; nothing where they say no such thing of it
abbrev pub refused_text : List SeenRow → TitlesView → Command → Fault → Option (List ℕ)
refused_text rows names c refusal = option_map (hindrance_text (record { rows = rows; titles = names; command = c }) refusal) (hindrance_of rows c refusal)
