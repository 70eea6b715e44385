-- What is told of.
-- A word with no source is this project's rule.
use Rattle.std.specs.Prelude.{List}
use Rattle.mt_book.specs.declared.command.Command.{Command}
use Rattle.mt_reach.specs.declared.row.SeenRow.{SeenRow}
use Rattle.mt_refused.specs.Titles.{TitlesView}

-- the rows of all tables, what namespaces are called, and the command that is refused
pub record PageView : Type 0 where
  pub rows : List SeenRow
  pub titles : TitlesView
  pub command : Command
