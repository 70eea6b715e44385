-- What is true of every command by its type.
-- A word with no source is this project's rule.
use Rattle.std.specs.Prelude.{IsTrue}
use Rattle.std.specs.List.{list_all}
use Rattle.mt_skel.specs.Names.{is_label, is_name}
use Rattle.mt_book.specs.declared.command.Command.{Command}
use Rattle.mt_book.specs.declared.command.Command.TheVariants.{MakeFs, MakeDir}

-- what tables show of a command's texts are labels and names
abbrev pub IsCommand : Command → Type 0
IsCommand (MakeFs name kind source) = IsTrue (is_label kind) × IsTrue (is_label source)
IsCommand (MakeDir fs path) = IsTrue (list_all is_name path)
IsCommand c = Unit {0}
