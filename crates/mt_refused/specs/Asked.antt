-- The namespace and the paths of a command.
-- A word with no source is this project's rule.
use Rattle.std.specs.Prelude.{ℕ, Bool, true, false, List, [], Option, Some, None, codes}
use Rattle.mt_book.specs.declared.command.Command.{Command}
use Rattle.mt_book.specs.declared.command.Command.TheVariants as command
use Rattle.mt_refused.specs.declared.asked.Which.{Which}
use Rattle.mt_refused.specs.declared.asked.Which.TheVariants.{First, Second}

-- its namespace, in which its paths are looked up, if it has one
abbrev pub asked_space : Command → Option ℕ
asked_space (command.CopySpace n privilege) = Some n
asked_space (command.DropSpace n) = Some n
asked_space (command.Mount n fs path) = Some n
asked_space (command.MountWith n fs path set) = Some n
asked_space (command.Bind n src dst recursive) = Some n
asked_space (command.Move n src dst) = Some n
asked_space (command.Pivot n new old) = Some n
asked_space (command.Unmount n path) = Some n
asked_space (command.Detach n path) = Some n
asked_space (command.SetAttr n path change) = Some n
asked_space (command.OpenTree n path recursive) = Some n
asked_space (command.MoveTree tree n path) = Some n
asked_space c = None

-- the namespace that it attaches, if it does that
abbrev pub asked_tree : Command → Option ℕ
asked_tree (command.MoveTree tree n path) = Some tree
asked_tree c = None

-- its only path in a namespace, or the first of two
abbrev pub first_path : Command → Option (List (List ℕ))
first_path (command.Mount n fs path) = Some path
first_path (command.MountWith n fs path set) = Some path
first_path (command.Bind n src dst recursive) = Some src
first_path (command.Move n src dst) = Some src
first_path (command.Pivot n new old) = Some new
first_path (command.Unmount n path) = Some path
first_path (command.Detach n path) = Some path
first_path (command.SetAttr n path change) = Some path
first_path (command.OpenTree n path recursive) = Some path
first_path c = None

-- the second of two, or that of a tree that is attached
abbrev pub second_path : Command → Option (List (List ℕ))
second_path (command.Bind n src dst recursive) = Some dst
second_path (command.Move n src dst) = Some dst
second_path (command.Pivot n new old) = Some old
second_path (command.MoveTree tree n path) = Some path
second_path c = None

abbrev pub asked_path : Command → Which → Option (List (List ℕ))
asked_path c First = first_path c
asked_path c Second = second_path c

-- it copies what is at its first path, which may be any directory
abbrev pub copies_mounts : Command → Bool
copies_mounts (command.Bind n src dst recursive) = true
copies_mounts (command.OpenTree n path recursive) = true
copies_mounts c = false

abbrev pub is_pivot : Command → Bool
is_pivot (command.Pivot n new old) = true
is_pivot c = false

abbrev pub is_detach : Command → Bool
is_detach (command.Detach n path) = true
is_detach c = false

-- a command takes mounts away
abbrev pub takes_mounts : Command → Bool
takes_mounts (command.Unmount n path) = true
takes_mounts (command.Detach n path) = true
takes_mounts c = false

-- it changes attributes or propagation, of a root mount too
abbrev pub is_set : Command → Bool
is_set (command.SetAttr n path change) = true
is_set c = false

-- it is of a whole tree
abbrev pub is_of_tree : Command → Bool
is_of_tree (command.Bind n src dst recursive) = recursive
is_of_tree (command.OpenTree n path recursive) = recursive
is_of_tree (command.SetAttr n path change) = change.recursive
is_of_tree c = false

-- one of two names
abbrev pub either : Which → List ℕ → List ℕ → List ℕ
either First first second = first
either Second first second = second

-- what a path is called where there are two (the lines of a session: this project's rule)
abbrev pub path_name : Command → Which → List ℕ
path_name (command.Bind n src dst recursive) which = either which (codes "SRC, ") (codes "DST, ")
path_name (command.Move n src dst) which = either which (codes "SRC, ") (codes "DST, ")
path_name (command.Pivot n new old) which = either which (codes "NEW, ") (codes "OLD, ")
path_name c which = []
