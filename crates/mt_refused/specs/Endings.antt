-- Where the paths of a command end, by the rows alone. Every directory is taken to be there: rows do not tell which are.
-- A word with no source is this project's rule.
use Rattle.std.specs.Prelude.{ℕ, cond, List, Option}
use Rattle.std.specs.Option.{option_and_then, option_map, option_or}
use Rattle.mt_book.specs.declared.command.Command.{Command}
use Rattle.mt_reach.specs.declared.row.SeenRow.{SeenRow}
use Rattle.mt_reach.specs.Walking.{root_row, end_of, stack_end_of, directory_at}
use Rattle.mt_refused.specs.declared.asked.Which.{Which}
use Rattle.mt_refused.specs.declared.asked.Which.TheVariants.{First}
use Rattle.mt_refused.specs.declared.ending.Ending.{Ending}
use Rattle.mt_refused.specs.Asked.{asked_space, asked_tree, asked_path, is_detach}

-- the mount on which a path ends, which for a detach is the topmost one there (umount2(2): the topmost mount)
abbrev pub end_of_path : List SeenRow → Command → ℕ → List (List ℕ) → Option SeenRow
end_of_path rows c n path = cond (is_detach c) (stack_end_of rows n path) (end_of rows n path)

-- where a path of a command ends: the mount and the directory, if there are both a path and a table
abbrev pub place_ended : List SeenRow → Command → Which → Option Ending
place_ended rows c which =
    option_and_then (λ n. option_and_then (λ path. option_map (λ (r : SeenRow). record { mount = r.id; directory = directory_at r path }) (end_of_path rows c n path)) (asked_path c which)) (asked_space c)

-- the mount of that
abbrev pub end_at : List SeenRow → Command → Which → Option ℕ
end_at rows c which = option_map (λ (e : Ending). e.mount) (place_ended rows c which)

-- the top of what a command moves: the root mount of a tree that is attached, or the mount where the first path ends
abbrev pub tree_root : List SeenRow → Command → Option ℕ
tree_root rows c = option_and_then (λ n. option_map (λ (r : SeenRow). r.id) (root_row rows n)) (asked_tree c)

abbrev pub moved_top : List SeenRow → Command → Option ℕ
moved_top rows c = option_or (tree_root rows c) (end_at rows c First)
