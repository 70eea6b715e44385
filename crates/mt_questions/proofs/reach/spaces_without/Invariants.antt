use Rattle.std.proofs.Common.{◌≡◌, ◌++◌, map, drop}
use Rattle.std.specs.List.{filter}
use Rattle.mt_questions.specs.Reach.{is_without, number_of_space}
use Rattle.mt_questions.proofs.reach.spaces_without.Given as goal

-- those of the namespaces passed, and of those to come
abbrev pub invariant-names : goal.invariant-names
invariant-names l =
    l.without.items ++ map number_of_space (filter (is_without l.rows l.directory) (drop l.name-index l.names)) ≡ map number_of_space (filter (is_without l.rows l.directory) l.names)
