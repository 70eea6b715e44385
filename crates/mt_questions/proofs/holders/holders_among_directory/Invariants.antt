use Rattle.std.proofs.Common.{◌≡◌, ◌++◌, map, drop}
use Rattle.std.specs.List.{filter}
use Rattle.mt_questions.specs.Holders.{holder_of, shows_part_of}
use Rattle.mt_questions.proofs.holders.holders_among_directory.Given as goal

-- those of the mounts passed, and of those to come
abbrev pub invariant-all : goal.invariant-all
invariant-all l =
    l.holders.items ++ map (holder_of l.rows) (filter (shows_part_of l.directory) (map (λ row. row.now) (drop l.row-index l.all))) ≡ map (holder_of l.rows) (filter (shows_part_of l.directory) (map (λ row. row.now) l.all))
