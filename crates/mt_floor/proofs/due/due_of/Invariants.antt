use Rattle.std.proofs.Common.{◌≡◌, ◌++◌, drop}
use Rattle.std.specs.List.{flat_map}
use Rattle.std.specs.Arc.{arc_value}
use Rattle.mt_floor.specs.Rows.{due_if}
use Rattle.mt_floor.proofs.due.due_of.Given as goal

-- what was appended, and what is to come
abbrev pub invariant-posts : goal.invariant-posts
invariant-posts l =
    l.due.items ++ flat_map (λ p. flat_map (due_if (arc_value p)) l.rows) (drop l.post-index l.posts) ≡ flat_map (λ p. flat_map (due_if (arc_value p)) l.rows) l.posts
