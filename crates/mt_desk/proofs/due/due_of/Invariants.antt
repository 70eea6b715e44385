use Rattle.std.proofs.Common.{◌≡◌, ◌++◌, drop}
use Rattle.std.specs.List.{flat_map}
use Rattle.std.specs.Arc.{arc_value}
use Rattle.mt_desk.specs.Sending.{due_at}
use Rattle.mt_desk.proofs.due.due_of.Given as goal

-- what was appended, and what is to come
abbrev pub invariant-posts : goal.invariant-posts
invariant-posts l =
    l.due.items ++ flat_map (λ p. flat_map (due_at (arc_value p) l.slots) l.order) (drop l.post-index l.posts) ≡ flat_map (λ p. flat_map (due_at (arc_value p) l.slots) l.order) l.posts
