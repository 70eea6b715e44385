use Rattle.std.proofs.Common.{◌≡◌, ◌++◌, ◌<◌, drop, length}
use Rattle.std.specs.List.{flat_map, AllByRecursion}
use Rattle.std.specs.Arc.{arc_value}
use Rattle.mt_desk.specs.Sending.{due_at}
use Rattle.mt_desk.proofs.due.push_post.Given as goal

-- what was appended, and what is to come
abbrev pub invariant-places : goal.invariant-places
invariant-places l = record {
  due : l.due.items ++ flat_map (due_at (arc_value l.post) l.slots) (drop l.place-index l.order) ≡ l.initial.due.items ++ flat_map (due_at (arc_value l.post) l.slots) l.order;
  places : AllByRecursion (λ place. place < length l.slots) (drop l.place-index l.order);
}
