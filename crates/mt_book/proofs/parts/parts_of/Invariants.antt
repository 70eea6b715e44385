use Rattle.std.proofs.Common.{◌≡◌, ℕ, ◌<◌, ◌++◌, drop, length}
use Rattle.std.specs.List.{filter}
use Rattle.mt_propagate.specs.World.{world_view}
use Rattle.mt_book.specs.Parts.{is_part, part_at, space_at}
use Rattle.mt_book.proofs.parts.parts_of.Given as goal

-- the parts have the mounts passed, and those to come are left
abbrev pub invariant-mounts : goal.invariant-mounts
invariant-mounts l = record {
  len : length l.parts.items ≡ length l.numbers;
  parts : (k : ℕ) → k < length l.numbers
      → part_at l.parts.items k ++ filter (is_part (world_view l.old) (world_view l.new) (space_at l.numbers k)) (drop l.id-index l.ids) ≡ filter (is_part (world_view l.old) (world_view l.new) (space_at l.numbers k)) l.ids;
}
