use Rattle.std.proofs.Common.{◌≡◌, ℕ, ◌||◌, drop}
use Rattle.mt_skel.specs.Keyed.{among}
use Rattle.mt_propagate.specs.World.{world_view}
use Rattle.mt_book.specs.Parts.{is_touched}
use Rattle.mt_book.proofs.parts.spaces_touched.Given as goal

-- the namespaces of the mounts passed, and of those to come
abbrev pub invariant-mounts : goal.invariant-mounts
invariant-mounts l =
    (n : ℕ)
    → (among l.spaces.items n || is_touched (world_view l.old) (world_view l.new) (drop l.id-index l.ids) n) ≡ is_touched (world_view l.old) (world_view l.new) l.ids n
