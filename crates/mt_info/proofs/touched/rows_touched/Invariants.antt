use Rattle.std.proofs.Common.{◌≡◌, ◌++◌, cond, [], drop}
use Rattle.std.specs.List.{flat_map}
use Rattle.mt_mounts.specs.Forest.{subtree}
use Rattle.mt_propagate.specs.World.{world_view}
use Rattle.mt_info.specs.MayDiffer.{moves_first}
use Rattle.mt_info.proofs.touched.rows_touched.Given as goal

-- the trees of the mounts passed that moved by themselves, and of those to come
abbrev pub invariant-mounts : goal.invariant-mounts
invariant-mounts l =
    l.rows.items ++ flat_map (λ i. cond (moves_first (world_view l.before) (world_view l.after) i) (subtree l.after.forest.mounts i) []) (drop l.id-index l.touched)
    ≡ l.touched ++ flat_map (λ i. cond (moves_first (world_view l.before) (world_view l.after) i) (subtree l.after.forest.mounts i) []) l.touched
