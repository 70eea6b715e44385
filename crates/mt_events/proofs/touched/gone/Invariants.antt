use Rattle.std.proofs.Common.{◌≡◌, ◌++◌, ◌&&◌, drop, not}
use Rattle.std.specs.List.{filter}
use Rattle.mt_skel.specs.Keyed.{has}
use Rattle.mt_propagate.specs.World.{world_view}
use Rattle.mt_info.specs.Table.{row_id, table_of}
use Rattle.mt_events.proofs.touched.gone.Given as goal

-- those of the mounts passed, and of those to come
abbrev pub invariant-mounts : goal.invariant-mounts
invariant-mounts l =
    l.ids.items ++ filter (λ i. has row_id i (table_of (world_view l.before) l.space) && not (has row_id i (table_of (world_view l.after) l.space))) (drop l.id-index l.touched)
    ≡ filter (λ i. has row_id i (table_of (world_view l.before) l.space) && not (has row_id i (table_of (world_view l.after) l.space))) l.touched
