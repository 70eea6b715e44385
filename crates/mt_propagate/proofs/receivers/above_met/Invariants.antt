use Rattle.std.proofs.Common.{◌≡◌, ℕ, suc, ◌+◌, ◌-◌, ◌&&◌, take, length}
use Rattle.mt_skel.specs.Counted.{count, occ}
use Rattle.mt_peers.specs.Entered.{other_at}
use Rattle.mt_peers.proofs.WorklistLaws.{IsWorklist, led_by}
use Rattle.mt_propagate.specs.World.{world_view}
use Rattle.mt_propagate.specs.Targets.{is_target}
use Rattle.mt_propagate.proofs.receivers.above_met.Given as goal

-- the slaves of the groups visited were gone over, and with them the targets found and the looks counted
abbrev pub invariant-groups : goal.invariant-groups
invariant-groups l = record {
  work : IsWorklist l.world.peers.peers l.group (take l.visited l.groups.items) l.groups.items;
  ids : (q : ℕ) → occ q l.ids.items ≡ occ q l.initial.ids.items + count (λ e. led_by (take l.visited l.groups.items) e && other_at (is_target (world_view l.world) l.place) l.group q e) l.world.peers.peers;
  looks : l.looks ≡ l.initial.looks + count (led_by (take l.visited l.groups.items)) l.world.peers.peers;
}

abbrev pub decreases-groups : goal.decreases-groups
decreases-groups l = suc (length l.world.peers.peers) - l.visited
