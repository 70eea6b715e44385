use Rattle.std.proofs.Common.{◌≡◌, ◌+◌, ◌≤◌, take, length}
use Rattle.mt_lists.specs.Numbered.{rows_by}
use Rattle.mt_render.specs.Placed.{at_places, own_place, own_group}
use Rattle.mt_render.proofs.groups.enter_groups.Given as goal

-- the mounts that came are listed, and there is room for the others
abbrev pub invariant-nodes : goal.invariant-nodes
invariant-nodes l = record {
  told : l.members.rows ≡ rows_by own_place own_group (take l.at (at_places 0 l.nodes));
  room : length l.nodes ≤ l.members.room + l.at;
}
