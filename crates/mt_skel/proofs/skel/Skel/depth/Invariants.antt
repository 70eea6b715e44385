use Rattle.std.proofs.Common.{◌≡◌, ◌+◌, ◌<◌, ◌≤◌, length}
use Rattle.mt_skel.specs.Skeleton.{directory}
use Rattle.mt_skel.proofs.skel.Skel.depth.Given as goal

-- each step goes to a lower number, so the count stays within them
abbrev pub invariant-up : goal.invariant-up
invariant-up l = record {
  there : l.here < length l.self-inside.nodes.items;
  low : l.here + l.depth ≤ l.dir;
  counted : length (directory l.self l.here).path + l.depth ≡ length (directory l.self l.dir).path;
}

abbrev pub decreases-up : goal.decreases-up
decreases-up l = l.here
