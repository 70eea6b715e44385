use Rattle.std.proofs.Common.{◌≡◌, ◌<◌, ◌++◌, length, reverse}
use Rattle.mt_skel.specs.Skeleton.{directory}
use Rattle.mt_skel.proofs.skel.Skel.path_of.Given as goal

abbrev pub invariant-up : goal.invariant-up
invariant-up l = record {
  there : l.here < length l.self-inside.nodes.items;
  joined : (directory l.self l.here).path ++ reverse l.path.items ≡ (directory l.self l.dir).path;
}

abbrev pub decreases-up : goal.decreases-up
decreases-up l = l.here
