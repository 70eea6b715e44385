use Rattle.std.proofs.Common.{◌≡◌, ◌<◌, length}
use Rattle.mt_skel.specs.Skeleton.{holds}
use Rattle.mt_skel.proofs.skel.Skel.holds.Given as goal

abbrev pub invariant-up : goal.invariant-up
invariant-up l = record {
  there : l.here < length l.self-inside.nodes.items;
  same : holds l.self l.outer l.here ≡ holds l.self l.outer l.inner;
}

abbrev pub decreases-up : goal.decreases-up
decreases-up l = l.here
