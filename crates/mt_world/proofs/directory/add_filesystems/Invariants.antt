use Rattle.std.proofs.Common.{◌≡◌, take}
use Rattle.mt_skel.specs.Skeleton.{IsSkeleton}
use Rattle.mt_info.specs.Laws.{Grows}
use Rattle.mt_world.specs.Kept.{HaveFilesystems}
use Rattle.mt_world.proofs.directory.add_filesystems.Given as goal

-- the skeleton is in order, has grown, and has the same room
abbrev pub invariant-rows : goal.invariant-rows
invariant-rows l = record {
  skeleton : IsSkeleton l.skel;
  grown : Grows l.initial.skel l.skel;
  room : l.skel.room ≡ l.initial.skel.room;
  named : HaveFilesystems l.skel (take l.row-index l.rows);
}
