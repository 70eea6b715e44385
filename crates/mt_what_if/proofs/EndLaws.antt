-- Where paths end.
use Rattle.std.proofs.Common.{◌≡◌, ℕ, List, true, Ok}
use Rattle.mt_skel.specs.Skeleton.{is_directory}
use Rattle.mt_skel.proofs.MiddleLaws.{and_first}
use Rattle.mt_mounts.specs.declared.mount.Place.{Place}
use Rattle.mt_mounts.specs.Walk.{walk}
use Rattle.mt_propagate.specs.World.{WorldView}
use Rattle.mt_propagate.specs.WellFormed.{IsWellFormed}
use Rattle.mt_propagate.proofs.WalkLaws.{walked}

-- a walk ends at a directory
pub walk_there : (w : WorldView) (n : ℕ) (path : List (List ℕ)) (p : Place) → IsWellFormed w → walk w.skel w.forest n path ≡ Ok p → is_directory w.skel p.dir ≡ true
walk_there w n path p h e = let q = (walked w n h path p e).0 in and_first _ _ (and_first _ _ q.3)
