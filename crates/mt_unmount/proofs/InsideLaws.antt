-- Where an unmount or a detach was accepted, a contained family of namespaces stays contained, and one in it changes nothing
-- outside.
use Rattle.std.proofs.Common.{◌≡◌, ℕ, Bool, true, List, Ok}
use Rattle.mt_propagate.specs.World.{WorldView}
use Rattle.mt_propagate.specs.WellFormed.{IsWellFormed}
use Rattle.mt_propagate.specs.Contained.{IsContained, IsSameOutside}
use Rattle.mt_unmount.specs.Unmounting.{unmounted}
use Rattle.mt_unmount.specs.Detaching.{detached}
use Rattle.mt_unmount.proofs.DetachedLaws.{detached-takes}
use Rattle.mt_unmount.proofs.LeftLaws.{takes-contained, takes-outside}
use Rattle.mt_unmount.proofs.UnmountLaws.{unmounted-takes}

-- a contained family stays so through an unmount, and if this is done in one, nothing changes outside it
pub unmounted-contained : (family : ℕ → Bool) (w : WorldView) (n : ℕ) (path : List (List ℕ)) (v : WorldView) → IsWellFormed w → IsContained family w → unmounted w n path ≡ Ok v → IsContained family v
unmounted-contained family w n path v h c e = takes-contained w h n v (unmounted-takes w h n path v e) family c

pub unmounted-outside : (family : ℕ → Bool) (w : WorldView) (n : ℕ) (path : List (List ℕ)) (v : WorldView) → IsWellFormed w → IsContained family w → family n ≡ true → unmounted w n path ≡ Ok v → IsSameOutside family w v
unmounted-outside family w n path v h c here e = takes-outside w h n v (unmounted-takes w h n path v e) family c here

-- and so it is of a detach
pub detached-contained : (family : ℕ → Bool) (w : WorldView) (n : ℕ) (path : List (List ℕ)) (v : WorldView) → IsWellFormed w → IsContained family w → detached w n path ≡ Ok v → IsContained family v
detached-contained family w n path v h c e = takes-contained w h n v (detached-takes w h n path v e) family c

pub detached-outside : (family : ℕ → Bool) (w : WorldView) (n : ℕ) (path : List (List ℕ)) (v : WorldView) → IsWellFormed w → IsContained family w → family n ≡ true → detached w n path ≡ Ok v → IsSameOutside family w v
detached-outside family w n path v h c here e = takes-outside w h n v (detached-takes w h n path v e) family c here
