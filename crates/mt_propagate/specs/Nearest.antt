-- What is found above groups at which no copies stand, so that no search goes over them again. No public clause cites this
-- module.
-- A word with no source is this project's rule.
use Rattle.std.specs.Prelude.{◌≡◌, ℕ, ◌+◌, ◌<◌, ◌≤◌, Bool, true, false, List, length, Option, Some, None, nat_eq, IfSome}
use Rattle.std.specs.Option.{unwrap_or}
use Rattle.indexmap.specs.IndexMap.{get}
use Rattle.mt_lists.specs.Tables.{Index}
use Rattle.mt_peers.specs.Peers.{Peer}
use Rattle.mt_peers.specs.Masters.{master_of}
use Rattle.mt_peers.specs.Ways.{IsAbove}
use Rattle.mt_propagate.specs.declared.nearest.Above.{Above}

-- what is known above a group: what was found, or its master
abbrev pub known_above : List Peer → Index Above → ℕ → Above
known_above es found g = unwrap_or (get nat_eq found g) (record { up = master_of es g; steps = 1 })

-- a group that is at least one step up, and not many more than there are mounts, before which copies stand at none
pub record IsFoundAbove (stands : ℕ → Bool) (es : List Peer) (g : ℕ) (x : Above) : Type 0 where
  pub above : IsAbove stands (master_of es) (Some g) x.up x.steps
  pub low : 0 < x.steps
  pub high : x.steps ≤ length es + 1

-- what was found is so, above groups at which no copies stand
abbrev pub IsFound : (ℕ → Bool) → List Peer → Index Above → Type 0
IsFound stands es found = (g : ℕ) → stands g ≡ false → IfSome (get nat_eq found g) (λ x. IsFoundAbove stands es g x)

-- what is known above a group, and nothing if copies stand at it
abbrev pub IsStep : (ℕ → Bool) → List Peer → ℕ → Option Above → Type 0
IsStep stands es g None = stands g ≡ true
IsStep stands es g (Some x) = IsFoundAbove stands es g x

-- a search up from a group ended there: where copies stand, after the last group, or more steps up than there are mounts
pub record IsNearest (stands : ℕ → Bool) (es : List Peer) (g : ℕ) (x : Above) : Type 0 where
  pub above : IsAbove stands (master_of es) (Some g) x.up x.steps
  pub ended : x.steps ≤ length es → IfSome x.up (λ u. stands u ≡ true)
