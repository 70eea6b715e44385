-- Groups that lost their last members, and what is known above each of them: a group from which upwards its heir is looked for, so
-- that a chain of them is not gone up again for each slave. No public clause cites this module. A word with no source is this
-- project's rule.
use Rattle.std.specs.Prelude.{◌≡◌, ℕ, ◌+◌, ◌<◌, ◌≤◌, false, cond, List, Option, Some, None, nat_eq}
use Rattle.std.specs.List.{find}
use Rattle.std.specs.Option.{option_map, IfSome}
use Rattle.indexmap.specs.IndexMap.{get}
use Rattle.mt_lists.specs.Tables.{Index}
use Rattle.mt_peers.specs.declared.entries.Entry.{Entry}
use Rattle.mt_peers.specs.declared.vanished.Above.{Above}
use Rattle.mt_peers.specs.Peers.{Peer, in_group, has_member, names}
use Rattle.mt_peers.specs.Masters.{master_of}
use Rattle.mt_peers.specs.Entries.{was_peers}
use Rattle.mt_peers.specs.Ways.{IsAbove}

-- the group that a mount was in, with its master a step above it
abbrev pub above_was : ℕ → Entry → Option Above
above_was g e = cond (names e.was.group g) (Some (record { up = e.was.master; steps = 1 })) None

-- a group with its master a step above it
abbrev pub above_first : ℕ → List Entry → Option Above
above_first g es = option_map (λ (e : Peer). record { up = e.state.master; steps = 1 }) (find (in_group g) (was_peers es))

-- what is known above groups that do not live is so, and one of which nothing is known had no master
pub record IsVanished (old new : List Peer) (vanished : Index Above) : Type 0 where
  pub known : (g : ℕ) (x : Above) → has_member new g ≡ false → get nat_eq vanished g ≡ Some x → IsAbove (has_member new) (master_of old) (Some g) x.up x.steps
  pub ended : (g : ℕ) → has_member new g ≡ false → get nat_eq vanished g ≡ None → master_of old g ≡ None

-- each is at least one step up, and at most this many and one
abbrev pub AreNear : ℕ → Index Above → Type 0
AreNear most vanished = (g : ℕ) (x : Above) → get nat_eq vanished g ≡ Some x → (0 < x.steps) × (x.steps ≤ most + 1)

-- a search up from a group ended there: at one that lives or has no master, or more than this many steps up
pub record IsReached (old new : List Peer) (most g : ℕ) (x : Above) : Type 0 where
  pub above : IsAbove (has_member new) (master_of old) (Some g) x.up x.steps
  pub ended : x.steps ≤ most → IfSome x.up (λ u. has_member new u ≡ false → master_of old u ≡ None)
