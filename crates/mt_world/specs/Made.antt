-- The world of tables.
-- A word with no source is this project's rule.
use Rattle.std.specs.Prelude.{◌≡◌, ◌≢◌, ◌⊎◌, ℕ, ◌<◌, ◌≤◌, ◌^◌, nat_le, ◌&&◌, if◌then◌else◌, List, [], length, slice_get, Option, Some, None}
use Rattle.mt_skel.specs.Skeleton.{room_limit}
use Rattle.mt_mounts.specs.declared.mount.Mount.{Mount}
use Rattle.mt_mounts.specs.Forest.{mount_at}
use Rattle.mt_propagate.specs.World.{WorldView, private, state_of}
use Rattle.mt_world.specs.declared.misfit.Misfit.{Misfit}
use Rattle.mt_world.specs.declared.row.TableRow.{TableRow}
use Rattle.mt_world.specs.Kept.{keeps_row, IsKeptRow, AreGrown}
use Rattle.mt_world.specs.Leaves.{IsSound, IsGrown}
use Rattle.mt_world.specs.Plain.{IsPlain, HasRoom}
use Rattle.mt_world.specs.Told.{IsMounted}

-- the room of a world of tables: the one that is asked for, or 1 where there is no such room
abbrev pub room_or_one : ℕ → ℕ
room_or_one k = if nat_le 1 k && nat_le k room_limit then k else 1

-- a world has no mount yet, and its next numbers leave room for those that come later
pub record HasNoMounts (w : WorldView) : Type 0 where
  pub sound : IsSound w
  pub forest : w.forest ≡ []
  pub next_mount : w.next_mount ≤ 2 ^ 62
  pub next_space : w.next_space ≤ 2 ^ 62
  pub next_group : w.peering.next ≤ 2 ^ 62

-- what a world that was made of rows is: in order; the rows that are kept are told, with the states that they tell or private for a reason; and all other mounts are in a
-- namespace that no row is of
pub record IsMade (w : WorldView) (rows : List TableRow) (left lone : List (Option Misfit)) : Type 0 where
  pub sound : IsSound w
  -- its next numbers leave room for those of commands
  pub few : (w.next_mount < 2 ^ 63) × (w.next_space < 2 ^ 63)
  pub sized : (length left ≡ length rows) × (length lone ≡ length rows)
  pub told : (k : ℕ) (r : TableRow) → slice_get rows k ≡ Some r → keeps_row left k → IsMounted w rows r
  pub joined : (k : ℕ) (r : TableRow) → slice_get rows k ≡ Some r → keeps_row left k → slice_get lone k ≡ Some None → state_of w r.id ≡ r.state
  pub private : (k : ℕ) (r : TableRow) (why : Misfit) → slice_get rows k ≡ Some r → keeps_row left k → slice_get lone k ≡ Some (Some why) → state_of w r.id ≡ private
  -- what was known before the hidden mounts and the states were made: why the others are left out
  pub before : WorldView
  pub grown : AreGrown before rows left
  pub since : IsGrown before w
  pub only : (i : ℕ) (m : Mount) → mount_at w.forest i ≡ Some m → ((k : ℕ) × IsKeptRow rows left i k) ⊎ ((k : ℕ) (r : TableRow) → slice_get rows k ≡ Some r → keeps_row left k → r.space ≢ m.space)

-- a plain table is kept whole, if there is room: each row has its mount, with its state
abbrev pub KeepsPlain : WorldView → List TableRow → List (Option Misfit) → Type 0
KeepsPlain w rows left = IsPlain rows → HasRoom w → (k : ℕ) (r : TableRow) → slice_get rows k ≡ Some r → keeps_row left k × IsMounted w rows r × (state_of w r.id ≡ r.state)
