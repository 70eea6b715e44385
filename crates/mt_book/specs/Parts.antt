-- Mounts by the namespaces that they are in. No public clause cites this module.
-- A word with no source is this project's rule.
use Rattle.std.specs.Prelude.{ℕ, Bool, true, false, not, ◌&&◌, ◌||◌, ◌==◌, List, [], Option, Some, None, slice_index_or}
use Rattle.std.specs.List.{list_any}
use Rattle.std.specs.Option.{option_map, option_map_or, unwrap_or}
use Rattle.mt_skel.specs.Keyed.{row_at}
use Rattle.mt_mounts.specs.declared.mount.Mount.{Mount}
use Rattle.mt_mounts.specs.Forest.{mount_at}
use Rattle.mt_propagate.specs.World.{WorldView, space_of}
use Rattle.mt_info.specs.MayDiffer.{has_moved}
use Rattle.mt_book.specs.Book.{space_in}

-- a mount is in a namespace before or after
abbrev pub is_part : WorldView → WorldView → ℕ → ℕ → Bool
is_part w v n i = (space_of w i == n) || (space_of v i == n)

-- one of these mounts is in a namespace before or after
abbrev pub is_touched : WorldView → WorldView → List ℕ → ℕ → Bool
is_touched w v ids n = list_any (is_part w v n) ids

-- a mount, if it is there, is in this namespace
abbrev pub only_in : WorldView → ℕ → ℕ → Bool
only_in w n i = option_map_or (λ (m : Mount). m.space == n) (mount_at w.forest i) true

-- a mount is in no other namespace, before or after
abbrev pub stays_in : WorldView → WorldView → ℕ → ℕ → Bool
stays_in w v n i = only_in w n i && only_in v n i

-- nor did it move
abbrev pub rests_in : WorldView → WorldView → ℕ → ℕ → Bool
rests_in w v n i = stays_in w v n i && not (has_moved w v i)

-- one of some lists of mounts
abbrev pub part_at : List (List ℕ) → ℕ → List ℕ
part_at parts k = slice_index_or parts k []

-- the namespace of one of some numbers
abbrev pub space_at : List (ℕ × ℕ) → ℕ → ℕ
space_at rs k = space_in (slice_index_or rs k (0, 0))

-- a place in a list is this one, if it is one at all
abbrev pub is_position : Option ℕ → ℕ → Bool
is_position None k = false
is_position (Some at) k = at == k

-- the number of a namespace once some have changed; one that had none gets none
abbrev pub merged : List (ℕ × ℕ) → List (ℕ × ℕ) → ℕ → Option (ℕ × ℕ)
merged rs changed n = option_map (λ r. unwrap_or (row_at space_in n changed) r) (row_at space_in n rs)
