-- How a `Table` lies in its slots and its keys. No public clause cites this module.
-- A word with no source is this project's rule.
use Rattle.std.specs.Prelude.{◌≡◌, ℕ, Some, None, Option, List, [], ◌∷◌, ◌++◌, nat_eq}
use Rattle.std.specs.Option.{option_map_or}
use Rattle.std.specs.declared.hash.FoldHasher.{FoldHasher}
use Rattle.std.specs.declared.hash.BuildHasherDefault.{BuildHasherDefault}
use Rattle.slab.specs.Slab.{Slab, get}
use Rattle.indexmap.specs.IndexMap.{IndexMap, get as key_in}
use Rattle.mt_skel.specs.Keyed.{put}
use Rattle.mt_mounts.specs.declared.mount.Mount.{Mount}
use Rattle.mt_mounts.specs.Forest.{id_of, mount_at}

-- The mounts in these slots, by rising ID.
abbrev pub by_id : List (Option Mount) → List Mount
by_id [] = []
by_id (None ∷ slots) = by_id slots
by_id (Some m ∷ slots) = put id_of m (by_id slots)

-- The mounts of a slab, by rising ID.
unfoldable pub slab_mounts : Slab Mount → List Mount
slab_mounts s = by_id s.slots

-- The keys of the slab, each under the ID of its mount.
abbrev pub Keys : Type 0
Keys = IndexMap ℕ ℕ (BuildHasherDefault FoldHasher)

-- The key of this ID.
abbrev pub key_at : Keys → ℕ → Option ℕ
key_at keys i = key_in nat_eq keys i

-- A mount with this ID is under the key.
pub record HoldsAt (at : ℕ → Option Mount) (id : ℕ) (key : ℕ) : Type 0 where
  pub mount : Mount
  pub there : at key ≡ Some mount
  pub fits : mount.id ≡ id

-- An ID has a key exactly where a mount with this ID is under that key.
pub record AreKeyed (at : ℕ → Option Mount) (keys : ℕ → Option ℕ) : Type 0 where
  pub held : (i key : ℕ) → keys i ≡ Some key → HoldsAt at i key
  pub known : (key : ℕ) (m : Mount) → at key ≡ Some m → keys m.id ≡ Some key

-- So it is in the slab.
abbrev pub IsKeyed : Slab Mount → Keys → Type 0
IsKeyed s keys = AreKeyed (get s) (key_at keys)

-- The mounts of these IDs, in their order.
abbrev pub mounts_of : List Mount → List ℕ → List Mount
mounts_of ms [] = []
mounts_of ms (i ∷ is) = option_map_or (λ m. m ∷ []) (mount_at ms i) [] ++ mounts_of ms is
