-- The mounts for which a command is refused, by the rows alone.
-- A word with no source is this project's rule.
use Rattle.std.specs.Prelude.{◌≡◌, ◌↔◌, ℕ, Bool, false, cond, not, ◌&&◌, ◌==◌, List, [], ◌∷◌, map, reverse, Option, Some, None, is_some, is_none}
use Rattle.std.specs.List.{filter, take_while}
use Rattle.std.specs.Option.{option_and_then}
use Rattle.mt_reach.specs.declared.row.SeenDirectory.{SeenDirectory}
use Rattle.mt_reach.specs.declared.row.SeenRow.{SeenRow}
use Rattle.mt_reach.specs.declared.upward.Step.TheVariants.{ToParent}
use Rattle.mt_reach.specs.Rows.{seen_id, seen_at, seen_group, is_same_directory}
use Rattle.mt_reach.specs.Tree.{seen_parent_row, seen_parent, steps_up, in_tree}

-- a mount that is in a group, where its group is told
abbrev pub shared_of : (ℕ → Option ℕ) → Option ℕ → Option ℕ
shared_of group o = option_and_then (λ k. cond (is_some (group k)) (Some k) None) o

-- `SharedParent`: the mount that a mount stands on, where that is in a peer group (`sharedsubtree`, move semantics; pivot_root(2))
abbrev pub shared_parent : List SeenRow → ℕ → Option ℕ
shared_parent rows i = shared_of (seen_group rows) (seen_parent rows i)

-- an unbindable mount is in the tree of mount i
unfoldable pub is_unbindable_in : List SeenRow → ℕ → SeenRow → Bool
is_unbindable_in rows i r = r.unbindable && in_tree rows i r.id

-- `UnbindableInside`: the unbindable mounts of a tree, by rising ID, where the mount on which it would stand is in a peer group
-- (`sharedsubtree`, move semantics)
abbrev pub unbindable_inside : List SeenRow → ℕ → ℕ → List ℕ
unbindable_inside rows i dest = cond (is_some (seen_group rows dest)) (map seen_id (filter (is_unbindable_in rows i) rows)) []

-- the mounts from one upwards, as far as another one
abbrev pub way_below : List SeenRow → ℕ → ℕ → List ℕ
way_below rows i from = take_while (λ k. not (k == i)) (steps_up rows ToParent from)

-- `IntoItself`: the mounts from one down to another that stands below it, or is the same (mount(2), MS_MOVE)
abbrev pub into_itself : List SeenRow → ℕ → ℕ → List ℕ
into_itself rows i dest = cond (in_tree rows i dest) (i ∷ reverse (way_below rows i dest)) []

-- a mount stands on mount i, at whatever height
unfoldable pub is_below_in : List SeenRow → ℕ → SeenRow → Bool
is_below_in rows i r = not (r.id == i) && in_tree rows i r.id

-- the mounts that stand on one, at whatever height, by rising ID: what has to go before it can be unmounted (umount(2), EBUSY)
abbrev pub tree_below : List SeenRow → ℕ → List ℕ
tree_below rows i = map seen_id (filter (is_below_in rows i) rows)

-- `NotMountRoot`: the mount that a directory is on, where it is not the one at the mount's root (umount2(2), EINVAL)
abbrev pub off_root : List SeenRow → ℕ → SeenDirectory → Option ℕ
off_root rows i d = option_and_then (λ (r : SeenRow). cond (is_same_directory r.root d) None (Some i)) (seen_at rows i)

-- `RootPlace`: the root mount of a namespace, where a directory on it is the one at its root (pivot_root(2), EBUSY)
abbrev pub at_root_place : List SeenRow → ℕ → SeenDirectory → Option ℕ
at_root_place rows i d = option_and_then (λ (r : SeenRow). cond (is_none (seen_parent_row rows r) && is_same_directory r.root d) (Some i) None) (seen_at rows i)

-- `IntoItself` of a pivot: the mount that the old root would stand on and the new one, where the first is not in the tree of the
-- second (pivot_root(2), EINVAL)
abbrev pub left_outside : List SeenRow → ℕ → ℕ → List ℕ
left_outside rows new dest = cond (in_tree rows new dest) [] (dest ∷ new ∷ [])

-- a list of mounts is empty exactly where a condition does not hold
abbrev pub IsWitness : List ℕ → Bool → Type 0
IsWitness ids b = (ids ≡ []) ↔ (b ≡ false)
