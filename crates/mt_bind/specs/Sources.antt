-- The source trees of mount, bind, rbind and move, in the world before the command.
-- A word with no source is this project's rule.
use Rattle.std.specs.Prelude.{ℕ, Bool, true, false, cond, not, ◌&&◌, ◌==◌, List, [], ◌∷◌, map, Option, None}
use Rattle.std.specs.List.{filter, list_all, take_while, last_or}
use Rattle.std.specs.Option.{option_map_or}
use Rattle.mt_skel.specs.Skeleton.{root_of, holds}
use Rattle.mt_mounts.specs.declared.mount.Attrs.{Attrs}
use Rattle.mt_mounts.specs.declared.mount.Mount.{Mount}
use Rattle.mt_mounts.specs.declared.mount.Place.{Place}
use Rattle.mt_mounts.specs.Attrs.{new_attrs}
use Rattle.mt_mounts.specs.Forest.{parents_up, is_below}
use Rattle.mt_propagate.specs.World.{WorldView, state_of}
use Rattle.mt_propagate.specs.Named.{mount_or_unknown}
use Rattle.mt_propagate.specs.Copies.{Source}
use Rattle.mt_propagate.specs.Plans.{fresh_source, top_of}

-- mount: one fresh private mount of a filesystem's root, with attributes (`sharedsubtree`, mount semantics; mount(2))
abbrev pub fresh_with : WorldView → ℕ → Attrs → Source
fresh_with w fs attrs = fresh_source (root_of w.skel fs) attrs

-- and with those of a mount of which nothing is said
abbrev pub fresh : WorldView → ℕ → Source
fresh w fs = fresh_with w fs new_attrs

-- the top of a bind shows the directory where the source path ends (mount(2), MS_BIND)
abbrev pub top_at : WorldView → Place → Mount
top_at w p = top_of w p.mount p.dir

-- bind: only that mount (`sharedsubtree`, bind semantics)
abbrev pub alone : WorldView → Place → Source
alone w p = record { mounts = top_at w p ∷ []; top = top_at w p; moved = false }

-- the way from mount i up to the top: mount i and those above it that are below the top
abbrev pub path_to : WorldView → ℕ → ℕ → List ℕ
path_to w top i = take_while (λ k. not (k == top)) (parents_up w.forest i)

-- a mount that is not unbindable can be bound (mount_namespaces(7), MS_UNBINDABLE)
abbrev pub is_bindable : WorldView → ℕ → Bool
is_bindable w i = not (state_of w i).unbindable

-- a mount stands at a directory, or below it
abbrev pub stands_within : WorldView → ℕ → ℕ → Bool
stands_within w dir i = option_map_or (λ q. holds w.skel dir q.dir) (mount_or_unknown w i).place false

-- so does the last mount of a way, which is the one that stands on the top; the way of the top itself has none
abbrev pub leads_within : WorldView → ℕ → Option ℕ → Bool
leads_within w dir last = option_map_or (stands_within w dir) last true

-- rbind takes the top and each mount below it within the directory, but not an unbindable mount, nor what is below one
-- (`sharedsubtree`, rbind semantics: unbindable mounts are pruned)
abbrev pub is_bound_along : WorldView → Place → ℕ → Bool
is_bound_along w p i =
    let way : List ℕ = path_to w p.mount i in
    is_below w.forest p.mount i && list_all (is_bindable w) way && leads_within w p.dir (last_or None way)

-- rbind: the tree of mounts below a directory (`sharedsubtree`, rbind semantics)
abbrev pub tree_within : WorldView → Place → Source
tree_within w p = record {
  mounts = map (λ m. cond (m.id == p.mount) (top_at w p) m) (filter (λ m. is_bound_along w p m.id) w.forest);
  top = top_at w p;
  moved = false;
}

-- what a bind of a place copies: with `recursive` the tree of mounts below the directory, otherwise only the mount
abbrev pub source_at : WorldView → Bool → Place → Source
source_at w recursive p = cond recursive (tree_within w p) (alone w p)

-- move: the named mount and all below it (`sharedsubtree`, move semantics)
abbrev pub tree_of : WorldView → ℕ → Source
tree_of w i = record { mounts = filter (λ m. is_below w.forest i m.id) w.forest; top = mount_or_unknown w i; moved = true }
