-- Detached trees, which are namespaces: opened as copies of what is mounted where a path ends, and made of a filesystem.
-- A word with no source is this project's rule.
use Rattle.std.specs.Prelude.{ℕ, Bool, false, cond, ◌==◌, List, [], ◌∷◌, map, length, Option, None, Result}
use Rattle.mt_skel.specs.declared.fault.Fault.{Fault}
use Rattle.mt_skel.specs.declared.fault.Fault.TheVariants.{Unbindable, TooMany}
use Rattle.mt_skel.specs.Outcome.{refuse_if, refusal_of, outcome}
use Rattle.mt_skel.specs.Skeleton.{fs_named}
use Rattle.mt_mounts.specs.declared.mount.Mount.{Mount}
use Rattle.mt_mounts.specs.declared.mount.Place.{Place}
use Rattle.mt_mounts.specs.Walk.{walk}
use Rattle.mt_propagate.specs.World.{WorldView, with_tree, state_of}
use Rattle.mt_propagate.specs.Named.{place_or_nowhere}
use Rattle.mt_propagate.specs.Limits.{too_many_mounts, too_many_spaces}
use Rattle.mt_bind.specs.Copying.{with_copies}
use Rattle.mt_bind.specs.Sources.{source_at}
use Rattle.mt_bind.specs.Spaces.{new_space_refusals, new_space_effect}

-- a mount as the top of a tree, which stands nowhere, or another one of it
abbrev pub unplaced_top : ℕ → Mount → Mount
unplaced_top top m = record m { place = cond (m.id == top) None m.place }

-- what is copied is what a bind copies; the copy of the top is the root mount (open_tree(2), OPEN_TREE_CLONE and AT_RECURSIVE)
abbrev pub opened_sources : WorldView → Bool → Place → List Mount
opened_sources w recursive p = map (unplaced_top p.mount) (source_at w recursive p).mounts

-- one detached tree more, of copies of these mounts, which are peers of their sources or slaves of the same masters (open_tree(2);
-- `sharedsubtree`, clone namespace)
abbrev pub with_opened : WorldView → List Mount → WorldView
with_opened w sources = with_tree (with_copies w sources false) w.next_space

-- the refusals of an opening, where its path was found to lead there (open_tree(2), EINVAL; the limits: this project's rule)
abbrev pub opened_refusals : WorldView → Bool → Result Place Fault → List (Option Fault)
opened_refusals w recursive at =
    let p = place_or_nowhere at in
    refusal_of at
    ∷ refuse_if (state_of w p.mount).unbindable Unbindable
    ∷ refuse_if (too_many_spaces w) TooMany
    ∷ refuse_if (too_many_mounts w (length (opened_sources w recursive p))) TooMany ∷ []

abbrev pub opened_effect : WorldView → Bool → Result Place Fault → WorldView × ℕ
opened_effect w recursive at = (with_opened w (opened_sources w recursive (place_or_nowhere at)), w.next_space)

-- a detached tree of what is mounted where a path ends, and its number (open_tree(2), OPEN_TREE_CLONE)
abbrev pub tree_opened : WorldView → ℕ → List (List ℕ) → Bool → Result (WorldView × ℕ) Fault
tree_opened w n path recursive =
    let at = walk w.skel w.forest n path in
    outcome (opened_refusals w recursive at) (opened_effect w recursive at)

-- a new namespace of a filesystem, as a detached tree
abbrev pub tree_made_effect : WorldView → Option ℕ → WorldView × ℕ
tree_made_effect w fs = let made : WorldView × ℕ = new_space_effect w fs in (with_tree made.0 made.1, made.1)

-- a detached tree of a filesystem, and its number (fsmount(2))
abbrev pub tree_made : WorldView → List ℕ → Result (WorldView × ℕ) Fault
tree_made w name = outcome (new_space_refusals w (fs_named w.skel name)) (tree_made_effect w (fs_named w.skel name))
