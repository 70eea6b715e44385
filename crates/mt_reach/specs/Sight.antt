-- Whether a path leads to a new mount and to its copies once they stand, by the rows alone.
-- A word with no source is this project's rule.
use Rattle.std.specs.Prelude.{ℕ, Bool, true, false, cond, ◌&&◌, List, [], ◌∷◌, ◌++◌, length, drop}
use Rattle.mt_skel.specs.Keyed.{among}
use Rattle.mt_skel.specs.Skeleton.{path_eq}
use Rattle.mt_reach.specs.declared.row.SeenDirectory.{SeenDirectory}
use Rattle.mt_reach.specs.declared.row.SeenRow.{SeenRow}
use Rattle.mt_reach.specs.Walking.{stack_top}

-- where a walk ends: on a mount that was there before, or on the copy that came to it
pub record FrontView : Type 0 where
  pub row : SeenRow
  pub is_copy : Bool

-- the mount point of a directory on a mount that shows it (proc_pid_mountinfo(5), field 5)
abbrev pub point_on : SeenRow → SeenDirectory → List (List ℕ)
point_on r d = r.point ++ drop (length r.root.path) d.path

-- a copy comes to the directory of this mount, which is one of those with these IDs, and the copy's mount point is this
abbrev pub has_copy : SeenDirectory → List ℕ → List (List ℕ) → SeenRow → Bool
has_copy d ids point r = path_eq point (point_on r d) && among ids r.id

-- the end of a walk once copies stand in a directory of these mounts, where the walk has come to a mount by some names, and has others
-- before it. What stood at the place of a copy goes on top of that, and on a copy nothing stands but at its root: so the walk ends on
-- the copy that is topmost where it crosses (`sharedsubtree`, bind semantics; who makes way: this project's rule)
abbrev pub front_from : List SeenRow → SeenDirectory → List ℕ → SeenRow → List (List ℕ) → List (List ℕ) → FrontView
front_from rows d ids q done [] = record { row = q; is_copy = false }
front_from rows d ids q done (c ∷ cs) =
    cond (has_copy d ids (done ++ c ∷ []) (stack_top rows (done ++ c ∷ []) q)) (record { row = stack_top rows (done ++ c ∷ []) q; is_copy = true })
    (front_from rows d ids (stack_top rows (done ++ c ∷ []) q) (done ++ c ∷ []) cs)
