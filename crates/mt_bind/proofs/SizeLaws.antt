-- How much new namespaces, copies of namespaces, mounts, binds, moves and pivots add to a world.
use Rattle.std.proofs.Common.{◌≡◌, ℕ, ◌+◌, ◌≤◌, Bool, true, false, cond, not, ◌==◌, List, [], ◌∷◌, ◌++◌, map, length, Ok, refl, sym, ap, ◌∙◌, subst, arith, length-append}
use Rattle.std.specs.List.{filter}
use Rattle.std.proofs.lemmas.List.{length-map}
use Rattle.mt_mounts.specs.declared.mount.Mount.{Mount}
use Rattle.mt_mounts.specs.Forest.{id_of, is_below}
use Rattle.mt_peers.specs.Loss.{left}
use Rattle.mt_propagate.specs.World.{WorldView, with_tree}
use Rattle.mt_propagate.specs.Limits.{most_mounts, too_many_mounts}
use Rattle.mt_propagate.proofs.SizeLaws.{IsSized, in_greatest, few_pass, copied_sized}
use Rattle.mt_bind.specs.Spaces.{originals, new_space, with_space, copy_space, drop_space, without_space}
use Rattle.mt_setattr.specs.declared.change.SetWords.{SetWords}
use Rattle.mt_setattr.specs.Words.{new_with}
use Rattle.mt_bind.specs.Sources.{fresh_with, top_at, is_bound_along, source_at, tree_of}
use Rattle.mt_bind.specs.Mounting.{mounted_with, bound, moved}
use Rattle.mt_bind.specs.Copying.{copy_of, with_copies}
use Rattle.mt_bind.specs.Opening.{opened_sources, tree_opened, tree_made}
use Rattle.mt_bind.specs.Attaching.{whole_tree, attached}
use Rattle.mt_bind.specs.Pivoting.{root_id, pivoted_mount, with_pivot, pivoted}
use Rattle.mt_bind.proofs.SpaceLaws.{new_root}
use Rattle.mt_bind.proofs.AcceptedLaws.{path_end, fs_of, new_space_accepted, tree_made_accepted, opened_accepted, attached_accepted, copy_space_accepted, drop_space_accepted, mount_with_accepted, bind_accepted, move_accepted, pivot_accepted}

-- a namespace more, with these mounts
added_sized : (w v : WorldView) (ms : List Mount) → too_many_mounts w (length ms) ≡ false → v.forest ≡ w.forest ++ ms → v.next_mount ≡ w.next_mount + length ms → v.next_space ≡ w.next_space + 1 → v.peering.next ≡ w.peering.next → IsSized w v 1
added_sized w v ms few forest mounts spaces groups =
    let room = in_greatest w (length ms) few in
    record { spaces = spaces; mounts = omega (arith, room, mounts); groups = omega (arith, groups); within = omega (arith, room, ap length forest, length-append w.forest ms) }

-- a world with the same numbers, and with no more mounts
same_sized : (w v : WorldView) → length w.forest ≤ most_mounts → length v.forest ≤ length w.forest → (v.next_mount ≡ w.next_mount) × (v.next_space ≡ w.next_space) × (v.peering.next ≡ w.peering.next) → IsSized w v 0
same_sized w v few fewer same = record { spaces = omega (arith, same.1); mounts = omega (arith, same.0); groups = omega (arith, same.2); within = omega (arith, few, fewer) }

-- a new namespace
pub space_sized : (w v : WorldView) (name : List ℕ) (i : ℕ) → new_space w name ≡ Ok (v, i) → IsSized w v 1
unfolding with_space
space_sized w v name i e =
    let a = new_space_accepted w name v i e in
    subst (λ (x : WorldView). IsSized w x 1) a.world (added_sized w (with_space w (fs_of w name)) (new_root w (fs_of w name) ∷ []) a.few refl refl refl refl)

-- a detached tree of a filesystem
pub tree_made_sized : (w v : WorldView) (name : List ℕ) (i : ℕ) → tree_made w name ≡ Ok (v, i) → IsSized w v 1
unfolding with_space
tree_made_sized w v name i e =
    let a = tree_made_accepted w name v i e in
    subst (λ (x : WorldView). IsSized w x 1) a.world (added_sized w (with_tree (with_space w (fs_of w name)) w.next_space) (new_root w (fs_of w name) ∷ []) a.few refl refl refl refl)

-- a namespace of copies
copies_sized : (w : WorldView) (ms : List Mount) (less : Bool) → too_many_mounts w (length ms) ≡ false → IsSized w (with_copies w ms less) 1
unfolding with_copies
copies_sized w ms less few =
    let count = length-map ms (copy_of w (map id_of ms)) in
    added_sized w (with_copies w ms less) (map (copy_of w (map id_of ms)) ms) (ap (too_many_mounts w) count ∙ few) refl (ap (λ k. w.next_mount + k) (sym count)) refl refl

-- an opened one
pub opened_sized : (w v : WorldView) (n : ℕ) (path : List (List ℕ)) (recursive : Bool) (i : ℕ) → tree_opened w n path recursive ≡ Ok (v, i) → IsSized w v 1
opened_sized w v n path recursive i e =
    let a = opened_accepted w n path recursive v i e in
    let s = copies_sized w (opened_sources w recursive (path_end w n path)) false a.few in
    subst (λ (x : WorldView). IsSized w x 1) a.world (record { spaces = s.spaces; mounts = s.mounts; groups = s.groups; within = s.within })

-- an attached one
pub attached_sized : (w v : WorldView) (tree n : ℕ) (path : List (List ℕ)) → length w.forest ≤ most_mounts → attached w tree n path ≡ Ok v → IsSized w v 0
attached_sized w v tree n path few e =
    let a = attached_accepted w tree n path v e in
    subst (λ (x : WorldView). IsSized w x 0) a.world (copied_sized w (whole_tree w tree) (path_end w n path) (omega (arith, few, few_pass (λ (m : Mount). m.space == tree) w.forest)) a.few)

-- a copy of a namespace
pub copy_sized : (w v : WorldView) (n : ℕ) (less : Bool) (i : ℕ) → copy_space w n less ≡ Ok (v, i) → IsSized w v 1
copy_sized w v n less i e = let a = copy_space_accepted w n less v i e in subst (λ (x : WorldView). IsSized w x 1) a.world (copies_sized w (originals w n) less a.few)

-- the end of a namespace
pub dropped_sized : (w v : WorldView) (n : ℕ) → length w.forest ≤ most_mounts → drop_space w n ≡ Ok v → IsSized w v 0
unfolding without_space left
dropped_sized w v n few e =
    subst (λ (x : WorldView). IsSized w x 0) (drop_space_accepted w n v e).world (same_sized w (without_space w n) few (few_pass (λ (m : Mount). not (m.space == n)) w.forest) (refl, refl, refl))

-- a mount
pub mount_sized : (w v : WorldView) (n : ℕ) (name : List ℕ) (path : List (List ℕ)) (set : SetWords) (i : ℕ) → mounted_with w n name path set ≡ Ok (v, i) → IsSized w v 0
mount_sized w v n name path set i e =
    let a = mount_with_accepted w n name path set v i e in
    subst (λ (x : WorldView). IsSized w x 0) a.world (copied_sized w (fresh_with w (fs_of w name) (new_with set)) (path_end w n path) (omega arith) a.few)

-- a bind
pub bind_sized : (w v : WorldView) (n : ℕ) (recursive : Bool) (from to : List (List ℕ)) (i : ℕ) → length w.forest ≤ most_mounts → bound w n recursive from to ≡ Ok (v, i) → IsSized w v 0
bind_sized w v n recursive from to i few e =
    let a = bind_accepted w n recursive from to v i e in
    subst (λ (x : WorldView). IsSized w x 0) a.world (copied_sized w (source_at w recursive (path_end w n from)) (path_end w n to) (small recursive) a.few)
  where
    small : (b : Bool) → length (source_at w b (path_end w n from)).mounts ≤ most_mounts
    small true =
        let q = path_end w n from in
        let within : Mount → Bool = λ m. is_bound_along w q m.id in
        omega (arith, few, few_pass within w.forest, length-map (filter within w.forest) (λ (m : Mount). cond (m.id == q.mount) (top_at w q) m))
    small false = omega arith

-- a move
pub move_sized : (w v : WorldView) (n : ℕ) (from to : List (List ℕ)) → length w.forest ≤ most_mounts → moved w n from to ≡ Ok v → IsSized w v 0
move_sized w v n from to few e =
    let i = (path_end w n from).mount in
    let a = move_accepted w n from to v e in
    subst (λ (x : WorldView). IsSized w x 0) a.world
    (copied_sized w (tree_of w i) (path_end w n to) (omega (arith, few, few_pass (λ (m : Mount). is_below w.forest i m.id) w.forest)) a.few)

-- a pivot
pub pivot_sized : (w v : WorldView) (n : ℕ) (new old : List (List ℕ)) → length w.forest ≤ most_mounts → pivoted w n new old ≡ Ok v → IsSized w v 0
unfolding with_pivot
pivot_sized w v n new old few e =
    let same = length-map w.forest (pivoted_mount (path_end w n new).mount (root_id w n) (path_end w n old)) in
    subst (λ (x : WorldView). IsSized w x 0) (pivot_accepted w n new old v e).world (same_sized w _ few (omega (arith, same)) (refl, refl, refl))
