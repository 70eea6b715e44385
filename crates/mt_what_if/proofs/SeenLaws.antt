-- The rows of all namespaces of a world.
use Rattle.std.proofs.Common.{◌≡◌, ℕ, ◌+◌, ◌<◌, true, List, [], ◌∷◌, ◌++◌, map, length, drop, get_or, Some, IsSome, refl, sym, ap, subst, ◌∙◌, append_assoc}
use Rattle.std.specs.Option.{unwrap_or}
use Rattle.std.proofs.lemmas.Option.{slice_get-get_or}
use Rattle.std.proofs.lemmas.List.{drop_more}
use Rattle.mt_skel.specs.Keyed.{rises}
use Rattle.mt_skel.proofs.ElementLaws.{In, in_row, get_in}
use Rattle.mt_skel.proofs.SortedLaws.{rises-keys}
use Rattle.mt_mounts.specs.declared.mount.Mount.{Mount}
use Rattle.mt_mounts.specs.Forest.{id_of, mount_at}
use Rattle.mt_propagate.specs.declared.world.World.{World}
use Rattle.mt_propagate.specs.World.{WorldView, world_view}
use Rattle.mt_propagate.specs.Named.{mount_or_unknown, unknown}
use Rattle.mt_propagate.specs.WellFormed.{IsWellFormed}
use Rattle.mt_propagate.proofs.ListedLaws.{map-map}
use Rattle.mt_info.specs.declared.row.Row.{Row}
use Rattle.mt_info.specs.Table.{row_of}
use Rattle.mt_reach.specs.declared.row.SeenRow.{SeenRow}
use Rattle.mt_reach.specs.Rows.{seen_id}
use Rattle.mt_reach.specs.Seen.{seen_row, seen_mount, seen_rows}

-- a mount that is listed is there
pub mount_listed :
    (w v : World) (xs : List Mount) (i : ℕ) (d : Mount) → v ≡ w → IsWellFormed (world_view w) → xs ≡ w.forest.mounts → i < length xs
    → mount_at v.forest.mounts (get_or xs i d).id ≡ Some (get_or xs i d)
mount_listed w v xs i d same h listed l =
    let m = get_or xs i d in
    let here : In m xs = get_in xs i m (slice_get-get_or xs i d l) in
    ap (λ (u : World). mount_at u.forest.mounts m.id) same ∙ in_row id_of w.forest.mounts m h.forest.rising (subst (In m) listed here)

pub mount_there :
    (w v : World) (xs : List Mount) (i : ℕ) (d : Mount) → v ≡ w → IsWellFormed (world_view w) → xs ≡ w.forest.mounts → i < length xs
    → IsSome (mount_at v.forest.mounts (get_or xs i d).id)
mount_there w v xs i d same h listed l = rw (mount_listed w v xs i d same h listed l) refl

-- and its row is the one that is seen
pub row_listed :
    (w v : World) (m : Mount) (r : Row) (s : SeenRow) → v ≡ w → mount_at v.forest.mounts m.id ≡ Some m
    → r ≡ row_of (world_view v) (mount_or_unknown (world_view v) m.id) → s ≡ seen_row m.space r → s ≡ seen_mount (world_view w) m
row_listed w v m r s same found told seen =
    seen ∙ ap (seen_row m.space) (told ∙ ap (λ o. row_of (world_view v) (unwrap_or o unknown)) found ∙ ap (λ (u : World). row_of (world_view u) m) same)

-- one more row is added
pub rows_more :
    (w : WorldView) (all : List Mount) (i : ℕ) (d : Mount) (s : SeenRow) (xs ys start : List SeenRow) → i < length all → s ≡ seen_mount w (get_or all i d)
    → ys ≡ xs ++ s ∷ [] → xs ++ map (seen_mount w) (drop i all) ≡ start → ys ++ map (seen_mount w) (drop (i + 1) all) ≡ start
rows_more w all i d s xs ys start inside same more e =
    let rest = map (seen_mount w) (drop (i + 1) all) in
    ap (λ (t : List SeenRow). t ++ rest) more ∙ append_assoc xs (s ∷ []) rest ∙ ap (λ (x : SeenRow). xs ++ x ∷ rest) same
    ∙ sym (ap (λ (t : List Mount). xs ++ map (seen_mount w) t) (drop_more all i d inside)) ∙ e

-- that of the next mount
pub row_passed :
    (w v : World) (all : List Mount) (i : ℕ) (d : Mount) (r : Row) (s : SeenRow) (xs ys start : List SeenRow) → v ≡ w → IsWellFormed (world_view w)
    → all ≡ w.forest.mounts → i < length all → r ≡ row_of (world_view v) (mount_or_unknown (world_view v) (get_or all i d).id)
    → s ≡ seen_row (get_or all i d).space r → ys ≡ xs ++ s ∷ [] → xs ++ map (seen_mount (world_view w)) (drop i all) ≡ start
    → ys ++ map (seen_mount (world_view w)) (drop (i + 1) all) ≡ start
row_passed w v all i d r s xs ys start same h listed inside told seen more e =
    rows_more (world_view w) all i d s xs ys start inside (row_listed w v (get_or all i d) r s same (mount_listed w v all i d same h listed inside) told seen) more e

-- the rows are listed by rising ID
pub seen_rises : (w : WorldView) → IsWellFormed w → rises seen_id (seen_rows w) ≡ true
seen_rises w h =
    sym (rises-keys seen_id (map (seen_mount w) w.forest)) ∙ ap (rises (λ k. k)) (map-map (seen_mount w) seen_id id_of (λ m. refl) w.forest)
    ∙ rises-keys id_of w.forest ∙ h.forest.rising
