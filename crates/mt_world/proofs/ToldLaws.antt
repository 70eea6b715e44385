-- What a world tells of a row stays so where others are added, and is so of the one that is added.
use Rattle.std.proofs.Common.{◌≡◌, ℕ, ◌-◌, Bool, true, false, List, [], ◌++◌, length, take, drop, get_or, Option, Some, None, if◌then◌else◌, refl, sym, ap, ◌∙◌, arith}
use Rattle.std.specs.Prelude.{is_none}
use Rattle.std.specs.Str.{bytes_eq}
use Rattle.std.proofs.Math.Seq.{drop-append_seam}
use Rattle.std.proofs.lemmas.List.{take-append-drop}
use Rattle.std.proofs.lemmas.Option.{same_Some, get_or_from_slice_get}
use Rattle.std.proofs.lemmas.Slice.Eq.{bytes_eq-Decides}
use Rattle.mt_skel.proofs.MiddleLaws.{and_first}
use Rattle.mt_mounts.proofs.SlotLaws.{mapped}
use Rattle.mt_skel.specs.Skeleton.{Skeleton, Directory, Filesystem, directory, filesystem, fs_named, path_eq}
use Rattle.mt_skel.proofs.HoldLaws.{directory_grown}
use Rattle.mt_skel.proofs.SkeletonLaws.{at_directory, place_found, path_eq-Decides, directory_within}
use Rattle.mt_mounts.specs.declared.mount.Mount.{Mount}
use Rattle.mt_mounts.specs.declared.mount.Place.{Place}
use Rattle.mt_mounts.specs.Forest.{mount_at, parent}
use Rattle.mt_propagate.specs.World.{WorldView}
use Rattle.mt_propagate.specs.WellFormed.{IsWellFormed}
use Rattle.mt_propagate.proofs.TreeLaws.{parent-from, parent-is}
use Rattle.mt_info.specs.Table.{mount_point, own_names}
use Rattle.mt_info.proofs.TableLaws.{own_names_at, place_there}
use Rattle.mt_info.proofs.PointLaws.{from_end, below_parent, point_of_root}
use Rattle.mt_world.specs.declared.row.TableRow.{TableRow}
use Rattle.mt_world.specs.Leaves.{IsGrown}
use Rattle.mt_world.specs.Places.{names_below, IsOn, IsPlaceOn, IsMountOf}
use Rattle.mt_world.specs.Rows.{is_root_of_table}
use Rattle.mt_world.specs.Told.{Shows, IsMounted}

-- ---- where others are added

module _ (w v : WorldView) (h : IsWellFormed w) (k : IsWellFormed v) (g : IsGrown w v) where
  -- the directories that mounts show and stand on are what they were
  pub still_root : (i : ℕ) (m : Mount) → mount_at w.forest i ≡ Some m → directory v.skel m.root ≡ directory w.skel m.root
  still_root i m e = directory_grown w.skel v.skel g.skel.more m.root g.skel.directories (h.below i m e).4

  still_dir : (i : ℕ) (m : Mount) (p : Place) → mount_at w.forest i ≡ Some m → m.place ≡ Some p → directory v.skel p.dir ≡ directory w.skel p.dir
  still_dir i m p e at = directory_grown w.skel v.skel g.skel.more p.dir g.skel.directories (directory_within w.skel p.dir (place_there w i m p h e at))

  -- a mount stands where it stood
  abbrev IsStill : ℕ → Type 0
  IsStill i = (m : Mount) → mount_at w.forest i ≡ Some m → mount_point v i ≡ mount_point w i

  at_end : (i : ℕ) → parent w.forest i ≡ None → IsStill i
  at_end i none m e = go m.place refl
    where
      go : (o : Option Place) → m.place ≡ o → mount_point v i ≡ mount_point w i
      go None at = point_of_root v i m (g.mounts i m e) at ∙ sym (point_of_root w i m e at)
      go (Some p) at = absurd (let f : None ≡ Some p.mount = sym none ∙ parent-is w.forest i m p e at in cc)

  one_up : (i j : ℕ) → parent w.forest i ≡ Some j → IsStill j → IsStill i
  one_up i j up still m e =
      let r = parent-from w.forest i j up in
      let same : r.0 ≡ m = same_Some r.0 m (sym r.2 ∙ e) in
      let at : m.place ≡ Some r.1 = ap (λ (x : Mount). x.place) (sym same) ∙ r.3 in
      let q = h.forest.placed i m r.1 e at in
      let on : mount_at w.forest j ≡ Some q.0 = ap (mount_at w.forest) (sym r.4) ∙ q.1 in
      let names : own_names v i ≡ own_names w i =
      own_names_at v i m q.0 r.1 (g.mounts i m e) at (g.mounts r.1.mount q.0 q.1)
      ∙ (λ n. drop (length (still_root r.1.mount q.0 q.1 n).path) (still_dir i m r.1 e at n).path)
      ∙ sym (own_names_at w i m q.0 r.1 e at q.1) in
      below_parent v i j k (parent-is v.forest i m r.1 (g.mounts i m e) at ∙ ap Some r.4) ∙ ap (λ l. l ++ own_names v i) (still q.0 on) ∙ ap (λ l. mount_point w j ++ l) names ∙ sym (below_parent w i j h up)

  pub still_point : (i : ℕ) (m : Mount) → mount_at w.forest i ≡ Some m → mount_point v i ≡ mount_point w i
  still_point i = from_end (parent w.forest) IsStill at_end one_up (length w.forest) i (h.forest.no_cycle i)

  -- what a mount showed it shows
  pub still_shows : (m : Mount) (r : TableRow) → mount_at w.forest m.id ≡ Some m → Shows w m r → Shows v m r
  still_shows m r e s = record {
    id = s.id;
    space = s.space;
    parent = s.parent;
    device = (λ n. (filesystem (record v.skel { filesystems = g.skel.filesystems n }) (still_root m.id m e n).fs).name) ∙ s.device;
    root = ap (λ (d : Directory). d.path) (still_root m.id m e) ∙ s.root;
    point = still_point m.id m e ∙ s.point;
    attrs = s.attrs;
  }

  pub still_told : (rows : List TableRow) (r : TableRow) → IsMounted w rows r → IsMounted v rows r
  still_told rows r t =
      let own : mount_at w.forest t.mount.id ≡ Some t.mount = ap (mount_at w.forest) t.shows.id ∙ t.there in
      record { mount = t.mount; there = g.mounts r.id t.mount t.there; shows = still_shows t.mount r own t.shows; top = t.top }

-- ---- the one that is added

-- a filesystem that is found by its name has it
pub named_so : (s : Skeleton) (name : List ℕ) (f : ℕ) → fs_named s name ≡ Some f → (filesystem s f).name ≡ name
named_so s name f e =
    let h = place_found (λ (g : Filesystem). bytes_eq g.name name) s.filesystems 1 f e in
    let at : f - 1 ≡ h.0 = omega (arith, h.2) in
    ap (λ i. (get_or s.filesystems i (record { name = []; kind = []; source = [] })).name) at
    ∙ ap (λ (g : Filesystem). g.name) (get_or_from_slice_get s.filesystems h.0 h.1 (record { name = []; kind = []; source = [] }) h.3)
    ∙ (bytes_eq-Decides h.1.name name).0 h.4

-- what a directory of a path on a device is
pub on_path : (s : Skeleton) (device : List ℕ) (path : List (List ℕ)) (dir : ℕ) → IsOn s device path dir → (directory s dir).path ≡ path
on_path s device path dir o = ap (λ (d : Directory). d.path) (at_directory s dir (record { fs = o.fs; path = path }) o.there)

pub on_device : (s : Skeleton) (device : List ℕ) (path : List (List ℕ)) (dir : ℕ) → IsOn s device path dir → (filesystem s (directory s dir).fs).name ≡ device
on_device s device path dir o = ap (λ (d : Directory). (filesystem s d.fs).name) (at_directory s dir (record { fs = o.fs; path = path }) o.there) ∙ named_so s device o.fs o.named

-- the names below a path lead to the other one
pub names_join : (front path names : List (List ℕ)) → names_below front path ≡ Some names → front ++ names ≡ path
names_join front path names e = go (path_eq (take (length front) path) front) refl e
  where
    go : (b : Bool) → path_eq (take (length front) path) front ≡ b → (if b then Some (drop (length front) path) else None) ≡ Some names → front ++ names ≡ path
    go true t f =
        let same : drop (length front) path ≡ names = same_Some _ _ f in
        ap (λ l. l ++ names) (sym ((path_eq-Decides (take (length front) path) front).0 t)) ∙ ap (λ l. take (length front) path ++ l) (sym same) ∙ take-append-drop (length front) path
    go false t f = absurd (let v : None ≡ Some names = f in cc)

-- a row that stands at `/` has a mount point without names
at_root : (rows : List TableRow) (r : TableRow) → is_root_of_table rows r ≡ true → r.point ≡ []
at_root rows r e = (path_eq-Decides r.point []).0 (and_first _ _ e)

-- the root mount of a row
pub root_told : (v : WorldView) (rows : List TableRow) (m : Mount) (r : TableRow) → IsWellFormed v → mount_at v.forest m.id ≡ Some m → IsMountOf v.skel r None m → is_root_of_table rows r ≡ true → IsMounted v rows r
root_told v rows m r h e o top = record {
  mount = m;
  there = ap (mount_at v.forest) (sym o.id) ∙ e;
  shows = record {
    id = o.id;
    space = o.space;
    parent = λ p f. let v : None ≡ Some p = sym o.place ∙ f in absurd (cc);
    device = on_device v.skel r.device r.root m.root o.root;
    root = on_path v.skel r.device r.root m.root o.root;
    point = point_of_root v m.id m e o.place ∙ sym (at_root rows r top);
    attrs = o.attrs;
  };
  top = ap is_none o.place ∙ sym top;
}

-- where a mount stands that has the place of a row on another one: at the mount point of the row
module _ (v : WorldView) (rows : List TableRow) (m : Mount) (r a : TableRow) (p : Place) (h : IsWellFormed v) (e : mount_at v.forest m.id ≡ Some m) (at : m.place ≡ Some p) (o : IsPlaceOn v.skel r a p) (t : IsMounted v rows a) where
  names : (l : List (List ℕ)) × (names_below a.point r.point ≡ Some l) × (a.root ++ l ≡ o.path)
  names = mapped (λ l. a.root ++ l) (names_below a.point r.point) o.path o.below

  above : mount_point v a.id ≡ a.point
  above = ap (mount_point v) (sym t.shows.id) ∙ t.shows.point

  pub parent_told : mount_at v.forest p.mount ≡ Some t.mount
  parent_told = ap (mount_at v.forest) o.on ∙ t.there

  own : own_names v m.id ≡ names.0
  own =
      own_names_at v m.id m t.mount p e at parent_told
      ∙ (λ n. drop (length (t.shows.root n)) (on_path v.skel a.device o.path p.dir o.at n))
      ∙ ap (drop (length a.root)) (sym names.2) ∙ drop-append_seam a.root names.0

  pub place_point : mount_point v m.id ≡ r.point
  place_point =
      below_parent v m.id a.id h (parent-is v.forest m.id m p e at ∙ ap Some o.on) ∙ ap (λ l. l ++ own_names v m.id) above ∙ ap (λ l. a.point ++ l) own
      ∙ names_join a.point r.point names.0 names.1

-- and the mount of one on that of another
pub leaf_told : (v : WorldView) (rows : List TableRow) (m : Mount) (r a : TableRow) → IsWellFormed v → mount_at v.forest m.id ≡ Some m → IsMountOf v.skel r (Some a) m → IsMounted v rows a → a.id ≡ r.parent → is_root_of_table rows r ≡ false → IsMounted v rows r
leaf_told v rows m r a h e o t up low = record {
  mount = m;
  there = ap (mount_at v.forest) (sym o.id) ∙ e;
  shows = record {
    id = o.id;
    space = o.space;
    parent = λ p f. ap (λ (q : Place). q.mount) (same_Some p o.place.0 (sym f ∙ o.place.1)) ∙ (o.place.2.on ∙ up);
    device = on_device v.skel r.device r.root m.root o.root;
    root = on_path v.skel r.device r.root m.root o.root;
    point = place_point v rows m r a o.place.0 h e o.place.1 o.place.2 t;
    attrs = o.attrs;
  };
  top = ap is_none o.place.1 ∙ sym low;
}
