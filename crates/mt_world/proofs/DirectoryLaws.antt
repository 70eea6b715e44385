-- What is made of a skeleton where filesystems and directories are added.
use Rattle.std.proofs.Common.{◌≡◌, ℕ, zero, suc, ◌+◌, ◌-◌, Bool, true, false, cond, nat_lt, nat_le, List, [], ◌∷◌, ◌++◌, length, length-append, take, slice_get, Option, Some, None, Ok, Err, refl, sym, ap, ◌∙◌, subst, inl, inr, arith, append-nil, append_assoc}
use Rattle.std.specs.Option.{is_none, is_some, unwrap_or}
use Rattle.std.specs.List.{position_from}
use Rattle.std.specs.Str.{bytes_eq}
use Rattle.std.proofs.lemmas.Bool.{cases_lt, true≢false}
use Rattle.std.proofs.lemmas.Bool.Decides.{nat_tests}
use Rattle.std.proofs.lemmas.Slice.Eq.{bytes_eq-Decides}
use Rattle.mt_skel.specs.declared.fault.Fault.{Fault}
use Rattle.mt_skel.specs.declared.fault.Fault.TheVariants.{TooMany, NoFilesystem, FilesystemExists, NoEntry, EntryExists}
use Rattle.mt_skel.specs.Outcome.{refuse_if}
use Rattle.mt_skel.specs.Skeleton.{Skeleton, Directory, Filesystem, IsSkeleton, added_fs, added_dir, root_of, child, with_fs, with_dir, fs_named, is_filesystem, directory_number, filesystems_at_most, directories_at_most, depth_limit}
use Rattle.mt_skel.proofs.AddedLaws.{IsPlaced, dir_added, fs_added}
use Rattle.mt_skel.proofs.ListLaws.{last_place}
use Rattle.mt_skel.proofs.OutcomeLaws.{not_refused, accepted}
use Rattle.mt_skel.proofs.SkeletonLaws.{no_place, number_at, filesystem_within, child_number, child_at, skeleton_with_fs, skeleton_with_dir}
use Rattle.mt_info.specs.Laws.{Grows}
use Rattle.mt_info.proofs.GrownTables.{fs_grows}
use Rattle.mt_world.specs.Kept.{IsNamed}
use Rattle.mt_world.specs.Leaves.{HasMore}
use Rattle.mt_mounts.specs.declared.mount.Place.{Place}
use Rattle.mt_world.specs.declared.row.TableRow.{TableRow}
use Rattle.mt_world.specs.Places.{IsFull, IsOn, StandsOn}

none_of : {A : Type 0} (o : Option A) → is_some o ≡ false → o ≡ None
none_of None e = refl
none_of (Some x) e = absurd (cc)

-- nothing more, and more of more
pub grows_same : (s : Skeleton) → Grows s s
grows_same s = record { new_filesystems = []; new_directories = []; filesystems = sym (append-nil s.filesystems); directories = sym (append-nil s.directories) }

pub grows_on : (s t u : Skeleton) → Grows s t → Grows t u → Grows s u
grows_on s t u g h = record {
  new_filesystems = g.new_filesystems ++ h.new_filesystems;
  new_directories = g.new_directories ++ h.new_directories;
  filesystems = h.filesystems ∙ ap (λ l. l ++ h.new_filesystems) g.filesystems ∙ append_assoc s.filesystems g.new_filesystems h.new_filesystems;
  directories = h.directories ∙ ap (λ l. l ++ h.new_directories) g.directories ∙ append_assoc s.directories g.new_directories h.new_directories;
}

pub more_same : (s : Skeleton) → HasMore s s
more_same s = record { more = []; filesystems = refl; room = refl; directories = sym (append-nil s.directories) }

pub more_on : (s t u : Skeleton) → HasMore s t → HasMore t u → HasMore s u
more_on s t u g h = record {
  more = g.more ++ h.more;
  filesystems = h.filesystems ∙ g.filesystems;
  room = h.room ∙ g.room;
  directories = h.directories ∙ ap (λ l. l ++ h.more) g.directories ∙ append_assoc s.directories g.more h.more;
}

-- the skeleton with a new filesystem that was accepted is in order, and has grown
abbrev fs_refusals : Skeleton → Filesystem → List (Option Fault)
fs_refusals s f =
    refuse_if (is_some (fs_named s f.name)) FilesystemExists
    ∷ refuse_if (nat_le (filesystems_at_most s) (length s.filesystems)) TooMany
    ∷ refuse_if (nat_le (directories_at_most s) (length s.directories)) TooMany ∷ []

pub fs_made : (s t : Skeleton) (f : Filesystem) → IsSkeleton s → added_fs s f ≡ Ok t → IsSkeleton t × Grows s t × (t.room ≡ s.room)
fs_made s t f is e =
    let a = accepted (fs_refusals s f) _ t e in
    let free = none_of _ (not_refused _ _ a.1.0) in
    (subst IsSkeleton a.0 (skeleton_with_fs s is f free), fs_grows s t f (sym a.0), ap (λ (u : Skeleton). u.room) (sym a.0))

-- the root directory of a filesystem
pub root_at : (s : Skeleton) (f : ℕ) → IsSkeleton s → is_filesystem s f ≡ true → slice_get s.directories (root_of s f) ≡ Some (record { fs = f; path = [] })
root_at s f is e =
    let within = filesystem_within s f e in
    let root = is.rooted f within.0 within.1 in
    let at : root_of s f ≡ root.0 = ap (λ o. unwrap_or o 0) (number_at s is (record { fs = f; path = [] }) root.0 root.1) in
    ap (λ i. slice_get s.directories i) at ∙ root.1

-- a filesystem is what it is where directories are made
pub still_named : (s t : Skeleton) (device : List ℕ) (f : ℕ) → HasMore s t → fs_named s device ≡ Some f → fs_named t device ≡ Some f
still_named s t device f g e = ap (λ fs. fs_named (record t { filesystems = fs }) device) g.filesystems ∙ e

pub still_there : (s t : Skeleton) (f : ℕ) → HasMore s t → is_filesystem s f ≡ true → is_filesystem t f ≡ true
still_there s t f g e = ap (λ fs. is_filesystem (record t { filesystems = fs }) f) g.filesystems ∙ e

-- a filesystem is there, and a directory in it
pub record IsBeneath (s : Skeleton) (device : List ℕ) (f : ℕ) (front : List (List ℕ)) (parent : ℕ) : Type 0 where
  pub skeleton : IsSkeleton s
  pub named : fs_named s device ≡ Some f
  pub there : slice_get s.directories parent ≡ Some (record { fs = f; path = front })

module _ (s : Skeleton) (device : List ℕ) (f : ℕ) (front path : List (List ℕ)) (name : List ℕ) (parent : ℕ) (b : IsBeneath s device f front parent) (split : path ≡ front ++ name ∷ []) where
  -- a child that is there has one name more
  pub child_there : (d : ℕ) → child s parent name ≡ Some d → slice_get s.directories d ≡ Some (record { fs = f; path = path })
  child_there d e = child_at s f parent d front name b.there e ∙ ap (λ (p : List (List ℕ)). Some (record { fs = f; path = p })) (sym split)

  -- and one that is not has no number
  no_child : child s parent name ≡ None → directory_number s (record { fs = f; path = front ++ name ∷ [] }) ≡ None
  no_child e = sym (child_number s parent (record { fs = f; path = front }) name b.there) ∙ e

  abbrev new : Directory
  new = record { fs = f; path = path }

  -- a directory that was accepted is there, in a skeleton in order
  pub record IsMade (t : Skeleton) : Type 0 where
    pub skeleton : IsSkeleton t
    pub grown : HasMore s t
    pub there : slice_get t.directories (length s.directories) ≡ Some new

  made : child s parent name ≡ None → IsMade (with_dir s new)
  made e = record {
    skeleton = subst (λ (p : List (List ℕ)). IsSkeleton (with_dir s (record { fs = f; path = p }))) (sym split) (skeleton_with_dir s b.skeleton parent (record { fs = f; path = front }) name b.there (no_child e));
    grown = record { more = new ∷ []; filesystems = refl; room = refl; directories = refl };
    there = last_place s.directories new;
  }

  abbrev dir_refusals : List (Option Fault)
  dir_refusals =
      refuse_if (is_none (fs_named s device)) NoFilesystem
      ∷ refuse_if (is_none (directory_number s (record { fs = unwrap_or (fs_named s device) 0; path = take (length path - 1) path }))) NoEntry
      ∷ refuse_if (is_some (directory_number s (record { fs = unwrap_or (fs_named s device) 0; path = path }))) EntryExists
      ∷ refuse_if (nat_lt depth_limit (length path)) TooMany
      ∷ refuse_if (nat_le (directories_at_most s) (length s.directories)) TooMany ∷ []

  pub dir_made : (t : Skeleton) → child s parent name ≡ None → added_dir s device path ≡ Ok t → IsMade t
  dir_made t none e =
      let a = accepted dir_refusals _ t e in
      let same : with_dir s new ≡ t = ap (λ o. with_dir s (record { fs = unwrap_or o 0; path = path })) (sym b.named) ∙ a.0 in
      subst IsMade same (made none)

  placed : IsPlaced s device path f front name parent
  placed = record { named = b.named; split = split; found = number_at s b.skeleton (record { fs = f; path = front }) parent b.there }

  -- where one was refused, there is no room for it
  pub dir_refused : (fault : Fault) → child s parent name ≡ None → added_dir s device path ≡ Err fault → IsFull s path
  dir_refused fault none e = elim (cases_lt depth_limit (length path)) [
    | inl deep ↦ inl deep
    | inr short ↦ elim (cases_lt (length s.directories) (directories_at_most s)) [
      | inl few ↦
          let added = dir_added placed (ap is_some none) short (grind (arith, nat_tests)) in
          let v : Err fault ≡ Ok _ = sym e ∙ added in
          absurd (cc)
      | inr many ↦ inr many
    ]
  ]

-- a directory of a path on a device is so where others are made
pub on_later : (s t : Skeleton) (device : List ℕ) (path : List (List ℕ)) (dir : ℕ) → HasMore s t → IsOn s device path dir → IsOn t device path dir
on_later s t device path dir g o = record {
  fs = o.fs;
  named = still_named s t device o.fs g o.named;
  there = ap (λ l. slice_get l dir) g.directories ∙ slice_get-append s.directories g.more dir (record { fs = o.fs; path = path }) o.there;
}
  where
    slice_get-append : (xs ys : List Directory) (i : ℕ) (x : Directory) → slice_get xs i ≡ Some x → slice_get (xs ++ ys) i ≡ Some x
    slice_get-append [] ys i x e = absurd (cc)
    slice_get-append (y ∷ xs) ys zero x e = e
    slice_get-append (y ∷ xs) ys (suc i) x e = slice_get-append xs ys i x e

-- and so is where a mount stands
pub stands_later : (s t : Skeleton) (row : TableRow) (above : Option TableRow) (place : Option Place) → HasMore s t → StandsOn s row above place → StandsOn t row above place
stands_later s t row None place g o = o
stands_later s t row (Some above) place g o = (o.0, o.1, record { on = o.2.on; path = o.2.path; below = o.2.below; at = on_later s t above.device o.2.path o.0.dir g o.2.at })

-- ---- the filesystems of devices

-- a filesystem that is found is found where others come behind it
named_more : (xs ys : List Filesystem) (name : List ℕ) (k i : ℕ) → position_from (λ (f : Filesystem). bytes_eq f.name name) k xs ≡ Some i → position_from (λ (f : Filesystem). bytes_eq f.name name) k (xs ++ ys) ≡ Some i
named_more [] ys name k i e = absurd (cc)
named_more (x ∷ xs) ys name k i e = go (bytes_eq x.name name) e (named_more xs ys name (k + 1) i)
  where
    go : (b : Bool) → cond b (Some k) (position_from (λ (f : Filesystem). bytes_eq f.name name) (k + 1) xs) ≡ Some i
        → (position_from (λ (f : Filesystem). bytes_eq f.name name) (k + 1) xs ≡ Some i → position_from (λ (f : Filesystem). bytes_eq f.name name) (k + 1) (xs ++ ys) ≡ Some i)
        → cond b (Some k) (position_from (λ (f : Filesystem). bytes_eq f.name name) (k + 1) (xs ++ ys)) ≡ Some i
    go true e ih = e
    go false e ih = ih e

-- a device that has its filesystem has it where others are made, and where directories are
pub filed_more : (s t : Skeleton) (device : List ℕ) → Grows s t → t.room ≡ s.room → IsNamed s device → IsNamed t device
filed_more s t device g room (inl f) = inl (f.0, ap (λ fs. fs_named (record t { filesystems = fs }) device) g.filesystems ∙ named_more s.filesystems g.new_filesystems device 1 f.0 f.1)
filed_more s t device g room (inr (inl many)) = inr (inl (omega (arith, many, room, ap length g.filesystems, length-append s.filesystems g.new_filesystems)))
filed_more s t device g room (inr (inr many)) = inr (inr (omega (arith, many, room, ap length g.directories, length-append s.directories g.new_directories)))

pub still_filed : (s t : Skeleton) (device : List ℕ) → HasMore s t → IsNamed s device → IsNamed t device
still_filed s t device g (inl f) = inl (f.0, still_named s t device f.0 g f.1)
still_filed s t device g (inr (inl many)) = inr (inl (omega (arith, many, g.room, ap length g.filesystems)))
still_filed s t device g (inr (inr many)) = inr (inr (omega (arith, many, g.room, ap length g.directories, length-append s.directories g.more)))

-- one that was added is found by its name
pub fs_filed : (s t : Skeleton) (f : Filesystem) → added_fs s f ≡ Ok t → IsNamed t f.name
fs_filed s t f e =
    let a = accepted (fs_refusals s f) _ t e in
    subst (λ u. IsNamed u f.name) a.0 (go (fs_named (with_fs s f) f.name) refl)
  where
    go : (o : Option ℕ) → fs_named (with_fs s f) f.name ≡ o → IsNamed (with_fs s f) f.name
    go (Some i) e = inl (i, e)
    go None e =
        let off = no_place (λ (g : Filesystem). bytes_eq g.name f.name) (s.filesystems ++ f ∷ []) 1 e (length s.filesystems) f (last_place s.filesystems f) in
        absurd (true≢false (sym ((bytes_eq-Decides f.name f.name).1 refl) ∙ off))

-- and where one was refused whose name is free, there is no room for it
pub fs_refused : (s : Skeleton) (f : Filesystem) (fault : Fault) → is_some (fs_named s f.name) ≡ false → added_fs s f ≡ Err fault → IsNamed s f.name
fs_refused s f fault free e = elim (cases_lt (length s.filesystems) (filesystems_at_most s)) [
  | inl few ↦ elim (cases_lt (length s.directories) (directories_at_most s)) [
    | inl room ↦
        let added = fs_added s f (none_of _ free) (grind (arith, nat_tests)) (grind (arith, nat_tests)) in
        let v : Err fault ≡ Ok (with_fs s f) = sym e ∙ added in
        absurd (cc)
    | inr many ↦ inr (inr many)
  ]
  | inr many ↦ inr (inl many)
]
