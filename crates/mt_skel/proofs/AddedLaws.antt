-- What is answered where a filesystem or a directory is added.
use Rattle.std.proofs.Common.{◌≡◌, ◌⊎◌, slice_get, ℕ, ◌<◌, ◌≤◌, nat_le, true, false, refl, List, [], ◌∷◌, ◌++◌, length, Some, None, Ok, Err, sym, arith}
use Rattle.std.specs.Option.{is_some}
use Rattle.std.proofs.lemmas.Bool.{lt-ltb}
use Rattle.std.proofs.lemmas.Bool.Decides.{nat_tests}
use Rattle.std.proofs.lemmas.List.{nil_from_length}
use Rattle.std.proofs.lemmas.Option.{slice_get_within}
use Rattle.mt_skel.specs.declared.fault.Fault.TheVariants.{TooMany, EntryExists}
use Rattle.mt_skel.specs.Skeleton.{Skeleton, Filesystem, IsSkeleton, is_filesystem, is_directory, directory, fs_named, directory_number, child, added_fs, added_dir, filesystems_at_most, directories_at_most, with_fs, with_dir}
use Rattle.mt_skel.proofs.ListLaws.{take_front}
use Rattle.mt_skel.proofs.SkeletonLaws.{at_number, number_at, at_directory, child_number, filesystem_within}

-- a filesystem whose name is free: refused at a limit, and otherwise added
module _ (s : Skeleton) (f : Filesystem) (free : fs_named s f.name ≡ None) where
  pub many_fs : (nat_le (filesystems_at_most s) (length s.filesystems) ≡ true) ⊎ (nat_le (directories_at_most s) (length s.directories) ≡ true) → added_fs s f ≡ Err TooMany
  many_fs full = grind (arith, nat_tests)

  pub fs_added : nat_le (filesystems_at_most s) (length s.filesystems) ≡ false → nat_le (directories_at_most s) (length s.directories) ≡ false → added_fs s f ≡ Ok (with_fs s f)
  fs_added l m = grind (arith, nat_tests)

-- the root of a filesystem that is there is there
pub root_exists : (s : Skeleton) → IsSkeleton s → (name : List ℕ) (path : List (List ℕ)) (f : ℕ) → fs_named s name ≡ Some f → length path ≡ 0 → is_filesystem s f ≡ true → added_dir s name path ≡ Err EntryExists
root_exists s is name path f fs none valid =
    let within = filesystem_within s f valid in
    let root = is.rooted f within.0 within.1 in
    rw (nil_from_length path none, fs, number_at s is (record { fs = f; path = [] }) root.0 root.1) refl

-- a filesystem is there, and in it the directory above the last name of a path
pub record IsPlaced (s : Skeleton) (fs : List ℕ) (path : List (List ℕ)) (f : ℕ) (front : List (List ℕ)) (last : List ℕ) (parent : ℕ) : Type 0 where
  pub named : fs_named s fs ≡ Some f
  pub split : path ≡ front ++ last ∷ []
  pub found : directory_number s (record { fs = f; path = front }) ≡ Some parent

module _ {s : Skeleton} {fs : List ℕ} {path : List (List ℕ)} {f : ℕ} {front : List (List ℕ)} {last : List ℕ} {parent : ℕ} (p : IsPlaced s fs path f front last parent) where
  place : slice_get s.directories parent ≡ Some (record { fs = f; path = front })
  place = at_number s (record { fs = f; path = front }) parent p.found

  pub parent_at : directory s parent ≡ record { fs = f; path = front }
  parent_at = at_directory s parent (record { fs = f; path = front }) place

  pub parent_there : is_directory s parent ≡ true
  parent_there = lt-ltb parent (length s.directories) (slice_get_within s.directories parent (record { fs = f; path = front }) place)

  -- that a directory of this name is there says whether the parent has it
  same_number : directory_number s (record { fs = f; path = path }) ≡ child s parent last
  same_number = rw p.split (sym (child_number s parent (record { fs = f; path = front }) last place))

  pub dir_exists : is_some (child s parent last) ≡ true → added_dir s fs path ≡ Err EntryExists
  dir_exists there = rw (p.named, take_front path front last p.split, p.found, same_number, there) refl

  pub many_dirs : is_some (child s parent last) ≡ false → (32 < length path) ⊎ (nat_le (directories_at_most s) (length s.directories) ≡ true) → added_dir s fs path ≡ Err TooMany
  many_dirs free full = rw (p.named, take_front path front last p.split, p.found, same_number, free) (grind (arith, nat_tests))

  pub dir_added : is_some (child s parent last) ≡ false → length path ≤ 32 → nat_le (directories_at_most s) (length s.directories) ≡ false → added_dir s fs path ≡ Ok (with_dir s (record { fs = f; path = (directory s parent).path ++ last ∷ [] }))
  dir_added free l m = rw (p.named, take_front path front last p.split, p.found, same_number, free, parent_at, ← p.split) (grind (arith, nat_tests))
