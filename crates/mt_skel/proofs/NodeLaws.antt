-- The skeleton of a list of nodes.
use Rattle.std.proofs.Common.{◌≡◌, ◌≢◌, true, false, cond, ltb, ℕ, zero, suc, ◌+◌, ◌-◌, ◌<◌, List, [], ◌∷◌, ◌++◌, length, map, get_or, Option, Some, None, slice_get, refl, sym, ap, ◌∙◌, inl, inr, arith, length-append, add-zero, zero-add}
use Rattle.std.specs.List.{position_from, position_or_len}
use Rattle.std.specs.Option.{option_map, unwrap_or}
use Rattle.std.specs.Str.{bytes_eq}
use Rattle.std.proofs.lemmas.Bool.Decides.{nat_tests}
use Rattle.std.proofs.lemmas.Iterator.Adapters.{position_from-zero}
use Rattle.std.proofs.lemmas.List.{length-map, same_from_push}
use Rattle.std.proofs.lemmas.Option.{slice_get_within, slice_get_cases, slice_get_read, slice_get-get_or, get_or_from_slice_get, same_Some}
use Rattle.std.proofs.lemmas.Bool.{lt-ltb}
use Rattle.mt_skel.specs.Skeleton.{Skeleton, IsSkeleton, Directory, Filesystem, directory, is_filesystem, is_directory, fs_named, root_of, child, holds}
use Rattle.mt_skel.specs.declared.skel.Filesystem.{Filesystem as FilesystemNode}
use Rattle.mt_skel.specs.declared.skel.Link.{Link}
use Rattle.mt_skel.specs.declared.skel.Node.{Node}
use Rattle.mt_skel.specs.Nodes.{names_up, dir_of, dirs_from, dirs_of, shown_fs, skeleton_of, skeleton_with, IsUp, IsLaidOut}
use Rattle.mt_skel.proofs.ListLaws.{snoc_some, kept, last_place}
use Rattle.mt_skel.proofs.SkeletonLaws.{holds_up, holds_root, directory_within, filesystem_within, number_at, number_none, directory_at, at_directory, same_place, roomed}

-- no node
pub laid_out_empty : IsLaidOut [] []
unfolding dirs_of
laid_out_empty = record {
  skeleton = record {
    names_once = λ i j f g e. absurd (cc);
    once = λ i j d e. absurd (cc);
    of_filesystem = λ i d e. absurd (cc);
    parents = λ i fs path name e. absurd (cc);
    rooted = λ f l m. absurd (omega arith);
  };
  before = λ d n up e. absurd (cc);
  one_fs = λ d n p up e. absurd (cc);
  roots = λ i f e. absurd (cc);
}

pub skeleton_empty : (fs : List FilesystemNode) (ns : List Node) → fs ≡ [] → ns ≡ [] → skeleton_with fs ns 1 ≡ record { filesystems = []; directories = []; room = 1 }
unfolding dirs_of
skeleton_empty fs ns ef en = rw (ef, en)

length-dirs_from : (done : List Directory) (ns : List Node) → length (dirs_from done ns) ≡ length done + length ns
length-dirs_from done [] = omega arith
length-dirs_from done (n ∷ ns) = omega (arith, length-dirs_from (done ++ dir_of done n ∷ []) ns, length-append done (dir_of done n ∷ []))

-- there is a directory for each node
pub length-dirs_of : (ns : List Node) → length (dirs_of ns) ≡ length ns
unfolding dirs_of
length-dirs_of ns = omega (arith, length-dirs_from [] ns)

-- what stands already stays
stays : (done : List Directory) (ns : List Node) (i : ℕ) (p : Directory) → slice_get done i ≡ Some p → slice_get (dirs_from done ns) i ≡ Some p
stays done [] i p e = e
stays done (n ∷ ns) i p e = stays (done ++ dir_of done n ∷ []) ns i p (kept done (dir_of done n) p i e)

names_stay : (done : List Directory) (ns : List Node) (o : Option Link) → ((up : Link) → o ≡ Some up → up.dir < length done) → names_up done o ≡ names_up (dirs_from done ns) o
names_stay done ns None low = refl
names_stay done ns (Some up) low =
    let none : Directory = record { fs = 0; path = [] } in
    ap (λ (p : Directory). p.path ++ up.name ∷ []) (sym (get_or_from_slice_get (dirs_from done ns) up.dir _ none (stays done ns up.dir _ (slice_get-get_or done up.dir none (low up refl)))))

entry : (done : List Directory) (ns : List Node) (k : ℕ) (n : Node) → slice_get ns k ≡ Some n → ((up : Link) → n.up ≡ Some up → up.dir < length done + k)
    → slice_get (dirs_from done ns) (length done + k) ≡ Some (dir_of (dirs_from done ns) n)
entry done [] k n e low = absurd (cc)
entry done (x ∷ ns) zero n e low =
    let same : x ≡ n = grind (arith, e) in
    let names = names_stay done (x ∷ ns) x.up (λ up is. let l = low up (sym (ap (λ y. y.up) same) ∙ is) in omega arith) in
    ap (slice_get (dirs_from done (x ∷ ns))) (add-zero (length done)) ∙ stays (done ++ dir_of done x ∷ []) ns (length done) (dir_of done x) (last_place done (dir_of done x))
    ∙ (λ i. Some (record { fs = x.fs; path = names i })) ∙ ap (λ m. Some (dir_of (dirs_from done (x ∷ ns)) m)) same
entry done (x ∷ ns) (suc k) n e low =
    let next = done ++ dir_of done x ∷ [] in
    let size : length next ≡ length done + 1 = length-append done (dir_of done x ∷ []) in
    let shift : length done + suc k ≡ length next + k = omega arith in
    rw shift (entry next ns k n e (λ up is. let l = low up is in omega arith))

entry_of : (ns : List Node) (d : ℕ) (n : Node) → slice_get ns d ≡ Some n → ((up : Link) → n.up ≡ Some up → up.dir < d) → slice_get (dirs_of ns) d ≡ Some (dir_of (dirs_of ns) n)
unfolding dirs_of
entry_of ns d n e low = rw (sym (zero-add d)) (entry [] ns d n e (λ up is. let l = low up is in omega arith))

dirs_from_push : (done : List Directory) (ns : List Node) (n : Node) → dirs_from done (ns ++ n ∷ []) ≡ dirs_from done ns ++ dir_of (dirs_from done ns) n ∷ []
dirs_from_push done [] n = refl
dirs_from_push done (x ∷ ns) n = dirs_from_push (done ++ dir_of done x ∷ []) ns n

-- one node more is one directory more, after the others
pub dirs_push : (ns : List Node) (n : Node) → dirs_of (ns ++ n ∷ []) ≡ dirs_of ns ++ dir_of (dirs_of ns) n ∷ []
unfolding dirs_of
dirs_push ns n = dirs_from_push [] ns n

module _ (fs : List FilesystemNode) (ns : List Node) (t : IsLaidOut fs ns) where
  -- the directory of a node
  pub dir_at : (d : ℕ) (n : Node) → slice_get ns d ≡ Some n → slice_get (dirs_of ns) d ≡ Some (dir_of (dirs_of ns) n)
  dir_at d n e = entry_of ns d n e (λ up is. t.before d n up e is)

  pub node_within : (d : ℕ) → d < length ns → (n : Node) × (slice_get ns d ≡ Some n)
  node_within d l = elim (slice_get_cases ns d).1 [ inl h ↦ (h.0, h.2) | inr past ↦ absurd (omega (arith, past.0)) ]

  pub node_at : (d : ℕ) (p : Directory) → slice_get (dirs_of ns) d ≡ Some p → (n : Node) × (slice_get ns d ≡ Some n) × (p ≡ dir_of (dirs_of ns) n)
  node_at d p e =
      let h = node_within d (omega (arith, slice_get_within (dirs_of ns) d p e, length-dirs_of ns)) in
      (h.0, h.1, same_Some p (dir_of (dirs_of ns) h.0) (sym e ∙ dir_at d h.0 h.1))

  pub there_at : (d : ℕ) → d < length ns → slice_get (dirs_of ns) d ≡ Some (directory (skeleton_of fs ns) d)
  there_at d l = directory_at (skeleton_of fs ns) d (omega (arith, length-dirs_of ns))

  -- the directory of a node that has a parent
  pub dir_under : (d : ℕ) (n : Node) (up : Link) → slice_get ns d ≡ Some n → n.up ≡ Some up
      → slice_get (dirs_of ns) d ≡ Some (record { fs = (directory (skeleton_of fs ns) up.dir).fs; path = (directory (skeleton_of fs ns) up.dir).path ++ up.name ∷ [] })
  dir_under d n up e is =
      let low = t.before d n up e is in
      let parent = node_at up.dir (directory (skeleton_of fs ns) up.dir) (there_at up.dir (omega (arith, slice_get_within ns d n e))) in
      let one : n.fs ≡ (directory (skeleton_of fs ns) up.dir).fs = sym (ap (λ p. p.fs) parent.2 ∙ t.one_fs d n parent.0 up e is parent.1) in
      let names : names_up (dirs_of ns) n.up ≡ (directory (skeleton_of fs ns) up.dir).path ++ up.name ∷ [] = ap (names_up (dirs_of ns)) is in
      dir_at d n e ∙ (λ i. Some (record { fs = one i; path = names i }))

  -- the directory of a root
  pub dir_root : (d : ℕ) (n : Node) → slice_get ns d ≡ Some n → n.up ≡ None → slice_get (dirs_of ns) d ≡ Some (record { fs = n.fs; path = [] })
  dir_root d n e is = dir_at d n e ∙ (λ i. Some (record { fs = n.fs; path = names_up (dirs_of ns) (is i) }))

  pub child_found : (d dir : ℕ) (n : Node) (name : List ℕ) → slice_get ns d ≡ Some n → IsUp n dir name → child (skeleton_of fs ns) dir name ≡ Some d
  child_found d dir n name e u =
      let s = skeleton_of fs ns in
      number_at s t.skeleton (record { fs = (directory s dir).fs; path = (directory s dir).path ++ name ∷ [] }) d
      (dir_under d n u.0 e u.1 ∙ ap (λ k. Some (record { fs = (directory s k).fs; path = (directory s k).path ++ u.0.name ∷ [] })) u.2 ∙ ap (λ (x : List ℕ). Some (record { fs = (directory s dir).fs; path = (directory s dir).path ++ x ∷ [] })) u.3)

  pub child_none : (dir : ℕ) (name : List ℕ) → ((d : ℕ) (n : Node) → slice_get ns d ≡ Some n → ¬ (IsUp n dir name)) → child (skeleton_of fs ns) dir name ≡ None
  child_none dir name off = number_none s below (λ d e. let h = node_at d below e in off d h.0 h.1 (by d h.0 h.1 e h.0.up refl))
    where
      s : Skeleton
      s = skeleton_of fs ns

      outer : Directory
      outer = directory s dir

      below : Directory
      below = record { fs = outer.fs; path = outer.path ++ name ∷ [] }

      by : (d : ℕ) (n : Node) → slice_get ns d ≡ Some n → slice_get (dirs_of ns) d ≡ Some below → (o : Option Link) → n.up ≡ o → IsUp n dir name
      by d n e at None up =
          let root = same_Some {A = Directory} below (record { fs = n.fs; path = [] }) (sym at ∙ dir_root d n e up) in
          absurd (snoc_some outer.path name (ap (λ p. p.path) root))
      by d n e at (Some up) u =
          let q = directory s up.dir in
          let w = same_Some {A = Directory} below (record { fs = q.fs; path = q.path ++ up.name ∷ [] }) (sym at ∙ dir_under d n up e u) in
          let names = same_from_push outer.path q.path name up.name (ap (λ p. p.path) w) in
          let one = ap (λ p. p.fs) w in
          let same : outer ≡ q = λ i. record { fs = one i; path = names.0 i } in
          (up, u, same_place s t.skeleton dir up.dir q same (there_at up.dir (omega (arith, t.before d n up e u, slice_get_within ns d n e))), sym names.1)

  -- each directory is of a filesystem that is there
  pub fs_there : (d : ℕ) → d < length ns → is_filesystem (skeleton_of fs ns) (directory (skeleton_of fs ns) d).fs ≡ true
  fs_there d l =
      let h = t.skeleton.of_filesystem d (directory (skeleton_of fs ns) d) (there_at d l) in
      grind (arith, nat_tests)

-- how many filesystems and directories there are, as a skeleton is seen
pub counted : (fs : List FilesystemNode) (ns : List Node) {k : ℕ} (v : Skeleton) → skeleton_with fs ns k ≡ v → (length v.filesystems ≡ length fs) × (length v.directories ≡ length ns)
counted fs ns v view = rw (← view) (length-map fs shown_fs, length-dirs_of ns)

-- a number of a directory is within the nodes
pub dir_within : (fs : List FilesystemNode) (ns : List Node) {k : ℕ} (v : Skeleton) (d : ℕ) → skeleton_with fs ns k ≡ v → is_directory v d ≡ true → d < length ns
dir_within fs ns v d view h = omega (arith, directory_within v d h, counted fs ns v view)

-- what is always true of a skeleton is true of the one that is seen
pub sound : {fs : List FilesystemNode} {ns : List Node} {k : ℕ} → IsLaidOut fs ns → (v : Skeleton) → skeleton_with fs ns k ≡ v → IsSkeleton v
sound {fs} {ns} {k} t v view = rw (← view) (roomed (skeleton_of fs ns) k t.skeleton)

-- what a node that is read says of its directory: one without a parent is a root, and another has one name more than its parent
pub record IsRoot (v : Skeleton) (d : ℕ) : Type 0 where
  pub path : (directory v d).path ≡ []
  pub alone : (outer : ℕ) → d ≢ outer → holds v outer d ≡ false

pub record IsBelow (v : Skeleton) (d : ℕ) (up : Link) : Type 0 where
  pub low : up.dir < d
  pub there : is_directory v up.dir ≡ true
  pub path : (directory v d).path ≡ (directory v up.dir).path ++ up.name ∷ []
  pub held : (outer : ℕ) → d ≢ outer → holds v outer up.dir ≡ holds v outer d

module _ {fs : List FilesystemNode} {ns : List Node} {k : ℕ} (t : IsLaidOut fs ns) (v : Skeleton) (view : skeleton_with fs ns k ≡ v) (d : ℕ) (n : Node) (l : d < length ns) (read : n ≡ get_or ns d n) where
  at : slice_get ns d ≡ Some n
  at = slice_get_read ns (length ns) d n refl l read

  pub fs_read : n.fs ≡ (directory v d).fs
  fs_read = rw (← view) (sym (ap (λ p. p.fs) (at_directory (skeleton_of fs ns) d (dir_of (dirs_of ns) n) (dir_at fs ns t d n at))))

  pub root_read : n.up ≡ None → IsRoot v d
  root_read is =
      let e = dir_root fs ns t d n at is in
      rw (← view) (record {
        path = ap (λ x. x.path) (at_directory (skeleton_of fs ns) d (record { fs = n.fs; path = [] }) e);
        alone = λ outer ne. holds_root (skeleton_of fs ns) t.skeleton outer d n.fs e ne;
      })

  pub below_read : (up : Link) → n.up ≡ Some up → IsBelow v d up
  below_read up is =
      let s = skeleton_of fs ns in
      let e = dir_under fs ns t d n up at is in
      let low = t.before d n up at is in
      let within : up.dir < length (dirs_of ns) = omega (arith, length-dirs_of ns) in
      rw (← view) (record {
        low = low;
        there = lt-ltb up.dir (length (dirs_of ns)) within;
        path = ap (λ x. x.path) (at_directory s d (record { fs = (directory s up.dir).fs; path = (directory s up.dir).path ++ up.name ∷ [] }) e);
        held = λ outer ne. holds_up s t.skeleton outer d up.dir up.name within e ne;
      })

-- a filesystem that is read says where its root is
module _ {fs : List FilesystemNode} {ns : List Node} {k : ℕ} (t : IsLaidOut fs ns) (v : Skeleton) (view : skeleton_with fs ns k ≡ v) (f : ℕ) (n : FilesystemNode) (valid : is_filesystem v f ≡ true) (read : n ≡ get_or fs (f - 1) n) where
  pub root_place : slice_get v.directories n.root ≡ Some (record { fs = f; path = [] })
  root_place =
      let within = filesystem_within v f valid in
      let at = slice_get_read fs (length fs) (f - 1) n refl (omega (arith, within, counted fs ns v view)) read in
      let next : f - 1 + 1 ≡ f = omega (arith, within) in
      rw (← view) (t.roots (f - 1) n at ∙ ap (λ m. Some (record { fs = m; path = [] })) next)

  pub root_number : n.root ≡ root_of v f
  root_number = sym (ap (λ o. unwrap_or o 0) (number_at v (sound t v view) (record { fs = f; path = [] }) n.root root_place))

-- the number of a filesystem, from its place among the nodes
numbered : (name : List ℕ) (fs : List FilesystemNode) (k m : ℕ) → m ≡ k + 1 → position_from (λ (f : Filesystem). bytes_eq f.name name) m (map shown_fs fs) ≡ option_map (λ i. i + 1) (position_from (λ (f : FilesystemNode). bytes_eq f.name name) k fs)
numbered name [] k m e = refl
numbered name (f ∷ fs) k m e = grind (arith, numbered name fs (k + 1) (m + 1) (omega arith))

pub fs_numbered : (fs : List FilesystemNode) (ns : List Node) (name : List ℕ) (r : Option ℕ)
    → r ≡ cond (ltb (position_or_len (λ (f : FilesystemNode). bytes_eq f.name name) fs) (length fs)) (Some (position_or_len (λ (f : FilesystemNode). bytes_eq f.name name) fs)) None
    → option_map (λ i. i + 1) r ≡ fs_named (skeleton_of fs ns) name
fs_numbered fs ns name r e =
    ap (option_map (λ i. i + 1)) (e ∙ position_from-zero (λ (f : FilesystemNode). bytes_eq f.name name) fs) ∙ sym (numbered name fs 0 1 (omega arith))
