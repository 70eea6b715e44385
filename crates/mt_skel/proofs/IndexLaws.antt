-- A skeleton that grows by a node, and the directories that are found by their names in it.
use Rattle.std.proofs.Common.{◌≡◌, ◌⊎◌, ℕ, ◌+◌, ◌<◌, ◌==◌, ◌&&◌, true, cond, List, [], ◌∷◌, ◌++◌, length, map, Option, Some, None, Decides, IfSome, slice_get, refl, sym, ap, ◌∙◌, inl, inr, arith}
use Rattle.std.specs.Str.{bytes_eq}
use Rattle.std.proofs.lemmas.Bool.{lt-ltb}
use Rattle.std.proofs.lemmas.Bool.Decides.{Decides-eqb, Decides-and}
use Rattle.std.proofs.lemmas.List.{length_push, length-map, map-append}
use Rattle.std.proofs.lemmas.Option.{slice_get_within}
use Rattle.std.proofs.lemmas.Slice.Eq.{bytes_eq-Decides}
use Rattle.mt_skel.specs.Children.{child_in}
use Rattle.mt_skel.specs.Skeleton.{Skeleton, directory, fs_named, child, is_directory, with_dir, with_fs}
use Rattle.mt_skel.specs.declared.skel.Filesystem.{Filesystem as FilesystemNode}
use Rattle.mt_skel.specs.declared.skel.Node.{Node}
use Rattle.mt_skel.specs.Nodes.{dir_of, dirs_of, shown_fs, skeleton_of, skeleton_with, AreFoundByName, IsKeptSkeleton, IsLaidOut}
use Rattle.mt_skel.proofs.ListLaws.{pushed, kept, last_place}
use Rattle.mt_skel.proofs.SkeletonLaws.{skeleton_with_dir, skeleton_with_fs}
use Rattle.mt_skel.proofs.NodeLaws.{length-dirs_of, dirs_push, node_at, there_at, counted, dir_within, laid_out_empty, child_found, child_none}

-- a directory below one that is there
module _ (fs : List FilesystemNode) (ns : List Node) (t : IsLaidOut fs ns) (dir f : ℕ) (name : List ℕ) (there : dir < length ns) (same : f ≡ (directory (skeleton_of fs ns) dir).fs) where
  pub dir_view : skeleton_of fs (ns ++ record { fs = f; up = Some (record { dir = dir; name = name }) } ∷ []) ≡ with_dir (skeleton_of fs ns) (record { fs = f; path = (directory (skeleton_of fs ns) dir).path ++ name ∷ [] })
  dir_view = let grown = dirs_push ns (record { fs = f; up = Some (record { dir = dir; name = name }) }) in λ i. record { filesystems = map shown_fs fs; directories = grown i; room = 1 }

  pub dir_laid_out : child (skeleton_of fs ns) dir name ≡ None → IsLaidOut fs (ns ++ record { fs = f; up = Some (record { dir = dir; name = name }) } ∷ [])
  dir_laid_out absent = record {
    skeleton = rw (dir_view, same) (skeleton_with_dir (skeleton_of fs ns) t.skeleton dir (directory (skeleton_of fs ns) dir) name (there_at fs ns t dir there) absent);
    before = λ d n up e is. grind (arith, pushed ns node n d e, t.before d n up);
    one_fs = λ d n p up e is pe.
        let parent = node_at fs ns t dir (directory (skeleton_of fs ns) dir) (there_at fs ns t dir there) in
        grind (arith, pushed ns node n d e, pushed ns node p up.dir pe, t.one_fs d n p up, t.before d n up, slice_get_within ns d n, parent.1, ap (λ x. x.fs) parent.2);
    roots = λ i g e. rw (dirs_push ns node) (kept (dirs_of ns) (dir_of (dirs_of ns) node) (record { fs = i + 1; path = [] }) g.root (t.roots i g e));
  }
    where
      node : Node
      node = record { fs = f; up = Some (record { dir = dir; name = name }) }

-- a root, and its filesystem
module _ (fs : List FilesystemNode) (ns : List Node) (t : IsLaidOut fs ns) (f : FilesystemNode) (number : ℕ) (root : f.root ≡ length ns) (next : number ≡ length fs + 1) where
  pub fs_view : skeleton_of (fs ++ f ∷ []) (ns ++ record { fs = number; up = None } ∷ []) ≡ with_fs (skeleton_of fs ns) (shown_fs f)
  fs_view =
      let shown = map-append shown_fs fs (f ∷ []) in
      let same : number ≡ length (map shown_fs fs) + 1 = omega (arith, length-map fs shown_fs) in
      let grown = dirs_push ns (record { fs = number; up = None }) ∙ ap (λ k. dirs_of ns ++ record { fs = k; path = [] } ∷ []) same in
      λ i. record { filesystems = shown i; directories = grown i; room = 1 }

  pub fs_laid_out : fs_named (skeleton_of fs ns) f.name ≡ None → IsLaidOut (fs ++ f ∷ []) (ns ++ record { fs = number; up = None } ∷ [])
  fs_laid_out free = record {
    skeleton = rw fs_view (skeleton_with_fs (skeleton_of fs ns) t.skeleton (shown_fs f) free);
    before = λ d n up e is. grind (arith, pushed ns node n d e, t.before d n up);
    one_fs = λ d n p up e is pe. grind (arith, pushed ns node n d e, pushed ns node p up.dir pe, t.one_fs d n p up, t.before d n up, slice_get_within ns d n);
    roots = λ i g e. rw (dirs_push ns node) (elim (pushed fs f g i e) [
      | inl old ↦ kept (dirs_of ns) (dir_of (dirs_of ns) node) (record { fs = i + 1; path = [] }) g.root (t.roots i g old)
      | inr last ↦
          let place : length (dirs_of ns) ≡ g.root = omega (arith, length-dirs_of ns, ap (λ x. x.root) last.1) in
          let k : number ≡ i + 1 = omega (arith, last.0) in
          ap (slice_get (dirs_of ns ++ dir_of (dirs_of ns) node ∷ [])) (sym place) ∙ last_place (dirs_of ns) (dir_of (dirs_of ns) node) ∙ ap (λ m. Some (record { fs = m; path = [] })) k
    ]);
  }
    where
      node : Node
      node = record { fs = number; up = None }

-- no node
pub kept_empty : (fs : List FilesystemNode) (ns : List Node) (children : List (List (List ℕ × ℕ))) → fs ≡ [] → ns ≡ [] → children ≡ [] → IsKeptSkeleton fs ns children
kept_empty fs ns children ef en ec = rw (ef, en, ec) (record {
  laid_out = laid_out_empty;
  indexed = record { sized = refl; found = λ dir d name e. absurd (cc); all = λ dir d name n at up. absurd (cc) };
})

-- what is found is the child
pub child_is : (fs : List FilesystemNode) (ns : List Node) (children : List (List (List ℕ × ℕ))) → IsKeptSkeleton fs ns children → (dir : ℕ) (name : List ℕ) → child_in children dir name ≡ child (skeleton_of fs ns) dir name
child_is fs ns children t dir name = by (child_in children dir name) refl
  where
    by : (o : Option ℕ) → child_in children dir name ≡ o → child_in children dir name ≡ child (skeleton_of fs ns) dir name
    by None e = e ∙ sym (child_none fs ns t.laid_out dir name (λ d n at up. grind (arith, e, t.indexed.all dir d name n at up)))
    by (Some d) e =
        let h = t.indexed.found dir d name e in
        e ∙ sym (child_found fs ns t.laid_out d dir h.0 name h.1 h.2)

-- one root more
pub indexed_root : (ns : List Node) (children more : List (List (List ℕ × ℕ))) (n : Node) → AreFoundByName ns children → length more ≡ length children + 1 → ((dir : ℕ) (name : List ℕ) → child_in more dir name ≡ child_in children dir name) → n.up ≡ None
    → AreFoundByName (ns ++ n ∷ []) more
indexed_root ns children more n t size same none = record {
  sized = omega (arith, size, t.sized, length_push ns n);
  found = λ dir d name e. let h = t.found dir d name (sym (same dir name) ∙ e) in (h.0, kept ns n h.0 d h.1, h.2);
  all = λ dir d name m at up. grind (arith, pushed ns n m d at, same dir name, λ (old : slice_get ns d ≡ Some m). t.all dir d name m old up);
}

-- one directory more in another
module _ (ns : List Node) (children more : List (List (List ℕ × ℕ))) (t : AreFoundByName ns children) (parent f : ℕ) (called : List ℕ) where
  abbrev node : Node
  node = record { fs = f; up = Some (record { dir = parent; name = called }) }

  pub indexed_child : child_in children parent called ≡ None → length more ≡ length children + 1
      → ((dir : ℕ) (name : List ℕ) → child_in more dir name ≡ cond ((parent == dir) && bytes_eq called name) (Some (length ns)) (child_in children dir name))
      → AreFoundByName (ns ++ node ∷ []) more
  indexed_child absent size grown = record {
    sized = omega (arith, size, t.sized, length_push ns node);
    found = λ dir d name e. elim (new_or dir name) [
      | inl new ↦
          let place : length ns ≡ d = grind (arith, e, new.2) in
          (node, ap (slice_get (ns ++ node ∷ [])) (sym place) ∙ last_place ns node, (record { dir = parent; name = called }, refl, new.0, new.1))
      | inr old ↦ let h = t.found dir d name (sym old.1 ∙ e) in (h.0, kept ns node h.0 d h.1, h.2)
    ];
    all = λ dir d name m at up. grind (arith, pushed ns node m d at, new_or dir name, absent, λ (before : slice_get ns d ≡ Some m). t.all dir d name m before up);
  }
    where
      decided : (dir : ℕ) (name : List ℕ) → Decides ((parent == dir) && bytes_eq called name) ((parent ≡ dir) × (called ≡ name))
      decided dir name = Decides-and (parent == dir) (bytes_eq called name) (Decides-eqb parent dir) (bytes_eq-Decides called name)

      new_or : (dir : ℕ) (name : List ℕ) → ((parent ≡ dir) × (called ≡ name) × (child_in more dir name ≡ Some (length ns))) ⊎ ((parent ≡ dir → called ≡ name → ⊥) × (child_in more dir name ≡ child_in children dir name))
      new_or dir name = grind (arith, decided dir name, grown dir name)

-- a directory or a filesystem is added: what the type keeps stays true, and the skeleton that is seen has one more
pub child_kept : {fs : List FilesystemNode} {ns grown : List Node} {children : List (List (List ℕ × ℕ))} {k : ℕ} (more : List (List (List ℕ × ℕ))) (v : Skeleton) (parent f number : ℕ) (name copy : List ℕ) → IsKeptSkeleton fs ns children → skeleton_with fs ns k ≡ v
    → is_directory v parent ≡ true → f ≡ (directory v parent).fs → child v parent name ≡ None → copy ≡ name → number ≡ length ns → length more ≡ length children + 1
    → ((dir : ℕ) (other : List ℕ) → child_in more dir other ≡ cond ((parent == dir) && bytes_eq copy other) (Some number) (child_in children dir other))
    → grown ≡ ns ++ record { fs = f; up = Some (record { dir = parent; name = name }) } ∷ []
    → IsKeptSkeleton fs grown more × (skeleton_with fs grown k ≡ with_dir v (record { fs = f; path = (directory v parent).path ++ name ∷ [] }))
child_kept {fs} {ns} {children = children} {k = k} more v parent f number name copy t view valid same absent copied place size found longer =
    let there = dir_within fs ns v parent view valid in
    let of : f ≡ (directory (skeleton_of fs ns) parent).fs = same ∙ ap (λ s. (directory s parent).fs) (sym view) in
    let free : child (skeleton_of fs ns) parent name ≡ None = ap (λ s. child s parent name) view ∙ absent in
    rw (longer, ← view) (
      record {
        laid_out = dir_laid_out fs ns t.laid_out parent f name there of free;
        indexed = indexed_child ns children more t.indexed parent f name (child_is fs ns children t parent name ∙ free) size
            (λ dir other. found dir other ∙ (λ i. cond ((parent == dir) && bytes_eq (copied i) other) (Some (place i)) (child_in children dir other)));
      },
      ap (λ (s : Skeleton). record s { room = k }) (dir_view fs ns t.laid_out parent f name there of),
    )

pub fs_kept : {fs more_fs : List FilesystemNode} {ns grown : List Node} {children : List (List (List ℕ × ℕ))} {k : ℕ} (more : List (List (List ℕ × ℕ))) (v : Skeleton) (f : FilesystemNode) (number : ℕ) → IsKeptSkeleton fs ns children → skeleton_with fs ns k ≡ v
    → fs_named v f.name ≡ None → f.root ≡ length ns → number ≡ length fs + 1 → length more ≡ length children + 1 → ((dir : ℕ) (other : List ℕ) → child_in more dir other ≡ child_in children dir other)
    → more_fs ≡ fs ++ f ∷ [] → grown ≡ ns ++ record { fs = number; up = None } ∷ []
    → IsKeptSkeleton more_fs grown more × (skeleton_with more_fs grown k ≡ with_fs v (shown_fs f))
fs_kept {fs} {ns = ns} {children = children} {k = k} more v f number t view free root next size same with_f longer =
    rw (with_f, longer, ← view) (
      record {
        laid_out = fs_laid_out fs ns t.laid_out f number root next (ap (λ s. fs_named s f.name) view ∙ free);
        indexed = indexed_root ns children more (record { fs = number; up = None }) t.indexed size same refl;
      },
      ap (λ (s : Skeleton). record s { room = k }) (fs_view fs ns t.laid_out f number root next),
    )

-- the child that is found is there
pub child_there : (fs : List FilesystemNode) (ns : List Node) (children : List (List (List ℕ × ℕ))) {k : ℕ} (v : Skeleton) → IsKeptSkeleton fs ns children → skeleton_with fs ns k ≡ v → (o : Option ℕ) (dir : ℕ) (name : List ℕ) → o ≡ child_in children dir name → IfSome o (λ d. is_directory v d ≡ true)
child_there fs ns children v t view None dir name e = tt
child_there fs ns children v t view (Some d) dir name e =
    let h = t.indexed.found dir d name (sym e) in
    lt-ltb d (length v.directories) (omega (arith, slice_get_within ns d h.0 h.1, counted fs ns v view))
