-- Of plain tables every row is kept, if there is room.
use Rattle.std.proofs.Common.{◌≡◌, ℕ, zero, suc, ◌+◌, ◌<◌, ◌≤◌, Bool, true, false, eqb, eq-eqb, List, [], ◌∷◌, ◌++◌, ◌-◌, length, length-append, slice_get, Option, Some, None, refl, sym, ap, subst, ◌∙◌, inl, inr, arith, if◌then◌else◌}
use Rattle.std.specs.Prelude.{is_some, is_none}
use Rattle.std.specs.Option.{option_map_or}
use Rattle.std.proofs.lemmas.Bool.{true≢false}
use Rattle.std.proofs.lemmas.Bool.Decides.{nat_tests}
use Rattle.std.specs.Str.{bytes_eq}
use Rattle.std.proofs.lemmas.Option.{same_Some, slice_get_within, slice_get-get_or}
use Rattle.std.proofs.lemmas.Slice.Eq.{bytes_eq-Decides}
use Rattle.mt_skel.specs.Skeleton.{Skeleton, Directory, Filesystem, IsSkeleton, directory, filesystem, holds, fs_named, directories_at_most, depth_limit}
use Rattle.mt_skel.proofs.SkeletonLaws.{holds-Decides, at_directory, directory_at, place_found}
use Rattle.mt_mounts.specs.declared.mount.Mount.{Mount}
use Rattle.mt_mounts.specs.declared.mount.Place.{Place}
use Rattle.mt_mounts.specs.Forest.{mount_at, on as on_place, is_at, is_root as is_root_mount, root_mount, roots}
use Rattle.mt_mounts.proofs.SlotLaws.{mapped}
use Rattle.mt_mounts.proofs.ForestLaws.{find_row, find_passes}
use Rattle.mt_propagate.specs.World.{WorldView}
use Rattle.mt_propagate.specs.Limits.{too_many_mounts, too_many_spaces, mounts_at_most, spaces_at_most}
use Rattle.mt_propagate.proofs.WalkLaws.{stands_at, root_here}
use Rattle.mt_world.specs.declared.misfit.Misfit.{Misfit}
use Rattle.mt_world.specs.declared.misfit.Misfit.TheVariants.{SameId, SamePlace, SecondRoot, NoRoom}
use Rattle.mt_world.specs.declared.row.TableRow.{TableRow}
use Rattle.mt_world.specs.Fitting.{why_unfit, why_unplaced, why_second_root}
use Rattle.mt_world.specs.Kept.{keeps_row, StandsRightly, WasWhy, AreGrown}
use Rattle.mt_world.specs.Places.{names_below, place_path, IsPlaceOn, IsMountOf, IsWhyNone, IsWhyUnplaced, IsWhyNotPut}
use Rattle.mt_world.specs.Plain.{HasParent, IsPlain, HasRoom}
use Rattle.mt_world.specs.Rows.{is_root_of_table}
use Rattle.mt_world.specs.Told.{Shows}
use Rattle.mt_world.proofs.ToldLaws.{place_point, still_point}

-- a list that has nothing at a place is no longer
pub slice_get_none : {X : Type 0} (xs : List X) (k : ℕ) → slice_get xs k ≡ None → length xs ≤ k
slice_get_none [] k e = omega arith
slice_get_none (x ∷ xs) zero e = absurd (cc)
slice_get_none (x ∷ xs) (suc k) e = let ih = slice_get_none xs k e in omega (arith, ih)

-- two filesystems of one name are one
same_fs : (s : Skeleton) (f g : ℕ) (name : List ℕ) → IsSkeleton s → 1 ≤ f → f ≤ length s.filesystems → (filesystem s f).name ≡ name → fs_named s name ≡ Some g → f ≡ g
same_fs s f g name is low high e named =
    let h = place_found (λ (x : Filesystem). bytes_eq x.name name) s.filesystems 1 g named in
    let at : slice_get s.filesystems (f - 1) ≡ Some (filesystem s f) = slice_get-get_or s.filesystems (f - 1) (record { name = []; kind = []; source = [] }) (omega (arith, low, high)) in
    let one = is.names_once (f - 1) h.0 (filesystem s f) h.1 at h.3 (e ∙ sym ((bytes_eq-Decides h.1.name name).0 h.4)) in
    omega (arith, one, h.2, low)

-- the place of a row is within what its parent shows
held : (s : Skeleton) → IsSkeleton s → (root dir : ℕ) (r on : TableRow) (o : (p : Place) × (p.dir ≡ dir) × IsPlaceOn s r on p) → (filesystem s (directory s root).fs).name ≡ on.device → (directory s root).path ≡ on.root → root < length s.directories → holds s root dir ≡ true
held s is root dir r on o device path there =
    let names = mapped (λ l. on.root ++ l) (names_below on.point r.point) o.2.path o.2.below in
    let of = is.of_filesystem root (directory s root) (directory_at s root there) in
    let at : slice_get s.directories dir ≡ Some (record { fs = o.2.at.fs; path = o.2.path }) = ap (λ d. slice_get s.directories d) (sym o.1) ∙ o.2.at.there in
    let here = at_directory s dir (record { fs = o.2.at.fs; path = o.2.path }) at in
    (holds-Decides s root dir).1 (record {
      there = slice_get_within s.directories dir (record { fs = o.2.at.fs; path = o.2.path }) at;
      one = same_fs s (directory s root).fs o.2.at.fs on.device is of.0 of.1 device o.2.at.named ∙ ap (λ (d : Directory). d.fs) (sym here);
      rest = names.0;
      joined = ap (λ (d : Directory). d.path) here ∙ sym names.2 ∙ ap (λ l. l ++ names.0) (sym path);
    })

module _ (w : WorldView) (rows : List TableRow) (left : List (Option Misfit)) (g : AreGrown w rows left) (p : IsPlain rows) (room : HasRoom w) where
  -- a row that is left out
  module _ (k : ℕ) (r : TableRow) (here : slice_get rows k ≡ Some r) (why : Misfit) (out : slice_get left k ≡ Some (Some why)) where
    not_kept : keeps_row left k → ⊥
    not_kept e = let v : Some None ≡ Some (Some why) = sym e ∙ out in absurd (cc)

    -- no mount is that of its ID
    no_other : (m : Mount) → mount_at w.forest r.id ≡ Some m → ⊥
    no_other m e =
        let j = g.kept.only r.id m e in
        let f = g.kept.found r.id j.0 j.1 in
        not_kept (subst (keeps_row left) (p.distinct j.0 k f.row r f.there here f.named) f.kept)

    -- a reason that was so
    module _ (a : WasWhy w rows r why) where
      abbrev b : WorldView
      b = a.before

      few_directories : directories_at_most b.skel ≤ length b.skel.directories → ⊥
      few_directories l = let more = ap length a.grown.skel.directories ∙ length-append b.skel.directories a.grown.skel.more in absurd (omega (arith, l, more, a.grown.skel.room, room.directories))

      -- a row has a filesystem
      has_fs : (i : ℕ) (x : TableRow) → slice_get rows i ≡ Some x → fs_named b.skel x.device ≡ None → ⊥
      has_fs i x e none =
          let there : fs_named w.skel x.device ≡ None = ap (λ fs. fs_named (record w.skel { filesystems = fs }) x.device) a.grown.skel.filesystems ∙ none in
          elim (g.kept.filesystems i x e) [
            | inl f ↦ let v : None ≡ Some f.0 = sym there ∙ f.1 in absurd (cc)
            | inr full ↦ elim full [ inl many ↦ absurd (omega (arith, many, room.filesystems)) | inr many ↦ absurd (omega (arith, many, room.directories)) ]
          ]

      none_of : (i : ℕ) (x : TableRow) (path : List (List ℕ)) → slice_get rows i ≡ Some x → length path ≤ depth_limit → IsWhyNone b.skel x.device path why → ⊥
      none_of i x path e short (inl full) = elim full.1 [ inl none ↦ has_fs i x e none | inr many ↦ few_directories many ]
      none_of i x path e short (inr deep) = absurd (omega (arith, short, deep.1))

      -- the parent that it stood on is the one that it has
      same_parent : (on : TableRow) → StandsRightly b rows r (Some on) → (h : HasParent rows p.depth r) × (h.above ≡ on)
      same_parent on s =
          let h = p.founded k r here s.4 in
          let same = p.distinct h.number s.1.0 h.above on h.there s.1.1 (h.named ∙ sym s.2) in
          (h, same_Some h.above on (sym h.there ∙ ap (λ i. slice_get rows i) same ∙ s.1.1))

      unplaced : (on : TableRow) → StandsRightly b rows r (Some on) → IsWhyUnplaced b.skel r on why → ⊥
      unplaced on s (inl e) = let h = same_parent on s in let v : None ≡ Some h.0.path = sym e.1 ∙ ap (place_path r) (sym h.1) ∙ h.0.below in absurd (cc)
      unplaced on s (inr e) =
          let h = same_parent on s in
          let path : e.0 ≡ h.0.path = same_Some e.0 h.0.path (sym e.1 ∙ ap (place_path r) (sym h.1) ∙ h.0.below) in
          none_of s.1.0 on e.0 s.1.1 (subst (λ l. length l ≤ depth_limit) (sym path) h.0.shallow) e.2

      -- a mount that was there is that of a row that is kept
      record KeptRow (x : Mount) : Type 0 where
        number : ℕ
        row : TableRow
        there : slice_get rows number ≡ Some row
        kept : keeps_row left number
        shows : Shows w x row
        top : is_none x.place ≡ is_root_of_table rows row

      kept_row : (i : ℕ) (x : Mount) → mount_at b.forest i ≡ Some x → KeptRow x
      kept_row i x e =
          let at = a.grown.mounts i x e in
          let j = g.kept.only i x at in
          let f = g.kept.found i j.0 j.1 in
          let t = g.kept.told j.0 f.row f.there f.kept in
          let same : t.mount ≡ x = same_Some t.mount x (sym t.there ∙ ap (mount_at w.forest) f.named ∙ at) in
          record {
            number = j.0;
            row = f.row;
            there = f.there;
            kept = f.kept;
            shows = subst (λ y. Shows w y f.row) same t.shows;
            top = subst (λ (y : Mount). is_none y.place ≡ is_root_of_table rows f.row) same t.top;
          }

      -- nor could another one stand in its way
      module _ (m : Mount) where
        second : (x : Mount) → StandsRightly b rows r None → IsMountOf b.skel r None m → root_mount b.forest m.space ≡ Some x → ⊥
        second x s o f =
            let row = find_row (is_root_mount m.space) b.forest x a.sound.well_formed.forest.rising f in
            let root = root_here m.space x (find_passes (is_root_mount m.space) b.forest x f) in
            let q = kept_row x.id x row in
            let top : is_root_of_table rows q.row ≡ true = sym q.top ∙ root.0 in
            let space : q.row.space ≡ r.space = sym q.shows.space ∙ root.1 ∙ o.space in
            not_kept (subst (keeps_row left) (p.one_root q.number k q.row r q.there here top s space) q.kept)

        at_root : StandsRightly b rows r None → IsMountOf b.skel r None m → why_second_root b m.space ≡ Some why → ⊥
        at_root s o e = go (root_mount b.forest m.space) refl (too_many_spaces b) refl e
          where
            go : (q : Option Mount) → root_mount b.forest m.space ≡ q → (many : Bool) → too_many_spaces b ≡ many → (if is_some q then Some SecondRoot else (if many then Some NoRoom else None)) ≡ Some why → ⊥
            go (Some x) f many t e = second x s o f
            go None f true t e = let many : spaces_at_most b ≤ length (roots b.forest) = grind (arith, nat_tests) in absurd (omega (arith, many, a.grown.skel.room, a.grown.spaces, room.spaces))
            go None f false t e = absurd (let v : None ≡ Some why = e in cc)

        module _ (on : TableRow) (s : StandsRightly b rows r (Some on)) (o : IsMountOf b.skel r (Some on) m) where
          abbrev place : Place
          place = o.place.0

          there : mount_at b.forest place.mount ≡ Some s.0.mount
          there = ap (mount_at b.forest) o.place.2.on ∙ s.0.there

          -- its place is within what its parent shows
          within : holds b.skel s.0.mount.root place.dir ≡ true
          within = held b.skel a.sound.skel s.0.mount.root place.dir r on (place, refl, o.place.2) s.0.shows.device s.0.shows.root (a.sound.well_formed.below place.mount s.0.mount there).4

          -- one that stands there has its mount point
          other : (x : Mount) → on_place b.forest place ≡ Some x → ⊥
          other x f =
              let row = find_row (is_at place) b.forest x a.sound.well_formed.forest.rising f in
              let at = stands_at place x (find_passes (is_at place) b.forest x f) in
              let q = kept_row x.id x row in
              let low : is_root_of_table rows q.row ≡ false = sym q.top ∙ ap is_none at in
              let parent : q.row.parent ≡ r.parent = sym (q.shows.parent place at) ∙ o.place.2.on ∙ s.2 in
              let point : q.row.point ≡ r.point =
              sym q.shows.point ∙ still_point b w a.sound.well_formed g.kept.sound.well_formed a.grown x.id x row
              ∙ place_point b rows x r on place a.sound.well_formed row at o.place.2 s.0 in
              not_kept (subst (keeps_row left) (p.apart q.number k q.row r q.there here low s.4 parent point) q.kept)

          on_parent : why_unplaced b m.space place ≡ Some why → ⊥
          on_parent e = go (on_place b.forest place) refl (rw (there, space, within) at e)
            where
              space : eqb s.0.mount.space m.space ≡ true
              space = eq-eqb s.0.mount.space m.space (s.0.shows.space ∙ s.3 ∙ sym o.space)

              go : (q : Option Mount) → on_place b.forest place ≡ q → (if is_some q then Some SamePlace else None) ≡ Some why → ⊥
              go (Some x) f e = other x f
              go None f e = absurd (let v : None ≡ Some why = e in cc)

        standing : (above : Option TableRow) → StandsRightly b rows r above → IsMountOf b.skel r above m → option_map_or (why_unplaced b m.space) m.place (why_second_root b m.space) ≡ Some why → ⊥
        standing None s o e = at_root s o (ap (λ q. option_map_or (why_unplaced b m.space) q (why_second_root b m.space)) (sym o.place) ∙ e)
        standing (Some on) s o e = on_parent on s o (ap (λ q. option_map_or (why_unplaced b m.space) q (why_second_root b m.space)) (sym o.place.1) ∙ e)

        unfit : (above : Option TableRow) → StandsRightly b rows r above → IsMountOf b.skel r above m → why_unfit b m ≡ Some why → ⊥
        unfit above s o e = go (mount_at b.forest m.id) refl (too_many_mounts b 1) refl e
          where
            go : (q : Option Mount) → mount_at b.forest m.id ≡ q → (many : Bool) → too_many_mounts b 1 ≡ many
                → (if is_some q then Some SameId else (if many then Some NoRoom else option_map_or (why_unplaced b m.space) m.place (why_second_root b m.space))) ≡ Some why → ⊥
            go (Some x) f many t e = no_other x (ap (mount_at w.forest) (sym o.id) ∙ a.grown.mounts m.id x f)
            go None f true t e = let many : mounts_at_most b < length b.forest + 1 = grind (arith, nat_tests) in absurd (omega (arith, many, a.grown.skel.room, a.grown.count, room.mounts))
            go None f false t e = standing above s o e

      no_reason : (above : Option TableRow) → StandsRightly b rows r above → IsWhyNotPut b r above why → ⊥
      no_reason above s (inr e) = unfit e.0 above s e.1 e.2
      no_reason above s (inl (inl e)) = true≢false (sym (p.numbered k r here) ∙ e.1)
      no_reason above s (inl (inr (inl e))) = unplaced e.0 (subst (StandsRightly b rows r) e.1 s) e.2
      no_reason above s (inl (inr (inr e))) = none_of k r r.root here (p.shallow k r here) e

  -- so a row that is nearer to the root than so many others is kept
  kept_within : (n k : ℕ) (r : TableRow) → slice_get rows k ≡ Some r → p.depth r.id < n → keeps_row left k
  kept_within zero k r here l = absurd (omega (arith, l))
  kept_within (suc n) k r here l = go (slice_get left k) refl (λ j x e m. kept_within n j x e m)
    where
      go : (o : Option (Option Misfit)) → slice_get left k ≡ o → ((j : ℕ) (x : TableRow) → slice_get rows j ≡ Some x → p.depth x.id < n → keeps_row left j) → keeps_row left k
      go None e ih = absurd (let a = slice_get_within rows k r here in let b = slice_get_none left k e in omega (arith, a, b, g.kept.sized))
      go (Some None) e ih = e
      go (Some (Some why)) e ih = absurd (elim (g.kept.whys k r why here e) [
        | inl alone ↦
            let q = g.parentless k r (e ∙ ap (λ y. Some (Some y)) alone) here in
            let h = p.founded k r here q.low in
            q.none h.number h.above h.there (ih h.number h.above h.there (omega (arith, l, h.nearer))) h.named h.same
        | inr was ↦ no_reason k r here why e was was.above was.stands was.refused
      ])

  pub plain_kept : (k : ℕ) (r : TableRow) → slice_get rows k ≡ Some r → keeps_row left k
  plain_kept k r here = kept_within (p.depth r.id + 1) k r here (omega arith)
