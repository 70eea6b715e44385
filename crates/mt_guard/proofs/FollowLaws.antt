-- What a command leaves of rows and brings of them fits the mounts that are there afterwards, where it copies mounts and where none comes.
use Rattle.std.proofs.Common.{◌≡◌, ℕ, ◌*◌, ◌<◌, Bool, true, false, cond, ◌&&◌, ◌==◌, eqb, List, [], ◌∷◌, ◌++◌, map, length, Option, Some, None, is_some, refl, sym, ap, ◌∙◌, subst, inl, inr, arith}
use Rattle.std.specs.List.{filter, flat_map, range_with_len}
use Rattle.std.specs.Option.{option_map_or, unwrap_or}
use Rattle.std.proofs.lemmas.Bool.{true≢false}
use Rattle.std.proofs.lemmas.Cmp.{nat_eq_equiv}
use Rattle.mt_skel.specs.Keyed.{rises}
use Rattle.mt_skel.proofs.KeyedLaws.{row_at-key, numbered-map}
use Rattle.mt_skel.proofs.ElementLaws.{In, in_filter, in_map, in_row}
use Rattle.mt_mounts.specs.declared.mount.Mount.{Mount}
use Rattle.mt_mounts.specs.declared.mount.Place.{Place}
use Rattle.mt_mounts.specs.Forest.{id_of, mount_at}
use Rattle.mt_mounts.proofs.SlotLaws.{none_found}
use Rattle.mt_locks.specs.declared.mount_locks.MountLocks.{MountLocks}
use Rattle.mt_peers.proofs.MemberLaws.{some-is}
use Rattle.mt_propagate.specs.World.{WorldView, space_of}
use Rattle.mt_propagate.specs.WellFormed.{IsWellFormed}
use Rattle.mt_propagate.specs.Named.{unknown, mount_or_unknown}
use Rattle.mt_propagate.specs.Limits.{too_many_mounts}
use Rattle.mt_propagate.specs.Receivers.{targets}
use Rattle.mt_propagate.specs.Copies.{Source, MountCopy, new_copies, copy_id}
use Rattle.mt_propagate.specs.Places.{copied_mount, new_mounts, made_way, stack_end, rehomed, arranged}
use Rattle.mt_propagate.specs.Copied.{copied}
use Rattle.mt_propagate.specs.Plans.{top_of, member_of, copied_source}
use Rattle.mt_propagate.proofs.NumberLaws.{copy_of as copy_to, copies-numbered}
use Rattle.mt_propagate.proofs.ListedLaws.{map-map, map-pairs, arranged-id}
use Rattle.mt_propagate.proofs.RowLaws.{mapped-row, row-mapped, appended-row, row-first, distinct-keys}
use Rattle.mt_bind.specs.Copying.{copy_number, copy_of, with_copies}
use Rattle.mt_bind.specs.Sources.{is_bound_along, source_at}
use Rattle.mt_bind.proofs.MemberLaws.{either_is}
use Rattle.mt_bind.proofs.SourceLaws.{no_zero}
use Rattle.mt_guard.specs.Coming.{numbered_from, is_foreign, locks_of_copy, come_locked}
use Rattle.mt_guard.specs.Changing.{Locking, keeping}
use Rattle.mt_guard.proofs.FitLaws.{FitsMount, KeepsMount, keeps_fit, same_keeps, IsSet, copy_fits, AreBeside, each_beside, pairs_beside, numbered_high, beside_row}

-- the mounts that are there afterwards fit the rows that stay, if they did before, and those that come
pub record Follows (w : WorldView) (ms : List Mount) (x : Locking) : Type 0 where
  pub stays : (k : MountLocks) (y m : Mount) → In k w.locks.mounts → mount_at w.forest k.mount ≡ Some y → mount_at ms k.mount ≡ Some m → FitsMount k y → FitsMount k m
  pub comes : (k : MountLocks) (m : Mount) → In k (numbered_from w.next_mount x.came) → mount_at ms k.mount ≡ Some m → FitsMount k m

-- mounts that stay keep what they have
abbrev pub AllKeep : WorldView → List Mount → Type 0
AllKeep w ms = (i : ℕ) (y m : Mount) → mount_at w.forest i ≡ Some y → mount_at ms i ≡ Some m → KeepsMount y m

-- where nothing comes
pub nothing_comes : (w : WorldView) (ms : List Mount) (met : List ℕ) → AllKeep w ms → Follows w ms (record keeping { met = met })
nothing_comes w ms met all = record { stays = λ k y m e at there f. keeps_fit k y m (all k.mount y m at there) f; comes = λ k m e at. absurd e }

-- where mounts come, and those that were there stay as they are
pub appended_keep : (w : WorldView) (ns : List Mount) → AllKeep w (w.forest ++ ns)
appended_keep w ns i y m at there = same_keeps y m (some-is y m (sym (row-first id_of w.forest ns i y at) ∙ there))

-- ---- mounts that are copied

-- a mount has the attributes and the place of the one with its ID
pub record IsOf (w : WorldView) (m : Mount) : Type 0 where
  pub attrs : m.attrs ≡ (mount_or_unknown w m.id).attrs
  pub place : m.place ≡ (mount_or_unknown w m.id).place

-- so has one that is found under its ID
of_found : (w : WorldView) (m : Mount) → mount_or_unknown w m.id ≡ m → IsOf w m
of_found w m e = record { attrs = ap (λ (x : Mount). x.attrs) (sym e); place = ap (λ (x : Mount). x.place) (sym e) }

module _ (w : WorldView) (h : IsWellFormed w) where
  -- so has each of some mounts of the world, as those of a namespace and those of a tree that moves
  pub picked_of : (t : Mount → Bool) (m : Mount) → In m (filter t w.forest) → IsOf w m
  picked_of t m e = of_found w m (ap (λ (o : Option Mount). unwrap_or o unknown) (in_row id_of w.forest m h.forest.rising (in_filter t m w.forest e).0))

  -- what is found under an ID is found again under the ID that it has
  found_again : (i : ℕ) → mount_or_unknown w (mount_or_unknown w i).id ≡ mount_or_unknown w i
  found_again i = by (mount_at w.forest i) refl
    where
      by : (o : Option Mount) → mount_at w.forest i ≡ o → mount_or_unknown w (unwrap_or o unknown).id ≡ unwrap_or o unknown
      by None e = ap (λ (o : Option Mount). unwrap_or o unknown) (none_found (mount_at w.forest 0) (λ x at. no_zero w h x at))
      by (Some y) e = ap (λ (o : Option Mount). unwrap_or o unknown) (ap (mount_at w.forest) (row_at-key id_of i w.forest y e) ∙ e)

  -- so a mount of a tree that is copied has them too, also the top, which shows another directory
  of_member : (t dir i : ℕ) → IsOf w (member_of w t dir i)
  of_member t dir i = by (i == t)
    where
      by : (b : Bool) → IsOf w (cond b (top_of w t dir) (mount_or_unknown w i))
      by true = record { attrs = ap (λ (x : Mount). x.attrs) (sym (found_again t)); place = ap (λ (x : Mount). x.place) (sym (found_again t)) }
      by false = of_found w (mount_or_unknown w i) (found_again i)

  -- and each mount of what is bound
  pub bound_of : (recursive : Bool) (p : Place) (m : Mount) → In m (source_at w recursive p).mounts → IsOf w m
  bound_of recursive p m e =
      let ids : List ℕ = cond recursive (map id_of (filter (λ (x : Mount). is_bound_along w p x.id) w.forest)) (p.mount ∷ []) in
      let same : copied_source w p.mount p.dir ids false ≡ source_at w recursive p = either_is w p h.forest.rising recursive ids refl in
      let i = in_map (member_of w p.mount p.dir) m ids (subst (λ (s : Source). In m s.mounts) (sym same) e) in
      subst (IsOf w) i.2 (of_member p.mount p.dir i.0)

  -- ---- mounts that come

  -- rows that come fit mounts that come, behind those that were there
  behind_fit : (ms ns : List Mount) (ks : List MountLocks) (many : ℕ) → ((i : ℕ) (m : Mount) → mount_at ms i ≡ Some m → i < w.next_mount) → AreBeside ks ns → map id_of ns ≡ range_with_len w.next_mount many
      → (k : MountLocks) (m : Mount) → In k (numbered_from w.next_mount ks) → mount_at (ms ++ ns) k.mount ≡ Some m → FitsMount k m
  behind_fit ms ns ks many low beside ids k m e at = elim (appended-row id_of ms ns k.mount m at) [
    | inl old ↦ let below = low k.mount m old in let high = numbered_high w.next_mount ks k e in absurd (omega (arith, below, high))
    | inr new ↦ beside_row w.next_mount ks ns many beside ids k m e new
  ]

  -- copies of mounts in a namespace of their own are numbered from the next number on
  copies_ids : (ms : List Mount) → rises id_of ms ≡ true → map id_of (map (copy_of w (map id_of ms)) ms) ≡ range_with_len w.next_mount (length (map id_of ms))
  copies_ids ms order =
      let ids : List ℕ = map id_of ms in
      map-map (copy_of w ids) id_of (λ (m : Mount). copy_number w ids m.id) (λ m. refl) ms
      ∙ sym (map-map id_of (copy_number w ids) (λ (m : Mount). copy_number w ids m.id) (λ m. refl) ms)
      ∙ numbered-map eqb nat_eq_equiv w.next_mount ids (distinct-keys id_of ms order)

  -- what comes with them fits, if it fits copy by copy
  pub copies_follow : (ms : List Mount) (less : Bool) (f : Mount → MountLocks) (owner : Option (ℕ × ℕ)) → rises id_of ms ≡ true → ((m : Mount) → In m ms → FitsMount (f m) (copy_of w (map id_of ms) m))
      → Follows w (with_copies w ms less).forest (record { met = []; came = map f ms; owner = owner })
  unfolding with_copies
  copies_follow ms less f owner order fits = record {
    stays = λ k y m e at there g. keeps_fit k y m (appended_keep w (map (copy_of w (map id_of ms)) ms) k.mount y m at there) g;
    comes = behind_fit w.forest (map (copy_of w (map id_of ms)) ms) (map f ms) (length (map id_of ms)) (λ i x row. let b = h.below i x row in b.1) (each_beside f (copy_of w (map id_of ms)) ms fits) (copies_ids ms order);
  }

  -- copies of a source tree at a place and at its targets
  module _ (src : Source) (p : Place) where
    abbrev spots : List ℕ
    spots = cond src.moved (targets w p) (p.mount ∷ targets w p)

    -- a mount that was there keeps its attributes, and stands somewhere if it did
    arranged_keeps : (y : Mount) → KeepsMount y (arranged w src p y)
    arranged_keeps y = by (src.moved && (y.id == src.top.id)) (made_way w src p y)
      where
        by : (b : Bool) (o : Option ℕ) → KeepsMount y (rehomed w src p (cond b (record y { place = Some p }) (option_map_or (λ t. record y { place = Some (stack_end w src p t) }) o y)))
        by true o = record { attrs = refl; placed = λ none. absurd (true≢false (ap is_some none)) }
        by false None = record { attrs = refl; placed = λ none. none }
        by false (Some t) = record { attrs = refl; placed = λ none. absurd (true≢false (ap is_some none)) }

    -- so each one does where the copies come
    arranged_keep : AllKeep w (map (arranged w src p) w.forest ++ new_mounts w src p)
    arranged_keep i y m at there =
        let now = row-first id_of (map (arranged w src p) w.forest) (new_mounts w src p) i (arranged w src p y) (row-mapped id_of (arranged w src p) (arranged-id w src p) w.forest i y at) in
        subst (KeepsMount y) (some-is (arranged w src p y) m (sym now ∙ there)) (arranged_keeps y)

    -- and has a number that was given out
    arranged_low : (i : ℕ) (m : Mount) → mount_at (map (arranged w src p) w.forest) i ≡ Some m → i < w.next_mount
    arranged_low i m e = let y = mapped-row id_of (arranged w src p) (arranged-id w src p) w.forest i m e in let b = h.below i y.0 y.1 in b.1

    -- the copies are numbered from the next number on
    new_ids : rises id_of src.mounts ≡ true → map id_of (new_mounts w src p) ≡ range_with_len w.next_mount (length (new_copies w src p))
    new_ids order =
        map-pairs (copied_mount w src p) id_of src.mounts spots
        ∙ sym (map-pairs copy_to (λ (c : MountCopy). copy_id w src p c.target c.source) src.mounts spots)
        ∙ copies-numbered w h.peering.rising src p order

    module _ (here : ℕ) (order : rises id_of src.mounts ≡ true) (set : (m : Mount) → In m src.mounts → IsSet w m) where
      -- what is locked of the copy of a mount at a target, and of all copies
      abbrev locks_at : ℕ → Mount → MountLocks
      locks_at t m = locks_of_copy w (is_foreign w here (space_of w t)) src.top.id m

      abbrev all_locks : List MountLocks
      all_locks = flat_map (λ t. map (locks_of_copy w (is_foreign w here (space_of w t)) src.top.id) src.mounts) (cond src.moved (targets w p) (p.mount ∷ targets w p))

      -- each of them fits its copy
      come_beside : AreBeside all_locks (new_mounts w src p)
      come_beside =
          pairs_beside locks_at (copied_mount w src p) src.mounts spots
          (λ t m e. copy_fits w (is_foreign w here (space_of w t)) src.top.id m (copied_mount w src p t m) (set m e) refl (λ none. true≢false (ap is_some none)))

      -- so each row that comes fits the mount with its number; where there are too many mounts, none comes
      come_row : (k : MountLocks) (m : Mount) → In k (numbered_from w.next_mount (come_locked w here src p)) → mount_at (map (arranged w src p) w.forest ++ new_mounts w src p) k.mount ≡ Some m → FitsMount k m
      come_row k m e at = by (too_many_mounts w (length spots * length src.mounts)) e
        where
          by : (b : Bool) → In k (numbered_from w.next_mount (cond b [] all_locks)) → FitsMount k m
          by true f = absurd f
          by false f = behind_fit (map (arranged w src p) w.forest) (new_mounts w src p) all_locks (length (new_copies w src p)) arranged_low come_beside (new_ids order) k m f at

      -- all rows fit once the copies stand
      pub copied_follow : Follows w (copied w src p).forest (record keeping { came = come_locked w here src p })
      unfolding copied
      copied_follow = record { stays = λ k y m e at there f. keeps_fit k y m (arranged_keep k.mount y m at there) f; comes = come_row }
