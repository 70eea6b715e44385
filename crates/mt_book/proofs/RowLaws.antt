-- The rows of a world's tables have in their fields what every row has there by its type.
use Rattle.std.proofs.Common.{◌≡◌, ℕ, zero, suc, ◌-◌, ◌<◌, ◌≤◌, ◌^◌, Bool, true, false, cond, List, [], ◌∷◌, length, drop, reverse, ◌==◌, Option, Some, None, IsTrue, ◌&&◌, refl, sym, ap, ◌∙◌, subst, arith}
use Rattle.std.proofs.lemmas.List.{length-map}
use Rattle.std.specs.List.{list_all, flat_map, filter, find, AllByRecursion}
use Rattle.std.specs.Option.{ForSome, option_map, option_map_or, unwrap_or}
use Rattle.std.proofs.lemmas.Option.{slice_get-get_or, option_and_then_some}
use Rattle.mt_skel.specs.Names.{is_name}
use Rattle.mt_skel.specs.Skeleton.{Skeleton, IsSkeleton, directory, path_below}
use Rattle.mt_skel.proofs.ElementLaws.{in_row, in_any, in_flat, in_map, in_filter, find_in}
use Rattle.mt_skel.proofs.MiddleLaws.{and_first, and_second}
use Rattle.mt_mounts.specs.declared.mount.Mount.{Mount}
use Rattle.mt_mounts.specs.declared.mount.Place.{Place}
use Rattle.mt_mounts.specs.Forest.{id_of, mount_at, parents_up}
use Rattle.mt_peers.specs.declared.state.State.{State}
use Rattle.mt_peers.specs.Peers.{Peer, mount_of, names, state_at}
use Rattle.mt_peers.specs.Masters.{groups_up}
use Rattle.mt_peers.proofs.MemberLaws.{named}
use Rattle.mt_peers.proofs.MakingLaws.{old_master}
use Rattle.mt_propagate.specs.World.{WorldView, root_dir, state_of, space_of, private}
use Rattle.mt_propagate.specs.Limits.{most_mounts}
use Rattle.mt_propagate.specs.FromGroup.{from_group, is_seen}
use Rattle.mt_propagate.specs.WellFormed.{IsWellFormed}
use Rattle.mt_propagate.specs.Named.{mount_or_unknown}
use Rattle.mt_propagate.proofs.RowLaws.{in_all, all_in, each_in}
use Rattle.mt_propagate.proofs.SizeLaws.{few_pass}
use Rattle.mt_info.specs.Laws.{IsRow}
use Rattle.mt_info.specs.Table.{own_names, mount_point, row_of, table_of}
use Rattle.mt_book.proofs.EachLaws.{each_or, each_at}
use Rattle.mt_book.proofs.TextLaws.{HasTexts, HasLabels, HasNames}

-- what a world has where its tables can be told: it is in order, its texts are labels and names, and its numbers fit 64 bits
pub record CanTell (w : WorldView) : Type 0 where
  pub formed : IsWellFormed w
  pub skeleton : IsSkeleton w.skel
  pub texts : HasTexts w.skel
  pub within : length w.forest ≤ most_mounts
  pub mounts : w.next_mount ≤ 2 ^ 64
  pub groups : w.peering.next ≤ 2 ^ 64
  pub spaces : w.next_space ≤ 2 ^ 64

-- ---- names

dropped : (q : List ℕ → Bool) (n : ℕ) (xs : List (List ℕ)) → list_all q xs ≡ true → list_all q (drop n xs) ≡ true
dropped q zero xs h = h
dropped q (suc n) [] h = h
dropped q (suc n) (x ∷ xs) h = dropped q n xs (and_second _ _ h)

joined : (q : List ℕ → Bool) (f : ℕ → List (List ℕ)) → ((i : ℕ) → list_all q (f i) ≡ true) → (ids : List ℕ) → list_all q (flat_map f ids) ≡ true
joined q f h ids = in_all q (flat_map f ids) (λ x there. let at = in_flat f x ids there in all_in q (f at.0) x (h at.0) at.2)

path_named : (s : Skeleton) → HasTexts s → (d : ℕ) → IsTrue (list_all is_name (directory s d).path)
path_named s h d = each_or HasNames s.directories d (record { fs = 0; path = [] }) h.names refl

own_named : (w : WorldView) → HasTexts w.skel → (i : ℕ) → IsTrue (list_all is_name (own_names w i))
own_named w h i = by (mount_or_unknown w i).place
  where
    by : (o : Option Place) → IsTrue (list_all is_name (option_map_or (λ (p : Place). path_below w.skel (root_dir w p.mount) p.dir) o []))
    by None = refl
    by (Some p) = dropped is_name (length (directory w.skel (root_dir w p.mount)).path) (directory w.skel p.dir).path (path_named w.skel h p.dir)

point_named : (w : WorldView) → HasTexts w.skel → (i : ℕ) → IsTrue (list_all is_name (mount_point w i))
point_named w h i = joined is_name (own_names w) (own_named w h) (reverse (parents_up w.forest i))

-- ---- numbers

-- what every state has is had by the state of any mount, or by that of a private one
of_state : (w : WorldView) (i : ℕ) (P : State → Type 0) → ((s : State) → state_at w.peering.peers i ≡ Some s → P s) → P private → P (state_of w i)
of_state w i P each alone = by (state_at w.peering.peers i) refl
  where
    by : (o : Option State) → state_at w.peering.peers i ≡ o → P (unwrap_or o private)
    by None e = alone
    by (Some s) e = each s e

group_below : (w : WorldView) (i : ℕ) → IsWellFormed w → ForSome (state_of w i).group (λ g. g < w.peering.next)
group_below w i h = of_state w i (λ s. ForSome s.group (λ g. g < w.peering.next)) (λ s e g is. h.peering.below i s g e is) (λ g is. absurd (cc))

master_below : (w : WorldView) (i : ℕ) → IsWellFormed w → ForSome (state_of w i).master (λ g. g < w.peering.next)
master_below w i h = of_state w i (λ s. ForSome s.master (λ g. g < w.peering.next)) (λ s e g is. old_master w.peering h.peering i s g e is) (λ g is. absurd (cc))

-- a group that is seen has a member
seen_below : (w : WorldView) (n g : ℕ) → IsWellFormed w → is_seen w n g ≡ true → g < w.peering.next
seen_below w n g h e =
    let q = in_any (λ (p : Peer). names p.state.group g && (space_of w p.mount == n)) w.peering.peers e in
    let at : state_at w.peering.peers q.0.mount ≡ Some q.0.state = ap (option_map (λ (p : Peer). p.state)) (in_row mount_of w.peering.peers q.0 h.peering.rising q.1) in
    h.peering.below q.0.mount q.0.state g at (named q.0.state.group g (and_first (names q.0.state.group g) _ q.2))

via_below : (w : WorldView) (i : ℕ) → IsWellFormed w → ForSome (from_group w i) (λ g. g < w.peering.next)
via_below w i h g e =
    let seen = is_seen w (space_of w i) in
    option_and_then_some _ (state_of w i).master g e (λ m at above.
    option_and_then_some _ (find seen (groups_up w.peering.peers m)) g above (λ x is other.
    by (x == m) x (find_in seen (groups_up w.peering.peers m) x is).1 other))
  where
    by : (b : Bool) (x : ℕ) → is_seen w (space_of w i) x ≡ true → cond b None (Some x) ≡ Some g → g < w.peering.next
    by true x s f = absurd (let v : None ≡ Some g = f in cc)
    by false x s f = let v : x ≡ g = cc in seen_below w (space_of w i) g h (ap (is_seen w (space_of w i)) (sym v) ∙ s)

parent_below : (w : WorldView) (m : Mount) → IsWellFormed w → mount_at w.forest m.id ≡ Some m → option_map_or (λ p. p.mount) m.place m.id < w.next_mount
parent_below w m h at = by m.place refl
  where
    by : (o : Option Place) → m.place ≡ o → option_map_or (λ (p : Place). p.mount) o m.id < w.next_mount
    by None e = (h.below m.id m at).1
    by (Some p) e = let q = h.forest.placed m.id m p at e in (h.below p.mount q.0 q.1).1

-- ---- rows

-- a filesystem that a directory is of
fs_there : (w : WorldView) (d : ℕ) → IsSkeleton w.skel → d < length w.skel.directories → (1 ≤ (directory w.skel d).fs) × ((directory w.skel d).fs ≤ length w.skel.filesystems)
fs_there w d s l = s.of_filesystem d (directory w.skel d) (slice_get-get_or w.skel.directories d (record { fs = 0; path = [] }) l)

-- the row of a mount that is there
pub row_valid : (w : WorldView) (m : Mount) → CanTell w → mount_at w.forest m.id ≡ Some m → IsRow (row_of w m)
row_valid w m h at =
    let low = h.formed.below m.id m at in
    let fs = fs_there w m.root h.skeleton low.4 in
    let labels = each_at HasLabels w.skel.filesystems ((directory w.skel m.root).fs - 1) (record { name = []; kind = []; source = [] }) h.texts.labels (omega (arith, fs.0, fs.1)) in
    record {
      id = omega (arith, low.1, h.mounts);
      parent = omega (arith, parent_below w m h.formed at, h.mounts);
      minor = omega (arith, fs.1, h.texts.few);
      root = path_named w.skel h.texts m.root;
      point = point_named w h.texts m.id;
      shared = λ g e. omega (arith, group_below w m.id h.formed g e, h.groups);
      master = λ g e. omega (arith, master_below w m.id h.formed g e, h.groups);
      via = λ g e. omega (arith, via_below w m.id h.formed g e, h.groups);
      kind = labels.0;
      source = labels.1;
    }

-- the rows of the table of any namespace
pub table_valid : (w : WorldView) (n : ℕ) → CanTell w → AllByRecursion IsRow (table_of w n)
table_valid w n h = each_in IsRow (table_of w n) (λ r there.
    let m = in_map (row_of w) r (filter (λ (m : Mount). m.space == n) w.forest) there in
    let at = in_row id_of w.forest m.0 h.formed.forest.rising (in_filter (λ (m : Mount). m.space == n) m.0 w.forest m.1).0 in
    subst IsRow m.2 (row_valid w m.0 h at))

-- and there are few of them
pub table_within : (w : WorldView) (n : ℕ) → CanTell w → length (table_of w n) ≤ most_mounts
table_within w n h =
    let ms : List Mount = filter (λ (m : Mount). m.space == n) w.forest in
    omega (arith, length-map ms (row_of w), few_pass (λ (m : Mount). m.space == n) w.forest, h.within)
