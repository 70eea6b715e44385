-- Where a copy of a source tree comes in the place of another mount, that one stands behind it: the copy of the top has its place, and it is
-- below that copy, since it stands on the end of the stack that begins with it.
use Rattle.std.proofs.Common.{◌≡◌, ◌≢◌, ◌⊎◌, ℕ, ◌≤◌, Bool, true, false, cond, ◌==◌, ◌&&◌, eqb, eq-eqb, List, length, Option, Some, None, refl, sym, ap, ◌∙◌, inl, inr, arith}
use Rattle.std.specs.List.{find, list_any}
use Rattle.std.specs.Option.{option_map_or}
use Rattle.std.proofs.lemmas.Bool.{ne_eqb, or_right}
use Rattle.std.proofs.lemmas.Option.{none-some}
use Rattle.mt_skel.proofs.ElementLaws.{In, find_in}
use Rattle.mt_skel.proofs.ChainLaws.{chain-step, follow-holds}
use Rattle.mt_mounts.specs.declared.mount.Mount.{Mount}
use Rattle.mt_mounts.specs.declared.mount.Place.{Place}
use Rattle.mt_mounts.specs.Forest.{mount_at, is_at, parent, is_below, root_place}
use Rattle.mt_mounts.specs.Tree.{HasNoCycle}
use Rattle.mt_mounts.proofs.ForestLaws.{find_row, find_passes}
use Rattle.mt_mounts.proofs.Walks.{below_here}
use Rattle.mt_peers.proofs.MemberLaws.{some-is}
use Rattle.mt_propagate.specs.World.{WorldView}
use Rattle.mt_propagate.specs.WellFormed.{IsWellFormed}
use Rattle.mt_propagate.specs.Receivers.{targets}
use Rattle.mt_propagate.specs.Copies.{Source, copy_id}
use Rattle.mt_propagate.specs.Places.{stacked_on, copied_mount, stack_end, arranged}
use Rattle.mt_propagate.specs.Copied.{copied}
use Rattle.mt_propagate.specs.Sound.{IsSource, IsDestination}
use Rattle.mt_propagate.proofs.WalkLaws.{stands_at}
use Rattle.mt_propagate.proofs.TreeLaws.{parent-is}
use Rattle.mt_propagate.proofs.StackLaws.{stack_ends}
use Rattle.mt_propagate.proofs.CopyRowLaws.{ts, num, copy, out, kept, made, hit_new, num_new, copied_forest}

-- a mount is below all that its parent is below
below_next : (ms : List Mount) → HasNoCycle ms → (i x y : ℕ) → parent ms x ≡ Some y → is_below ms i y ≡ true → is_below ms i x ≡ true
below_next ms ends i x y up e = ap (list_any (λ k. eqb i k)) (chain-step (parent ms) (length ms) x y up (ends x)) ∙ or_right (eqb i x) (is_below ms i y) e

-- a new mount stands at a place, and the mount i is below it
pub record IsBehindNew (w v : WorldView) (i : ℕ) (p : Place) : Type 0 where
  pub id : ℕ
  pub mount : Mount
  pub late : w.next_mount ≤ id
  pub there : mount_at v.forest id ≡ Some mount
  pub stands : mount.place ≡ Some p
  pub above : is_below v.forest id i ≡ true

module _ (w : WorldView) (h : IsWellFormed w) (src : Source) (dest : Place) (s : IsSource w src dest) (d : IsDestination w dest) where
  -- the mounts afterwards
  abbrev mounts : List Mount
  mounts = out w h src dest s d

  -- the number of the copy of a mount at a target
  abbrev number : ℕ → ℕ → ℕ
  number t i = num w h src dest s d t i

  -- where the copy of the top comes there
  abbrev spot : ℕ → Place
  spot t = record { mount = t; dir = dest.dir }

  -- the ways up end
  ways_end : HasNoCycle mounts
  unfolding copied
  ways_end = (copied_forest w h src dest s d).no_cycle

  -- where a mount of the tree stands once it is copied
  abbrev place_at : ℕ → Bool → Option Place → Option Place
  place_at t first o = Some (cond first (spot t) (option_map_or (λ (p : Place). record { mount = number t p.mount; dir = p.dir }) o dest))

  -- a mount that stands on one of the tree is not its top
  on_tree : (x y : Mount) → mount_at src.mounts x.id ≡ Some x → mount_at src.mounts y.id ≡ Some y → y.place ≡ Some (root_place x) → y.id ≢ src.top.id
  on_tree x y ex ey at same =
      let top : y ≡ src.top = some-is y src.top (sym ey ∙ ap (mount_at src.mounts) same ∙ s.tree.top_there) in
      none-some x (sym (s.tree.top_outside (root_place x) (ap (λ (m : Mount). m.place) (sym top) ∙ at)) ∙ ex)

  -- a mount of the tree whose copy at a target is below that of the top
  abbrev Follows : ℕ → Mount → Type 0
  Follows t x = (mount_at src.mounts x.id ≡ Some x) × (is_below mounts (number t src.top.id) (number t x.id) ≡ true)

  -- so is the one that is stacked on it
  follows_next : (t : ℕ) → In t (ts w h src dest s d) → (x y : Mount) → Follows t x → stacked_on src.mounts x ≡ Some y → Follows t y
  follows_next t new x y f e =
      let row : mount_at src.mounts y.id ≡ Some y = find_row (is_at (root_place x)) src.mounts y s.tree.rising e in
      let at : y.place ≡ Some (root_place x) = stands_at (root_place x) y (find_passes (is_at (root_place x)) src.mounts y e) in
      let off : (y.id == src.top.id) ≡ false = ne_eqb y.id src.top.id (on_tree x y f.0 row at) in
      let place : (copy w h src dest s d t y).place ≡ Some (record { mount = number t x.id; dir = x.root }) = ap (λ b. place_at t b y.place) off ∙ ap (place_at t false) at in
      let up = parent-is mounts (number t y.id) (copy w h src dest s d t y) (record { mount = number t x.id; dir = x.root }) (made w h src dest s d t y new row) place in
      (row, below_next mounts ways_end (number t src.top.id) (number t y.id) (number t x.id) up f.1)

  -- so the end of the stack is below the copy of the top
  end_follows : (t : ℕ) → In t (ts w h src dest s d) → is_below mounts (number t src.top.id) (stack_end w src dest t).mount ≡ true
  end_follows t new =
      let first : Follows t src.top = (s.tree.top_there, below_here mounts (number t src.top.id) (length mounts) (number t src.top.id) refl) in
      (follow-holds (stacked_on src.mounts) (Follows t) (follows_next t new) (length src.mounts) src.top first (stack_ends w.skel src.mounts src.top s.tree)).0.1

  -- a mount that is not the top of a tree that moves goes there where a copy comes in its place, and keeps it otherwise
  gets_place : (x : Mount) (o : Option ℕ) → (src.moved && (x.id == src.top.id)) ≡ false → find (λ t. is_at (spot t) x) (targets w dest) ≡ o
      → (arranged w src dest x).place ≡ (option_map_or (λ t. record x { place = Some (stack_end w src dest t) }) o x).place
  gets_place x o off is =
      λ j. (cond (off j) (record x { place = Some dest }) (option_map_or (λ t. record x { place = Some (stack_end w src dest t) }) (cond (off j) None (is j)) x)).place

  -- in the first case the copy of the top is new, has its place, and is above it
  makes_way : (i : ℕ) (x : Mount) (t : ℕ) → mount_at w.forest i ≡ Some x → (src.moved && (x.id == src.top.id)) ≡ false → find (λ t. is_at (spot t) x) (targets w dest) ≡ Some t → IsBehindNew w (copied w src dest) i (spot t)
  unfolding copied
  makes_way i x t e off is =
      let new = hit_new w h src dest s d t (find_in (λ t. is_at (spot t) x) (targets w dest) t is).0 in
      let n = num_new w h src dest s d t src.top.id new in
      let up = parent-is mounts i (arranged w src dest x) (stack_end w src dest t) (kept w h src dest s d i x e) (gets_place x (Some t) off is) in
      record {
        id = copy_id w src dest t src.top.id;
        mount = copied_mount w src dest t src.top;
        late = omega (arith, n);
        there = made w h src dest s d t src.top new s.tree.top_there;
        stands = ap (λ b. place_at t b src.top.place) (eq-eqb src.top.id src.top.id refl);
        above = below_next mounts ways_end (number t src.top.id) i (stack_end w src dest t).mount up (end_follows t new);
      }

  -- so it keeps its place, or a new mount has that, and it is below this one
  pub stays_or_behind : (i : ℕ) (x : Mount) → mount_at w.forest i ≡ Some x → (src.moved && (x.id == src.top.id)) ≡ false
      → ((arranged w src dest x).place ≡ x.place) ⊎ ((p : Place) × (x.place ≡ Some p) × IsBehindNew w (copied w src dest) i p)
  stays_or_behind i x e off = by (find (λ t. is_at (spot t) x) (targets w dest)) refl
    where
      by : (o : Option ℕ) → find (λ t. is_at (spot t) x) (targets w dest) ≡ o → ((arranged w src dest x).place ≡ x.place) ⊎ ((p : Place) × (x.place ≡ Some p) × IsBehindNew w (copied w src dest) i p)
      by None is = inl (gets_place x None off is)
      by (Some t) is = inr (spot t, stands_at (spot t) x (find_in (λ t. is_at (spot t) x) (targets w dest) t is).1, makes_way i x t e off is)
