-- A table stays one, and what its mounts are, once a slot was written, and with other memory.
use Rattle.std.proofs.Common.{◌≡◌, ◌⊎◌, ℕ, ◌<◌, ◌≤◌, cond, eqb, length, slice_set, Option, Some, None, refl, sym, ap, ◌∙◌}
use Rattle.std.specs.Option.{IfSome, option_map, option_map_or, option_and_then}
use Rattle.std.proofs.lemmas.List.{set-set}
use Rattle.slab.specs.Slab.{Slab, get, Updates, with_value}
use Rattle.slab.proofs.SlabLemmas.{Updates-with_value}
use Rattle.mt_skel.specs.Keyed.{put}
use Rattle.mt_skel.proofs.KeyedLaws.{row_at-key}
use Rattle.mt_lists.specs.Lists.{listed_id, listed_number, without_row, with_number}
use Rattle.mt_lists.specs.SlotLists.{SlotListsView, id_in, lengthened}
use Rattle.mt_lists.proofs.RowLaws.{with-taken}
use Rattle.mt_mounts.specs.declared.mount.Mount.{Mount}
use Rattle.mt_mounts.specs.declared.mount.Place.{Place}
use Rattle.mt_mounts.specs.declared.mount.Attrs.{Attrs}
use Rattle.mt_mounts.specs.Forest.{id_of, mount_at}
use Rattle.mt_mounts.specs.ForestView.{with_attrs, with_place, without_id}
use Rattle.mt_mounts.specs.Follow.{given_attrs}
use Rattle.mt_mounts.specs.Slots.{slab_mounts, Keys, key_at}
use Rattle.mt_mounts.specs.Seats.{parent_of, own_space, seat, IsTable}
use Rattle.mt_mounts.proofs.SlotLaws.{rises_table}
use Rattle.mt_mounts.proofs.WrittenLaws.{IsWritten, written_once, row_cases, moved_to, put_written, without_written, attrs_written, place_written}
use Rattle.mt_mounts.proofs.TableLaws.{keyed_same, mount_keyed, not_keyed, keyed_written, mounts_written}
use Rattle.mt_mounts.proofs.SeatLaws.{rises_beside, within, beside_longer, beside_written, rows_kept, slots_kept, taken, taken_absent}

module _ (s : Slab Mount) (keys : Keys) (children spaces : SlotListsView) (t : IsTable s keys children spaces) where
  -- other memory: the lists are as wide as they were, or as the slab is now
  pub table_wider : (new : Slab Mount) (keys' : Keys) (children' spaces' : SlotListsView) (cw sw : ℕ) → new.slots ≡ s.slots → keys'.entries ≡ keys.entries
      → children'.rows ≡ children.rows → children'.slots ≡ lengthened cw children.slots → (new.capacity ≤ s.capacity) ⊎ (new.capacity ≤ cw)
      → spaces'.rows ≡ spaces.rows → spaces'.slots ≡ lengthened sw spaces.slots → (new.capacity ≤ s.capacity) ⊎ (new.capacity ≤ sw)
      → IsTable new keys' children' spaces'
  table_wider new keys' children' spaces' cw sw e k cr cs cfits sr ss sfits = record {
    keyed = keyed_same s new keys keys' e k t.keyed;
    children = beside_longer parent_of s children t.children new children' cw e cr cs cfits;
    spaces = beside_longer own_space s spaces t.spaces new spaces' sw e sr ss sfits;
  }

  -- a slot was written, and the key and the lists with it
  pub table_written : (new : Slab Mount) (keys' : Keys) (children' spaces' : SlotListsView) (slot i : ℕ) (o : Option Mount) → Updates s new slot o → key_at keys i ≡ option_map (λ _. slot) (get s slot) → IfSome o (λ m. m.id ≡ i)
      → ((q : ℕ) → key_at keys' q ≡ cond (eqb i q) (option_map (λ _. slot) o) (key_at keys q)) → new.capacity ≡ s.capacity → slot < length children.slots → slot < length spaces.slots
      → children'.rows ≡ with_number i (option_and_then parent_of o) children.rows → children'.slots ≡ slice_set children.slots slot (option_and_then (seat parent_of) o)
      → spaces'.rows ≡ with_number i (option_and_then own_space o) spaces.rows → spaces'.slots ≡ slice_set spaces.slots slot (option_and_then (seat own_space) o)
      → IsTable new keys' children' spaces'
  table_written new keys' children' spaces' slot i o u at fits puts room cin sin cr cs sr ss =
      let w = mounts_written s keys t.keyed new keys' slot i o u at fits puts in
      record {
        keyed = keyed_written s keys t.keyed new keys' slot i o u at fits puts;
        children = beside_written parent_of s children t.children new slot i o children' u w room cin cr cs;
        spaces = beside_written own_space s spaces t.spaces new slot i o spaces' u w room sin sr ss;
      }

  -- a mount has come into a slot that was free
  module _ (new : Slab Mount) (keys' : Keys) (slot : ℕ) (m : Mount) (vacant : get s slot ≡ None) (absent : mount_at (slab_mounts s) m.id ≡ None) (u : Updates s new slot (Some m))
      (puts : (q : ℕ) → key_at keys' q ≡ cond (eqb m.id q) (Some slot) (key_at keys q)) where
    no_key : key_at keys m.id ≡ option_map (λ _. slot) (get s slot)
    no_key = not_keyed s keys t.keyed m.id absent ∙ sym (ap (option_map (λ _. slot)) vacant)

    pub mounts_filled : slab_mounts new ≡ put id_of m (slab_mounts s)
    mounts_filled =
        written_once (slab_mounts s) m.id (Some m) (slab_mounts new) (put id_of m (slab_mounts s)) (mounts_written s keys t.keyed new keys' slot m.id (Some m) u no_key refl puts) (put_written (slab_mounts s) (rises_table s) m)

    pub table_filled : (children' spaces' : SlotListsView) → slot < s.capacity → new.capacity ≡ s.capacity
        → children'.rows ≡ with_number m.id (parent_of m) children.rows → children'.slots ≡ slice_set children.slots slot (seat parent_of m)
        → spaces'.rows ≡ with_number m.id (own_space m) spaces.rows → spaces'.slots ≡ slice_set spaces.slots slot (seat own_space m)
        → IsTable new keys' children' spaces'
    table_filled children' spaces' room kept cr cs sr ss =
        table_written new keys' children' spaces' slot m.id (Some m) u no_key refl puts kept (within parent_of s children t.children slot room) (within own_space s spaces t.spaces slot room) cr cs sr ss

  -- the mount of an ID, in its slot
  module _ (i slot : ℕ) (m : Mount) (at_i : key_at keys i ≡ Some slot) (was : get s slot ≡ Some m) where
    row : mount_at (slab_mounts s) i ≡ Some m
    row = mount_keyed s keys t.keyed i (Some slot) at_i ∙ was

    fits : m.id ≡ i
    fits = row_at-key id_of i (slab_mounts s) m row

    its_key : key_at keys i ≡ option_map (λ _. slot) (get s slot)
    its_key = at_i ∙ sym (ap (option_map (λ _. slot)) was)

    -- it has gone from the slot
    module _ (new : Slab Mount) (keys' : Keys) (u : Updates s new slot None) (cuts : (q : ℕ) → key_at keys' q ≡ cond (eqb i q) None (key_at keys q)) where
      pub mounts_emptied : slab_mounts new ≡ without_id i (slab_mounts s)
      mounts_emptied =
          written_once (slab_mounts s) i None (slab_mounts new) (without_id i (slab_mounts s)) (mounts_written s keys t.keyed new keys' slot i None u its_key tt cuts) (without_written (slab_mounts s) (rises_table s) i)

      pub table_emptied : (children' spaces' : SlotListsView) → new.capacity ≡ s.capacity
          → children'.rows ≡ option_map_or (λ j. without_row j children.rows) (id_in children.slots slot) children.rows → children'.slots ≡ slice_set children.slots slot None
          → spaces'.rows ≡ option_map_or (λ j. without_row j spaces.rows) (id_in spaces.slots slot) spaces.rows → spaces'.slots ≡ slice_set spaces.slots slot None
          → IsTable new keys' children' spaces'
      table_emptied children' spaces' room cr cs sr ss =
          table_written new keys' children' spaces' slot i None u its_key tt cuts room (t.children.held slot m was) (t.spaces.held slot m was)
          (taken parent_of s children t.children slot i m was row children'.rows cr) cs (taken own_space s spaces t.spaces slot i m was row spaces'.rows sr) ss

    -- it was changed in the slot
    module _ (x : Mount) (same : x.id ≡ m.id) where
      written : Updates s (with_value s slot x) slot (Some x)
      written = Updates-with_value s slot x (rw was refl)

      stays : (q : ℕ) → key_at keys q ≡ cond (eqb i q) (Some slot) (key_at keys q)
      stays q = row_cases i q _ _ _ (λ e. ap (key_at keys) (sym e) ∙ at_i) (λ ne. refl)

      mounts_changed : IsWritten (slab_mounts s) i (Some x) (slab_mounts (with_value s slot x))
      mounts_changed = mounts_written s keys t.keyed (with_value s slot x) keys slot i (Some x) written its_key (same ∙ fits) stays

      table_changed : (children' : SlotListsView) → x.space ≡ m.space → children'.rows ≡ with_number i (parent_of x) children.rows → children'.slots ≡ slice_set children.slots slot (seat parent_of x) → IsTable (with_value s slot x) keys children' spaces
      table_changed children' space cr cs =
          table_written (with_value s slot x) keys children' spaces slot i (Some x) written its_key (same ∙ fits) stays refl (t.children.held slot m was) (t.spaces.held slot m was) cr cs
          (rows_kept own_space s spaces t.spaces slot i m was row ∙ ap (λ n. with_number i (Some n) spaces.rows) (sym space))
          (slots_kept own_space s spaces t.spaces slot i m was row ∙ ap (λ n. slice_set spaces.slots slot (Some n)) (sym same))

    -- it has other attributes
    pub mounts_attrs : (a : Attrs) → slab_mounts (with_value s slot (given_attrs a m)) ≡ with_attrs i a (slab_mounts s)
    mounts_attrs a = written_once (slab_mounts s) i (Some (given_attrs a m)) _ _ (mounts_changed (given_attrs a m) refl) (attrs_written (slab_mounts s) (rises_table s) i (Some m) row a)

    pub table_attrs : (a : Attrs) → IsTable (with_value s slot (given_attrs a m)) keys children spaces
    table_attrs a = table_changed (given_attrs a m) refl children refl (rows_kept parent_of s children t.children slot i m was row) (slots_kept parent_of s children t.children slot i m was row)

    -- it has another place: what it leaves of the list of its parent, and what it makes of that of the new one
    pub mounts_moved : (p : Place) → slab_mounts (with_value s slot (moved_to p m)) ≡ with_place i p (slab_mounts s)
    mounts_moved p = written_once (slab_mounts s) i (Some (moved_to p m)) _ _ (mounts_changed (moved_to p m) refl) (place_written (slab_mounts s) (rises_table s) i (Some m) row p)

    module _ (mid : SlotListsView) (rows_less : mid.rows ≡ option_map_or (λ j. without_row j children.rows) (id_in children.slots slot) children.rows) (slots_less : mid.slots ≡ slice_set children.slots slot None) where
      gone : mid.rows ≡ without_row i children.rows
      gone = taken parent_of s children t.children slot i m was row mid.rows rows_less

      pub left_absent : listed_number mid.rows i ≡ None
      left_absent = taken_absent parent_of s children t.children slot i m was row mid.rows gone

      pub table_moved : (p : Place) (children' : SlotListsView) → children'.rows ≡ put listed_id (record { id = i; number = p.mount }) mid.rows → children'.slots ≡ slice_set mid.slots slot (Some i)
          → IsTable (with_value s slot (moved_to p m)) keys children' spaces
      table_moved p children' r l =
          table_changed (moved_to p m) refl children' refl
          (r ∙ ap (with_number i (Some p.mount)) gone ∙ with-taken i (Some p.mount) children.rows (rises_beside parent_of s children t.children))
          (l ∙ ap (λ xs. slice_set xs slot (Some i)) slots_less ∙ set-set children.slots slot None (Some i) ∙ ap (λ j. slice_set children.slots slot (Some j)) (sym fits))
