-- What the sending of a due post does to the rows of a floor.
use Rattle.std.proofs.Common.{◌≡◌, ℕ, ◌+◌, ◌<◌, ◌≤◌, Bool, true, false, cond, not, List, [], ◌∷◌, ◌++◌, map, length, set, drop, Option, Some, None, slice_get, Ok, refl, sym, ap, ◌∙◌, subst, arith, append_assoc, length-append, eq-eqb}
use Rattle.std.specs.Prelude.{nat_le}
use Rattle.std.specs.List.{AllByRecursion}
use Rattle.std.specs.Option.{option_map, option_map_or, IfSome}
use Rattle.std.proofs.lemmas.Bool.Decides.{nat_tests}
use Rattle.mt_skel.specs.Keyed.{row_at}
use Rattle.mt_book.specs.declared.command.Command.{Command}
use Rattle.mt_floor.specs.declared.watch.Phase.TheVariants.{Lagged}
use Rattle.mt_floor.specs.declared.event.Event.TheVariants.{PostNext}
use Rattle.mt_floor.specs.declared.event.Answer.TheVariants.{Posted, NotNow}
use Rattle.mt_floor.specs.Watcher.{Due, watcher_key}
use Rattle.mt_floor.specs.Schedule.{FloorView, floor_step, sent_to, is_full, posted}
use Rattle.mt_floor.specs.Rows.{FloorRowView, with_post, lagged, watcher_of, floor_of, IsFloorRow, IsKeptFloor}
use Rattle.mt_floor.proofs.DueLaws.{but}
use Rattle.mt_floor.proofs.PlaceLaws.{Found, got_at, at_place, changed_at}
use Rattle.mt_floor.proofs.KeptLaws.{IsDone, full_is, row_is, each_set, found, done}

-- the key that is posted to first
abbrev first_for : List Due → Option ℕ
first_for due = option_map (λ (d : Due). d.key) (slice_get due 0)

module _ {c : ℕ} {j : List Command} {l : ℕ} {st : Bool} {rows : List FloorRowView} {due : List Due} {s : FloorView} (h : IsKeptFloor c j l st rows due) (view : floor_of c j l st rows due ≡ s) where
  pub post_none : first_for due ≡ None → floor_step s PostNext ≡ (s, Ok NotNow)
  unfolding floor_step
  post_none e = by s.due (ap (λ (f : FloorView). first_for f.due) (sym view) ∙ e)
    where
      by : (ds : List Due) → first_for ds ≡ None → posted s ds ≡ (s, Ok NotNow)
      by [] f = refl
      by (d ∷ ds) f = absurd (let bad : ◌≡◌ {A = Option ℕ} (Some d.key) None = f in cc)

  pub post_nowhere : {q : ℕ} → first_for due ≡ Some q → row_at watcher_key q s.watchers ≡ None → floor_step s PostNext ≡ (s, Ok NotNow)
  unfolding floor_step
  post_nowhere {q = q} e none = by s.due (ap (λ (f : FloorView). first_for f.due) (sym view) ∙ e)
    where
      by : (ds : List Due) → first_for ds ≡ Some q → posted s ds ≡ (s, Ok NotNow)
      by [] f = absurd (let bad : ◌≡◌ {A = Option ℕ} None (Some q) = f in cc)
      by (d ∷ ds) f =
          let same : d.key ≡ q = cc in
          ap (λ o. option_map_or (λ r. sent_to s d ds (is_full s.capacity r) r) o (s, Ok NotNow)) (ap (λ k. row_at watcher_key k s.watchers) same ∙ none)

  module _ {q i : ℕ} (f : Found q i rows) where
    pub room_at : IfSome (slice_get rows i) (λ row. c ≤ length row.waiting + row.room)
    room_at = at_place f (λ row. c ≤ length row.waiting + row.room) (row_is h view f.at).room

    module _ (d : Due) (ds : List Due) (same : d.key ≡ q) where
      sent_row : (b : Bool) → nat_le c (length f.row.waiting) ≡ b → IsFloorRow c j (cond b (lagged f.row) (with_post f.row d.post))
      sent_row true e = let r = row_is h view f.at in record { since = r.since; taken = r.taken; room = r.room }
      sent_row false e =
          let r = row_is h view f.at in
          let less : length f.row.waiting < c = grind (arith, nat_tests) in
          record { since = r.since; taken = r.taken; room = omega (arith, less, r.room, length-append f.row.waiting (d.post ∷ [])) }

      sent : (b : Bool) → sent_to (floor_of c j l st rows due) d ds b (watcher_of j f.row)
          ≡ (floor_of c j l st (set rows i (cond b (lagged f.row) (with_post f.row d.post))) (cond b (but q (d ∷ ds)) ds), Ok (Posted q b))
      sent true =
          let watchers = changed_at j f.at h.floor.rising (lagged f.row) (record (watcher_of j f.row) { phase = Lagged }) refl refl in
          let left = ap (λ k. but k ds) same ∙ ap (λ b. cond (not b) (d ∷ but q ds) (but q ds)) (sym (eq-eqb d.key q same)) in
          λ k. (record { capacity = c; journal = j; next_key = l + 1; stopped = st; watchers = watchers k; due = left k }, Ok (Posted (same k) true))
      sent false =
          let longer = ap (λ s. record (watcher_of j f.row) { sent = s }) (sym (append_assoc (watcher_of j f.row).taken f.row.waiting (d.post ∷ []))) in
          let watchers = changed_at j f.at h.floor.rising (with_post f.row d.post) (record (watcher_of j f.row) { sent = (watcher_of j f.row).sent ++ d.post ∷ [] }) longer refl in
          λ k. (record { capacity = c; journal = j; next_key = l + 1; stopped = st; watchers = watchers k; due = ds }, Ok (Posted (same k) false))

    pub post_some : {rows' : List FloorRowView} {due' : List Due} {b : Bool} → first_for due ≡ Some q → ((row : FloorRowView) → slice_get rows i ≡ Some row → b ≡ nat_le c (length row.waiting))
        → ((row : FloorRowView) (d : Due) → slice_get rows i ≡ Some row → slice_get due 0 ≡ Some d → rows' ≡ set rows i (cond b (lagged row) (with_post row d.post)))
        → due' ≡ cond b (but q due) (drop 1 due) → IsDone s PostNext (Ok (Posted q b)) c j l st rows' due'
    unfolding floor_step
    post_some {rows' = rows'} {due' = due'} {b = b} e full sets left = by due refl e left
      where
        by : (ds : List Due) → due ≡ ds → first_for ds ≡ Some q → due' ≡ cond b (but q ds) (drop 1 ds) → IsDone s PostNext (Ok (Posted q b)) c j l st rows' due'
        by [] is e g = absurd (let bad : ◌≡◌ {A = Option ℕ} None (Some q) = e in cc)
        by (d ∷ ds) is e g =
            let same : d.key ≡ q = cc in
            let got = got_at f.at in
            let now = sets f.row d got (ap (λ x. slice_get x 0) is) in
            done h view PostNext (
            ap (posted (floor_of c j l st rows due)) is
            ∙ ap (λ o. option_map_or (λ r. sent_to (floor_of c j l st rows due) d ds (is_full c r) r) o (floor_of c j l st rows due, Ok NotNow)) (ap (λ k. row_at watcher_key k (map (watcher_of j) rows)) same ∙ found h view f.at)
            ∙ ap (λ x. sent_to (floor_of c j l st rows due) d ds x (watcher_of j f.row)) (full_is c j f.row (row_is h view f.at) ∙ sym (full f.row got))
            ∙ sent d ds same b
            ∙ (λ k. (floor_of c j l st (sym now k) (sym g k), Ok (Posted q b)))
            ) (subst (AllByRecursion (IsFloorRow c j)) (sym now) (each_set h view f.at (cond b (lagged f.row) (with_post f.row d.post)) (sent_row d ds same b (sym (full f.row got)))))
