-- A row among the others: the place where it stands, and what changes or leaves there.
use Rattle.std.proofs.Common.{◌≡◌, ℕ, ◌+◌, Bool, true, false, cond, not, eqb, List, [], ◌∷◌, ◌++◌, map, length, set, get_or, Option, Some, None, slice_get, refl, sym, ap, ◌∙◌, subst, arith, ◌<◌, eqb-true}
use Rattle.std.specs.List.{filter, position_from, remove}
use Rattle.std.proofs.lemmas.List.{map-append}
use Rattle.std.specs.Option.{IfSome}
use Rattle.std.proofs.lemmas.Bool.Decides.{nat_tests}
use Rattle.std.proofs.lemmas.Option.{slice_get_read, slice_get_within}
use Rattle.mt_skel.specs.Keyed.{row_at, put, rises}
use Rattle.mt_skel.proofs.MiddleLaws.{row_mid, put_mid, without_mid, set_mid, remove_mid, get_mid}
use Rattle.mt_book.specs.declared.command.Command.{Command}
use Rattle.mt_floor.specs.Watcher.{Watcher, watcher_key}
use Rattle.mt_floor.specs.Rows.{FloorRowView, watcher_of}

-- the row of a key, with those before it and those after it
pub record IsAt (q i : ℕ) (rows : List FloorRowView) (row : FloorRowView) : Type 0 where
  pub front : List FloorRowView
  pub back : List FloorRowView
  pub split : rows ≡ front ++ row ∷ back
  pub place : i ≡ length front
  pub is : row.key ≡ q

abbrev pub is_of : ℕ → FloorRowView → Bool
is_of q r = eqb r.key q

found_from : (q n i : ℕ) (rows : List FloorRowView) → position_from (is_of q) n rows ≡ Some i → (j : ℕ) × (row : FloorRowView) × (i ≡ n + j) × IsAt q j rows row
found_from q n i [] e = absurd (cc)
found_from q n i (r ∷ rows) e = by (eqb r.key q) refl e (found_from q (n + 1) i rows)
  where
    by : (b : Bool) → eqb r.key q ≡ b → cond b (Some n) (position_from (is_of q) (n + 1) rows) ≡ Some i
        → (position_from (is_of q) (n + 1) rows ≡ Some i → (j : ℕ) × (row : FloorRowView) × (i ≡ n + 1 + j) × IsAt q j rows row)
        → (j : ℕ) × (row : FloorRowView) × (i ≡ n + j) × IsAt q j (r ∷ rows) row
    by true is e ih =
        let same : n ≡ i = cc in
        (0, r, omega (arith, same), record { front = []; back = rows; split = refl; place = refl; is = eqb-true r.key q is })
    by false is e ih =
        let f = ih e in
        let at = f.3 in
        (f.0 + 1, f.1, omega (arith, f.2), record { front = r ∷ at.front; back = at.back; split = ap (λ l. r ∷ l) at.split; place = omega (arith, at.place); is = at.is })

-- the row that a search for a key has found
pub record Found (q i : ℕ) (rows : List FloorRowView) : Type 0 where
  pub row : FloorRowView
  pub at : IsAt q i rows row

-- a search finds one, if it tells a place
pub sought : (q : ℕ) {i : ℕ} {rows now : List FloorRowView} {o : Option ℕ} → now ≡ rows → o ≡ position_from (is_of q) 0 now → o ≡ Some i → Found q i rows
sought q {i = i} {rows = rows} same is what =
    let f = found_from q 0 i rows (ap (position_from (is_of q) 0) (sym same) ∙ sym is ∙ what) in
    let here : f.0 ≡ i = omega (arith, f.2) in
    record { row = f.1; at = subst (λ n. IsAt q n rows f.1) here f.3 }

-- it stands there, within the list
pub got_at : {q i : ℕ} {rows : List FloorRowView} {row : FloorRowView} → IsAt q i rows row → slice_get rows i ≡ Some row
got_at {row = row} at = (λ k. slice_get (at.split k) (at.place k)) ∙ get_mid at.front at.back row

pub within_at : {q i : ℕ} {rows : List FloorRowView} → Found q i rows → i < length rows
within_at {i = i} {rows = rows} f = slice_get_within rows i f.row (got_at f.at)

-- what is so of its row is so of the one that stands there
pub at_place : {q i : ℕ} {rows : List FloorRowView} (f : Found q i rows) (P : FloorRowView → Type 0) → P f.row → IfSome (slice_get rows i) P
at_place f P is = subst (λ o. IfSome o P) (sym (got_at f.at)) is

-- and its row is the one that is read there
pub row_read : {q i : ℕ} {rows : List FloorRowView} {row : FloorRowView} → Found q i rows → row ≡ get_or rows i row → IsAt q i rows row
row_read {q = q} {i = i} {rows = rows} {row = row} f is =
    let two : ◌≡◌ {A = Option FloorRowView} (Some f.row) (Some row) = sym (got_at f.at) ∙ slice_get_read rows (length rows) i row refl (within_at f) is in
    let same : f.row ≡ row = cc in
    subst (IsAt q i rows) same f.at

-- a key without a row has no watcher
pub no_watcher : (journal : List Command) (q n : ℕ) (rows : List FloorRowView) → position_from (is_of q) n rows ≡ None → row_at watcher_key q (map (watcher_of journal) rows) ≡ None
no_watcher journal q n [] e = refl
no_watcher journal q n (r ∷ rows) e = let ih = no_watcher journal q (n + 1) rows in grind (arith, nat_tests)

module _ (journal : List Command) {q i : ℕ} {rows : List FloorRowView} {row : FloorRowView} (at : IsAt q i rows row) (rising : rises watcher_key (map (watcher_of journal) rows) ≡ true) where
  abbrev watchers : List FloorRowView → List Watcher
  watchers rs = map (watcher_of journal) rs

  -- the watchers of rows, around one
  mid : watchers rows ≡ watchers at.front ++ watcher_of journal row ∷ watchers at.back
  mid = ap watchers at.split ∙ map-append (watcher_of journal) at.front (row ∷ at.back)

  mid_rises : rises watcher_key (watchers at.front ++ watcher_of journal row ∷ watchers at.back) ≡ true
  mid_rises = ap (rises watcher_key) (sym mid) ∙ rising

  -- the watcher of the key is that of its row
  pub watcher_at : row_at watcher_key q (map (watcher_of journal) rows) ≡ Some (watcher_of journal row)
  watcher_at = (λ j. row_at watcher_key (sym at.is j) (mid j)) ∙ row_mid watcher_key (watchers at.front) (watchers at.back) (watcher_of journal row) mid_rises

  -- a row that changes is put in its place
  pub changed_at : (new : FloorRowView) (w : Watcher) → watcher_of journal new ≡ w → w.key ≡ row.key → put watcher_key w (map (watcher_of journal) rows) ≡ map (watcher_of journal) (set rows i new)
  changed_at new w is same =
      ap (put watcher_key w) mid
      ∙ put_mid watcher_key (watchers at.front) (watchers at.back) (watcher_of journal row) w same mid_rises
      ∙ ap (λ x. watchers at.front ++ x ∷ watchers at.back) (sym is)
      ∙ sym (map-append (watcher_of journal) at.front (new ∷ at.back))
      ∙ ap watchers (sym (set_mid at.front at.back row new) ∙ (λ j. set (sym at.split j) (sym at.place j) new))

  -- and one that leaves
  pub without_at : filter (λ (x : Watcher). not (eqb x.key row.key)) (map (watcher_of journal) rows) ≡ map (watcher_of journal) (remove rows i)
  without_at =
      ap (filter (λ (x : Watcher). not (eqb x.key row.key))) mid
      ∙ without_mid watcher_key (watchers at.front) (watchers at.back) (watcher_of journal row) mid_rises
      ∙ sym (map-append (watcher_of journal) at.front at.back)
      ∙ ap watchers (sym (remove_mid at.front at.back row) ∙ (λ j. remove (sym at.split j) (sym at.place j)))
