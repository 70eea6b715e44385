-- The posts of a command, from what is due at the places of a desk to what its floor does.
use Rattle.std.proofs.Common.{◌≡◌, ℕ, zero, suc, ◌<◌, Bool, true, false, cond, eqb, List, [], ◌∷◌, ◌++◌, length, map, set, get_or, Some, slice_get, inl, inr, refl, sym, ap, ◌∙◌, subst, arith, append_assoc, eqb-true, eq-eqb}
use Rattle.std.specs.List.{filter, flat_map, list_any, AllByRecursion}
use Rattle.std.specs.Option.{option_map_or}
use Rattle.std.specs.Arc.{arc_value}
use Rattle.std.proofs.lemmas.Bool.{or_parts}
use Rattle.std.proofs.lemmas.Bool.Decides.{nat_tests}
use Rattle.std.proofs.lemmas.List.{append-nil, map-append}
use Rattle.std.proofs.lemmas.List.Folds.{flat_map-map}
use Rattle.std.proofs.lemmas.Option.{slice_get_read, slice_get_within}
use Rattle.mt_skel.specs.Keyed.{row_at, rises}
use Rattle.mt_skel.proofs.ElementLaws.{In, in_flat, any_in}
use Rattle.mt_skel.proofs.MiddleLaws.{each_still}
use Rattle.mt_propagate.proofs.RowLaws.{each_in}
use Rattle.mt_events.specs.Posts.{PostView}
use Rattle.mt_events.specs.Following.{IsRun}
use Rattle.mt_book.specs.declared.command.Command.{Command}
use Rattle.mt_book.specs.declared.command.Reply.{Reply}
use Rattle.mt_book.specs.History.{posts_of}
use Rattle.mt_book.specs.declared.prepared.Prepared.{Prepared}
use Rattle.mt_book.specs.Kept.{IsPrepared}
use Rattle.mt_queue.specs.Halves.{LineId}
use Rattle.mt_queue.specs.PassViews.{Item}
use Rattle.mt_queue.proofs.RunLaws.{run_front}
use Rattle.mt_floor.specs.declared.watch.Phase.{Phase}
use Rattle.mt_floor.specs.declared.watch.Phase.TheVariants.{Open as IsOpen, Lagged, Ended}
use Rattle.mt_floor.specs.Watcher.{Watcher, Due, follows, due_for, due_pairs}
use Rattle.mt_desk.specs.Desk.{DeskRow, DeskView, IsDesk, row_key, late_watcher}
use Rattle.mt_desk.specs.Calls.{IsApplied}
use Rattle.mt_desk.specs.Sent.{IsSentOne, IsSentOneIn, IsSendingPosts}
use Rattle.mt_desk.specs.Rows.{PlacedRowView, MayBeSent}
use Rattle.mt_desk.specs.declared.places.Slot.{Slot}
use Rattle.mt_desk.specs.declared.places.Slot.TheVariants.{Parked, Used, Away}
use Rattle.mt_desk.specs.Places.{row_in, rows_at_places, desk_of, IsLine, IsUsed, has_place, ArePlaces, IsKeptDesk}
use Rattle.mt_desk.specs.Sending.{PlaceDue, slot_follows, slot_hears, due_at, posts_at, AreDue, SendsAt, SendsAll}
use Rattle.mt_desk.proofs.PlaceLaws.{get_set, each_get, apart, row_there, row_set, still_used, row_of_place, put_rows, put_places}
use Rattle.mt_desk.proofs.ScheduleLaws.{rows_rise}
use Rattle.mt_desk.proofs.SentLaws.{prepared_begins, sent_first, left_is_run, sent_row, sent_all, sent_stays}

-- ---- What is due of one post and of posts

-- nothing is due to a row that does not follow the post
pub nothing_due : (due : List PlaceDue) (p : PostView) (slots : List Slot) (place : ℕ) (s : Slot) → place < length slots → s ≡ get_or slots place s → slot_follows p s ≡ false
    → due ≡ due ++ due_at p slots place
nothing_due due p slots place s within is not_followed =
    let at = slice_get_read slots (length slots) place s refl within is in
    sym (append-nil due) ∙ ap (λ b. due ++ cond b (record { place = place; post = p } ∷ []) []) (sym (ap (λ o. option_map_or (slot_follows p) o false) at ∙ not_followed))

-- where no row is open, nothing is due
deaf_slot : (p : PostView) (s : Slot) → slot_hears s ≡ false → slot_follows p s ≡ false
deaf_slot p (Parked l) e = refl
deaf_slot p (Used r) e = rw e refl
deaf_slot p Away e = refl

nobody_follows : (p : PostView) (slots : List Slot) (place : ℕ) → list_any slot_hears slots ≡ false → option_map_or (slot_follows p) (slice_get slots place) false ≡ false
nobody_follows p [] place e = refl
nobody_follows p (s ∷ slots) zero e = deaf_slot p s (or_parts (slot_hears s) (list_any slot_hears slots) e).0
nobody_follows p (s ∷ slots) (suc place) e = nobody_follows p slots place (or_parts (slot_hears s) (list_any slot_hears slots) e).1

-- lists without elements, one after another
flat_none : {X Y : Type 0} (f : X → List Y) → ((x : X) → f x ≡ []) → (xs : List X) → flat_map f xs ≡ []
flat_none f none [] = refl
flat_none f none (x ∷ xs) = ap (λ l. l ++ flat_map f xs) (none x) ∙ flat_none f none xs

-- so what is due of all posts is due of those that were made
due_asked : (heard : Bool) (ps : List PostView) (slots : List Slot) (order : List ℕ) → heard ≡ list_any slot_hears slots
    → flat_map (λ q. flat_map (due_at q slots) order) (cond heard ps []) ≡ flat_map (λ q. flat_map (due_at q slots) order) ps
due_asked true ps slots order e = refl
due_asked false ps slots order e = sym (flat_none _ (λ q. flat_none (due_at q slots) (λ k. ap (λ b. cond b (record { place = k; post = q } ∷ []) []) (nobody_follows q slots k (sym e))) order) ps)

-- what is due at a place, as the floor has it
abbrev pub keyed : List Slot → PlaceDue → Due
keyed slots e = record { post = e.post; key = (row_in slots e.place).key }

-- of one post, and of posts one after another
due_of_post : (c : ℕ) (slots : List Slot) (p : PostView) (ks : List ℕ) → AllByRecursion (IsUsed slots) ks
    → map (keyed slots) (flat_map (due_at p slots) ks) ≡ map (λ (w : Watcher). record { post = p; key = w.key }) (filter (follows p) (map (late_watcher c) (rows_at_places slots ks)))
due_of_post c slots p [] u = refl
due_of_post c slots p (k ∷ ks) u = grind (arith, u.0.there, due_of_post c slots p ks u.1)

due_of_posts : (c : ℕ) (slots : List Slot) (ps : List PostView) (ks : List ℕ) → AllByRecursion (IsUsed slots) ks
    → map (keyed slots) (flat_map (λ p. flat_map (due_at p slots) ks) ps) ≡ due_pairs ps (map (late_watcher c) (rows_at_places slots ks))
due_of_posts c slots [] ks u = refl
due_of_posts c slots (p ∷ ps) ks u =
    map-append (keyed slots) (flat_map (due_at p slots) ks) (flat_map (λ q. flat_map (due_at q slots) ks) ps) ∙ (λ i. due_of_post c slots p ks u i ++ due_of_posts c slots ps ks u i)

-- it is due to places of the order
one_of : (slots : List Slot) (p : PostView) (k : ℕ) (e : PlaceDue) → In e (due_at p slots k) → k ≡ e.place
one_of slots p k e =
    elim (option_map_or (slot_follows p) (slice_get slots k) false) as (λ b. In e (cond b (record { place = k; post = p } ∷ []) []) → k ≡ e.place) [
      | true ↦ λ m. elim m [ inl here ↦ ap (λ (d : PlaceDue). d.place) here | inr later ↦ absurd later ]
      | false ↦ λ m. absurd m
    ]

-- so all that is due is due to places of the order
due_of_order : (slots : List Slot) (ps : List PostView) (order : List ℕ) → AllByRecursion (λ (e : PlaceDue). has_place e.place order ≡ true) (flat_map (λ p. flat_map (due_at p slots) order) ps)
due_of_order slots ps order = each_in _ _ (λ e m.
    let of_post = in_flat (λ p. flat_map (due_at p slots) order) e ps m in
    let of_place = in_flat (due_at of_post.0 slots) e order of_post.2 in
    any_in (λ k. eqb k e.place) of_place.0 order of_place.1 (eq-eqb _ _ (one_of slots of_post.0 of_place.0 e of_place.2)))

-- what is true of each place of the order is true of one of them
among_get : (P : ℕ → Type 0) (p : ℕ) (ks : List ℕ) → has_place p ks ≡ true → AllByRecursion P ks → P p
among_get P p [] h all = absurd cc
among_get P p (k ∷ ks) h all =
    elim (eqb k p) as (λ b. eqb k p ≡ b → P p) [ true ↦ λ e. subst P (eqb-true k p e) all.0 | false ↦ λ e. among_get P p ks (grind (arith, nat_tests, e)) all.1 ] refl

-- what is due to a key is due to its place
due_here : (slots : List Slot) (order : List ℕ) (place : ℕ) (ds : List PlaceDue) → rises row_key (rows_at_places slots order) ≡ true → has_place place order ≡ true
    → AllByRecursion (λ (e : PlaceDue). has_place e.place order ≡ true) ds → due_for (row_in slots place).key (map (keyed slots) ds) ≡ posts_at place ds
due_here slots order place [] rising a all = refl
due_here slots order place (e ∷ ds) rising a all =
    let same : eqb (row_in slots e.place).key (row_in slots place).key ≡ eqb e.place place = apart row_key (row_in slots) e.place place order rising all.0 a in
    rw (same, due_here slots order place ds rising a all.1) refl

-- what was found to be due, of posts that several hold
pub due_found : (shared : List Item) {posts : List PostView} {due : List PlaceDue} {slots read : List Slot} {order told : List ℕ} → read ≡ slots → told ≡ order → map (λ q. arc_value q) shared ≡ posts
    → due ≡ flat_map (λ q. flat_map (due_at (arc_value q) read) told) shared → due ≡ flat_map (λ q. flat_map (due_at q slots) order) posts
due_found shared {read = read} {told = told} s o are is =
    is ∙ sym (flat_map-map (λ q. flat_map (due_at q read) told) (λ q. arc_value q) shared) ∙ (λ i. flat_map (λ q. flat_map (due_at q (s i)) (o i)) (are i))

-- ---- What is due may be sent

-- the first of what is due
pub first_is_due : (slots : List Slot) (d : PlaceDue) (ds : List PlaceDue) → AreDue slots (d ∷ ds) → AreDue slots (d ∷ [])
first_is_due slots d ds h = record {
  used = (h.used.0, tt);
  runs = λ place r at is.
      let o = r.row.opening in
      let sent = r.row.sent in
      let rest = posts_at place ds in
      elim (eqb d.place place) as (λ b. IsRun o (sent ++ cond b (d.post ∷ rest) rest) → IsRun o (sent ++ cond b (d.post ∷ []) [])) [
        | true ↦ λ run. run_front o (sent ++ d.post ∷ []) rest (subst (IsRun o) (sym (append_assoc sent (d.post ∷ []) rest)) run)
        | false ↦ λ run. run_front o (sent ++ []) rest (subst (IsRun o) (sym (append_assoc sent [] rest)) run)
      ] (h.runs place r at is);
}

-- at its place there is a row
pub due_there : (slots : List Slot) (d : PlaceDue) (place : ℕ) (s : Slot) (r : PlacedRowView) → AreDue slots (d ∷ []) → place ≡ d.place → s ≡ get_or slots place s → s ≡ Used r → slice_get slots d.place ≡ Some (Used r)
due_there slots d place s r h here is row =
    let within = subst (λ k. k < length slots) (sym here) (slice_get_within slots d.place (Used h.used.0.row) h.used.0.there) in
    ap (slice_get slots) (sym here) ∙ slice_get_read slots (length slots) place s refl within is ∙ ap (λ x. Some x) row

-- and its row may be sent the post
pub may_be_sent : (slots : List Slot) (d : PlaceDue) (p : PostView) (r : PlacedRowView) → AreDue slots (d ∷ []) → p ≡ d.post → slice_get slots d.place ≡ Some (Used r) → MayBeSent r.row (p ∷ [])
may_be_sent slots d p r h post at = subst (MayBeSent r.row) (ap (λ b. cond b (d.post ∷ []) []) (eq-eqb d.place d.place refl) ∙ ap (λ q. q ∷ []) (sym post)) (h.runs d.place r at)

-- a post to the row at its place leaves the posts behind it due
sent_may : (f : Phase) (c : ℕ) (p : PostView) (r now : DeskRow) (ps : List PostView) → r.phase ≡ f → IsSentOneIn f c p r now → MayBeSent r (p ∷ ps) → MayBeSent now ps
sent_may IsOpen c p r now ps is (inl same) may still = subst (λ (q : DeskRow). IsRun q.opening (q.sent ++ ps)) (sym same) (subst (IsRun r.opening) (sym (append_assoc r.sent (p ∷ []) ps)) (may is))
sent_may IsOpen c p r now ps is (inr lags) may still = absurd (let bad : Lagged ≡ IsOpen = sym (ap (λ (q : DeskRow). q.phase) lags.1) ∙ still in cc)
sent_may Lagged c p r now ps is same may still = absurd (let bad : Lagged ≡ IsOpen = sym is ∙ sym (ap (λ (q : DeskRow). q.phase) same) ∙ still in cc)
sent_may Ended c p r now ps is same may still = absurd (let bad : Ended ≡ IsOpen = sym is ∙ sym (ap (λ (q : DeskRow). q.phase) same) ∙ still in cc)

-- so what is left is due then
pub others_due : (slots slots' : List Slot) (d : PlaceDue) (ds : List PlaceDue) → AreDue slots (d ∷ ds) → SendsAt d slots slots' → AreDue slots' ds
others_due slots slots' d ds h at = subst (λ l. AreDue l ds) (sym at.slots_are) (record {
  used = each_still (λ (e : PlaceDue). IsUsed slots e.place) (λ (e : PlaceDue). IsUsed (set slots d.place (Used at.now)) e.place) (λ e u. still_used slots d.place (Used at.row) at.now at.there e.place u) ds h.used.1;
  runs = λ place r e.
      let rest = posts_at place ds in
      elim (eqb place d.place) as (λ b. eqb place d.place ≡ b → cond b (Some (Used at.now)) (slice_get slots place) ≡ Some (Used r) → MayBeSent r.row rest) [
        | true ↦ λ q f.
            let here : d.place ≡ place = sym (eqb-true place d.place q) in
            let one : at.now ≡ r = cc in
            let may = subst (MayBeSent at.row.row) (ap (λ b. cond b (d.post ∷ rest) rest) (eq-eqb d.place place here)) (h.runs place at.row (ap (slice_get slots) (sym here) ∙ at.there)) in
            subst (λ (x : PlacedRowView). MayBeSent x.row rest) one (sent_may at.row.row.phase _ _ at.row.row at.now.row rest refl at.sends.sent may)
        | false ↦ λ q f.
            let other : eqb d.place place ≡ false = grind (arith, nat_tests, q) in
            subst (MayBeSent r.row) (ap (λ b. cond b (d.post ∷ rest) rest) other) (h.runs place r f)
      ] refl (sym (get_set slots d.place (Used at.row) (Used at.now) at.there place) ∙ e);
})

-- ---- A post more

-- a row keeps its key, and what is due is due to the same keys
key_stays : (f : Phase) (c : ℕ) (p : PostView) (r now : DeskRow) → IsSentOneIn f c p r now → now.key ≡ r.key
key_stays IsOpen c p r now (inl same) = ap row_key same
key_stays IsOpen c p r now (inr lags) = ap row_key lags.1
key_stays Lagged c p r now same = ap row_key same
key_stays Ended c p r now same = ap row_key same

keyed_stay : (slots slots' : List Slot) → ((k : ℕ) → (row_in slots' k).key ≡ (row_in slots k).key) → (ds : List PlaceDue) → map (keyed slots') ds ≡ map (keyed slots) ds
keyed_stay slots slots' same [] = refl
keyed_stay slots slots' same (e ∷ ds) = λ i. record { post = e.post; key = same e.place i } ∷ keyed_stay slots slots' same ds i

module _ (lines : List LineId) (d : DeskView) (x : Command) (reply : Reply) (h : IsDesk d) (order : List ℕ) where
  -- the places after some posts, and what was sent
  record IsPart (slots : List Slot) (ds : List PlaceDue) : Type 0 where
    pub places : ArePlaces lines d.capacity slots order
    pub sending : IsSendingPosts d x reply (rows_at_places slots order) (map (keyed slots) ds)

  -- one post, and all
  sent_at : (slots next : List Slot) (e : PlaceDue) (ds : List PlaceDue) → IsPart slots (e ∷ ds) → SendsAt e slots next → IsPart next ds
  sent_at slots next e ds part at =
      let r = at.row in
      let now = at.now in
      let sends = at.sends in
      let capacity : r.capacity ≡ d.capacity = (each_get (IsLine d.capacity) slots e.place (Used r) part.places.each at.there).capacity_is in
      let key : now.row.key ≡ r.row.key = key_stays r.row.phase r.capacity e.post r.row now.row sends.sent in
      let rows = put_rows part.places e.place part.sending.rising r at.there now sends.line sends.capacity key in
      let row = row_there slots e.place (Used r) at.there in
      let there = ap (λ (q : DeskRow). row_at row_key q.key (rows_at_places slots order)) row ∙ row_of_place part.places e.place part.sending.rising r at.there in
      let left = keyed_stay slots (set slots e.place (Used now)) (λ k. grind (arith, nat_tests, row_set slots e.place (Used r) (Used now) at.there k, row, key)) ds in
      let more = sent_row d x reply h part.sending there now.row (subst (λ n. IsSentOne n e.post r.row now.row) capacity sends.sent) in
      subst (λ l. IsPart l ds) (sym at.slots_are) (record {
        places = put_places part.places e.place part.sending.rising r at.there now sends.line sends.capacity key;
        sending = subst (λ (y : List DeskRow × List Due). IsSendingPosts d x reply y.0 y.1) (λ i. (sym rows i, sym left i)) more;
      })

  sent_through : (slots after : List Slot) (ds : List PlaceDue) → IsPart slots ds → SendsAll ds slots after → IsPart after []
  sent_through slots after [] part same = subst (λ l. IsPart l []) (sym same) part
  sent_through slots after (e ∷ ds) part through = sent_through through.0 after ds (sent_at slots through.0 e ds part through.1) through.2

-- ---- A command

module _ {lines : List LineId} {c : ℕ} {journal : List Command} (last_key : ℕ) {stopped : Bool} {slots : List Slot} {order : List ℕ} {room : ℕ} (h : IsKeptDesk lines (desk_of c journal last_key stopped slots order) slots order room) where
  abbrev desk : DeskView
  desk = desk_of c journal last_key stopped slots order

  -- the places of the order are places
  pub low_places : AllByRecursion (λ place. place < length slots) order
  low_places = each_still (IsUsed slots) (λ place. place < length slots) (λ k u. slice_get_within slots k (Used u.row) u.there) order h.places.used

  -- what a book has prepared
  module _ {x : Command} {p : Prepared} {due : List PlaceDue} (due_is : due ≡ flat_map (λ q. flat_map (due_at q slots) order) p.posts) (runs : stopped ≡ false) (prepared : IsPrepared journal p)
      (heard : p.heard ≡ list_any slot_hears slots) (same : p.command ≡ x) where
    posts_are : due ≡ flat_map (λ q. flat_map (due_at q slots) order) (posts_of journal x)
    posts_are =
        due_is ∙ ap (flat_map (λ q. flat_map (due_at q slots) order)) prepared.posts ∙ due_asked p.heard (posts_of journal p.command) slots order heard
        ∙ ap (λ y. flat_map (λ q. flat_map (due_at q slots) order) (posts_of journal y)) same

    -- what was found to be due is due to places in use, and is what the floor has due
    all_in_order : AllByRecursion (λ (e : PlaceDue). has_place e.place order ≡ true) due
    all_in_order = subst (AllByRecursion (λ (e : PlaceDue). has_place e.place order ≡ true)) (sym posts_are) (due_of_order slots (posts_of journal x) order)

    first : IsSendingPosts desk x p.reply (rows_at_places slots order) (map (keyed slots) due)
    first =
        subst (IsSendingPosts desk x p.reply (rows_at_places slots order)) (sym (ap (map (keyed slots)) posts_are ∙ due_of_posts c slots (posts_of journal x) order h.places.used))
        (sent_first desk x p.reply h.desk (prepared_begins desk x runs prepared same))

    -- what is due may be sent
    pub prepared_due : AreDue slots due
    prepared_due = record {
      used = each_still (λ (e : PlaceDue). has_place e.place order ≡ true) (λ (e : PlaceDue). IsUsed slots e.place) (λ e a. among_get (IsUsed slots) e.place order a h.places.used) due all_in_order;
      runs = λ place r at is.
          let rising = rows_rise desk h.desk in
          let here = due_here slots order place due rising (h.places.ordered place r at) all_in_order in
          let key = ap row_key (row_there slots place (Used r) at) in
          subst (λ l. IsRun r.row.opening (r.row.sent ++ l)) (ap (λ k. due_for k (map (keyed slots) due)) (sym key) ∙ here)
          (left_is_run desk x p.reply h.desk first r.row.key (row_of_place h.places place rising r at) is);
    }

    -- and once it was
    pub prepared_kept : {journal' : List Command} {after : List Slot} {reply : Reply} → journal' ≡ journal ++ p.command ∷ [] → SendsAll due slots after → reply ≡ p.reply
        → IsKeptDesk lines (desk_of c journal' last_key stopped after order) after order room × IsApplied desk x reply (desk_of c journal' last_key stopped after order)
    prepared_kept {after = after} more through is =
        let part = sent_through lines desk x p.reply h.desk order slots after due (record { places = h.places; sending = first }) through in
        subst (λ (y : List Command × Reply). IsKeptDesk lines (desk_of c y.0 last_key stopped after order) after order room × IsApplied desk x y.1 (desk_of c y.0 last_key stopped after order))
        (λ i. (sym (more ∙ ap (λ q. journal ++ q ∷ []) same) i, sym is i)) (
          record { places = part.places; room_is = h.room_is; desk = sent_stays desk x p.reply h.desk part.sending },
          sent_all desk x p.reply h.desk part.sending,
        )
