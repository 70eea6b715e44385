-- A worklist of groups that enters each group at the first of its members among the slaves of its master finds exactly the
-- groups that reach the one where it began, each once.
use Rattle.std.proofs.Common.{◌≡◌, ℕ, suc, Bool, true, false, cond, not, ◌&&◌, ◌==◌, List, [], ◌∷◌, Option, Some, None, refl, sym, ap, ◌∙◌, inl, inr, arith, ◌+◌, ◌-◌, ◌≤◌, ◌<◌, ◌++◌, take, length, get_or, subst, filter, find}
use Rattle.std.specs.Option.{option_map, option_map_or}
use Rattle.std.proofs.lemmas.Bool.Decides.{nat_tests}
use Rattle.std.proofs.lemmas.List.{length-append, take_all}
use Rattle.std.proofs.Math.Seq.{take-suc}
use Rattle.mt_skel.specs.Keyed.{row_at, rises, among}
use Rattle.mt_skel.proofs.ElementLaws.{In}
use Rattle.mt_skel.specs.Counted.{count, occ}
use Rattle.mt_skel.proofs.CountLaws.{count-same, count-filter, count-row, occ-filter_map, count-or, count-length, length-filter, length-filter_map}
use Rattle.mt_skel.proofs.WorklistLaws.{is_found, is_found-snoc, apart-new, within-lift, IsGathered, gathered-start, gathered-next, gathered-all, next-new, front-next}
use Rattle.mt_peers.specs.Peers.{Peer, mount_of, in_group, has_master, names}
use Rattle.mt_peers.specs.Masters.{master_of, reaches}
use Rattle.mt_peers.specs.Members.{is_first}
use Rattle.mt_peers.specs.Entered.{entered, entered_by}
use Rattle.mt_peers.proofs.MemberLaws.{find_row}
use Rattle.mt_peers.proofs.ListedLaws.{first-found}

-- where none passes, none counts
pub count-zero : (t : Peer → Bool) (es : List Peer) → ((e : Peer) → In e es → t e ≡ false) → count t es ≡ 0
count-zero t [] off = refl
count-zero t (x ∷ es) off = grind (arith, off x (inl refl), count-zero t es (λ e at. off e (inr at)))

-- of a mount's rows, the one that is read passes or none
pub one-row : (p : ℕ) (s : Peer → Bool) (es : List Peer) → rises mount_of es ≡ true → count (λ e. s e && (p == e.mount)) es ≡ option_map_or (λ x. cond (s x) 1 0) (row_at mount_of p es) 0
one-row p s es up = count-same (λ e. s e && (p == e.mount)) (λ e. (e.mount == p) && s e) (λ e. grind (arith, nat_tests)) es ∙ count-row mount_of s p es up

first-count : (h : ℕ) (t : Peer → Bool) (es : List Peer) → rises mount_of es ≡ true
    → count (λ e. (in_group h e && is_first es h e.mount) && t e) es ≡ option_map_or (λ x. cond (t x) 1 0) (find (in_group h) es) 0
first-count h t es up = ap (λ o. count (λ e. (in_group h e && names o e.mount) && t e) es) (first-found es h) ∙ go (find (in_group h) es) refl
  where
    go : (o : Option Peer) → find (in_group h) es ≡ o → count (λ e. (in_group h e && names (option_map mount_of o) e.mount) && t e) es ≡ option_map_or (λ x. cond (t x) 1 0) o 0
    go None is = count-zero (λ e. (in_group h e && false) && t e) es (λ e at. grind arith)
    go (Some x) is =
        let f = find_row h es x up is in
        count-same (λ e. (in_group h e && (x.mount == e.mount)) && t e) (λ e. (in_group h e && t e) && (x.mount == e.mount)) (λ e. grind arith) es
        ∙ grind (arith, one-row x.mount (λ e. in_group h e && t e) es up, f)

-- an optional number is this one
pub names-cond : (b : Bool) (k q : ℕ) → names (cond b (Some k) None) q ≡ (b && (k == q))
names-cond b k q = grind arith

-- a group is entered at the slaves of its master, once, and at no others
pub entered-once : (es : List Peer) (g m h : ℕ) → rises mount_of es ≡ true → occ h (entered_by es g m) ≡ cond (not (h == g) && names (master_of es h) m) 1 0
entered-once es g m h up =
    occ-filter_map h (λ (e : Peer). entered es g e.mount e.state.group) (filter (has_master m) es)
    ∙ count-filter (λ (e : Peer). names (entered es g e.mount e.state.group) h) (has_master m) es
    ∙ count-same (λ (e : Peer). has_master m e && names (entered es g e.mount e.state.group) h) (λ (e : Peer). (in_group h e && is_first es h e.mount) && (not (h == g) && has_master m e)) (λ e. tests (has_master m e) e.mount e.state.group) es
    ∙ first-count h (λ (e : Peer). not (h == g) && has_master m e) es up
    ∙ grind arith
  where
    tests : (a : Bool) (i : ℕ) (o : Option ℕ) → (a && names (entered es g i o) h) ≡ ((names o h && is_first es h i) && (not (h == g) && a))
    tests a i None = grind arith
    tests a i (Some k) = grind (arith, nat_tests)

-- a mount whose master is in the list
abbrev pub led_by : List ℕ → Peer → Bool
led_by found e = is_found found e.state.master

-- the slaves of the groups `done` were gone over, and all groups entered so far are `all`
pub record IsWorklist (es : List Peer) (g : ℕ) (done all : List ℕ) : Type 0 where
  pub gathered : IsGathered (master_of es) g done all
  pub few : length all ≤ suc (count (led_by done) es)

-- how many slaves were gone over
pub led-more : (es : List Peer) (done : List ℕ) (m : ℕ) → occ m done ≡ 0 → count (led_by (done ++ m ∷ [])) es ≡ count (led_by done) es + count (has_master m) es
led-more es done m new = count-or (led_by (done ++ m ∷ [])) (led_by done) (has_master m) (λ e. is_found-snoc done m e.state.master) (λ e. apart-new done m new e.state.master) es

pub worklist-start : (es : List Peer) (g : ℕ) → IsWorklist es g [] (g ∷ [])
worklist-start es g = record { gathered = gathered-start (master_of es) g; few = omega arith }

-- a worklist is sound at each time
pub worklist-sound : (es : List Peer) (g : ℕ) (done all : List ℕ) → IsWorklist es g done all → (h : ℕ) → among all h ≡ true → reaches es h g ≡ true
worklist-sound es g done all w h e = within-lift (master_of es) g (length all - 1) (length es) h (let f = w.few in let l = count-length (led_by done) es in omega arith) (w.gathered.sound h e)

-- once the slaves of all groups were gone over, these are the groups that reach the first
pub worklist-reach : (es : List Peer) (g : ℕ) (all : List ℕ) → IsWorklist es g all all → (h : ℕ) → among all h ≡ reaches es h g
worklist-reach es g all w h = gathered-all (master_of es) g all (length es) w.gathered (let f = w.few in let l = count-length (led_by all) es in omega arith) h

-- one group more of the list is gone over
module _ (es : List Peer) (g i d : ℕ) (all : List ℕ) (up : rises mount_of es ≡ true) (w : IsWorklist es g (take i all) all) (in_all : i < length all) where
  new : occ (get_or all i d) (take i all) ≡ 0
  new = (next-new (master_of es) g i d all w.gathered in_all).0

  more-few : length (all ++ entered_by es g (get_or all i d)) ≤ suc (count (led_by (take i all ++ get_or all i d ∷ [])) es)
  more-few =
      let m = get_or all i d in
      let whole = length-append all (entered_by es g m) in
      let some = length-filter_map (λ (e : Peer). entered es g e.mount e.state.group) (filter (has_master m) es) in
      let most = length-filter (has_master m) es in
      let more = led-more es (take i all) m new in
      let few = w.few in
      omega arith

  pub worklist-next : IsWorklist es g (take (i + 1) (all ++ entered_by es g (get_or all i d))) (all ++ entered_by es g (get_or all i d))
  worklist-next =
      let more = entered_by es g (get_or all i d) in
      record {
        gathered = gathered-next (master_of es) g i d all w.gathered in_all more (λ h. entered-once es g (get_or all i d) h up);
        few = subst (λ done. length (all ++ more) ≤ suc (count (led_by done) es)) (sym (front-next (master_of es) g i d all w.gathered in_all more)) more-few;
      }

  pub next-led : count (led_by (take (i + 1) all)) es ≡ count (led_by (take i all)) es + count (has_master (get_or all i d)) es
  next-led =
      let one : i + 1 ≡ suc i = omega arith in
      ap (λ k. count (led_by (take k all)) es) one ∙ ap (λ done. count (led_by done) es) (take-suc all i d in_all) ∙ led-more es (take i all) (get_or all i d) new

-- at the end of the list
pub worklist-all : (es : List Peer) (g i : ℕ) (all : List ℕ) → IsWorklist es g (take i all) all → length all ≤ i → IsWorklist es g all all
worklist-all es g i all w l = subst (λ done. IsWorklist es g done all) (take_all i all l) w
