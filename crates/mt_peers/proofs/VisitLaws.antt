-- What is found and looked at once the slaves of one group more of a worklist were gone over.
use Rattle.std.proofs.Common.{◌≡◌, ℕ, suc, ◌+◌, ◌≤◌, ◌<◌, Bool, true, ◌&&◌, ◌||◌, eqb, List, [], ◌∷◌, ◌++◌, take, drop, length, get_or, sym, ap, subst, ◌∙◌, arith, filter, filter_map}
use Rattle.std.proofs.lemmas.List.Folds.{list_any-append}
use Rattle.std.proofs.lemmas.List.{take-append-drop, take-append-le, take_all}
use Rattle.std.proofs.Math.Seq.{take-suc}
use Rattle.mt_skel.specs.Keyed.{rises, among}
use Rattle.mt_peers.specs.Peers.{Peer, mount_of, in_group, has_master, members, slaves}
use Rattle.mt_skel.specs.Counted.{count, occ}
use Rattle.mt_peers.specs.Members.{group_at}
use Rattle.mt_peers.specs.Entered.{entered, entered_by, gets_above, collected_slave, other_at}
use Rattle.mt_skel.proofs.CountLaws.{count-same, count-le, count-length, length-filter, length-of-map}
use Rattle.mt_skel.proofs.WorklistLaws.{next-new}
use Rattle.mt_peers.specs.Masters.{master_of}
use Rattle.mt_peers.proofs.WorklistLaws.{count-zero, IsWorklist, led_by, worklist-next, worklist-all, next-led}
use Rattle.mt_peers.proofs.ReceivedLaws.{entered-rows, collected-rows, other-more, led-gets, led-all}

-- how many slaves a group has, and how many members
pub length-slaves : (es : List Peer) (m : ℕ) → length (slaves es m) ≡ count (has_master m) es
length-slaves es m = length-of-map mount_of (filter (has_master m) es) ∙ length-filter (has_master m) es

pub length-members : (es : List Peer) (g : ℕ) → length (members es g) ≡ count (in_group g) es
length-members es g = length-of-map mount_of (filter (in_group g) es) ∙ length-filter (in_group g) es

among-take : (n : ℕ) (xs : List ℕ) (h : ℕ) → among (take n xs) h ≡ true → among xs h ≡ true
among-take n xs h e = ap (λ l. among l h) (sym (take-append-drop n xs)) ∙ list_any-append (λ j. eqb j h) (take n xs) (drop n xs) ∙ ap (λ b. b || among (drop n xs) h) e

-- a list with i groups gone over is not longer than the mounts and one
pub visit-bound : (es : List Peer) (g i : ℕ) (all : List ℕ) → IsWorklist es g (take i all) all → length all ≤ suc (length es)
visit-bound es g i all w = let f = w.few in let l = count-length (led_by (take i all)) es in omega arith

module _ (es : List Peer) (g i d m : ℕ) (all more : List ℕ) (up : rises mount_of es ≡ true) (w : IsWorklist es g (take i all) all) (in_all : i < length all) (is : get_or all i d ≡ m)
    (grown : more ≡ all ++ filter_map (λ j. entered es g j (group_at es j)) (slaves es m)) where
  grown_by : more ≡ all ++ entered_by es g (get_or all i d)
  grown_by = grown ∙ ap (λ l. all ++ l) (entered-rows es g m up) ∙ ap (λ k. all ++ entered_by es g k) (sym is)

  pub visit-next : IsWorklist es g (take (i + 1) more) more
  visit-next = subst (λ l. IsWorklist es g (take (i + 1) l) l) (sym grown_by) (worklist-next es g i d all up w in_all)

  cut : take (i + 1) more ≡ take i all ++ m ∷ []
  cut = grind (arith, grown_by, take-append-le (suc i) all (entered_by es g (get_or all i d)) (omega arith), take-suc all i d in_all, is)

  new : occ m (take i all) ≡ 0
  new = ap (λ k. occ k (take i all)) (sym is) ∙ (next-new (master_of es) g i d all w.gathered in_all).0

  -- the targets
  pub visit-occ : (t : ℕ → Bool) (q : ℕ)
      → count (λ e. led_by (take (i + 1) more) e && other_at t g q e) es
      ≡ count (λ e. led_by (take i all) e && other_at t g q e) es + occ q (filter_map (λ j. collected_slave t g j (group_at es j)) (slaves es m))
  visit-occ t q =
      ap (λ l. count (λ e. led_by l e && other_at t g q e) es) cut
      ∙ other-more es (take i all) m (other_at t g q) new
      ∙ ap (λ n. count (λ e. led_by (take i all) e && other_at t g q e) es + n) (sym (collected-rows es t g m q up))

-- the looks
module _ (es : List Peer) (g i d m : ℕ) (all : List ℕ) (up : rises mount_of es ≡ true) (w : IsWorklist es g (take i all) all) (in_all : i < length all) (is : get_or all i d ≡ m) where
  led-now : count (led_by (take (i + 1) all)) es ≡ count (led_by (take i all)) es + length (slaves es m)
  led-now = next-led es g i d all up w in_all ∙ ap (λ k. count (led_by (take i all)) es + count (has_master k) es) is ∙ ap (λ n. count (led_by (take i all)) es + n) (sym (length-slaves es m))

  pub visit-room : count (led_by (take i all)) es + length (slaves es m) ≤ count (gets_above es g) es
  visit-room =
      let l = count-le (led_by (take (i + 1) all)) (gets_above es g) (λ e f. led-gets es g (take i all) (take (i + 1) all) all w (λ h r. among-take (i + 1) all h r) e f) es in
      let n = led-now in
      omega arith

  pub visit-led : (more : List ℕ) → more ≡ all ++ filter_map (λ j. entered es g j (group_at es j)) (slaves es m)
      → count (led_by (take (i + 1) more)) es ≡ count (led_by (take i all)) es + length (slaves es m)
  visit-led more grown =
      ap (λ l. count (led_by (take (i + 1) l)) es) grown
      ∙ ap (λ l. count (led_by l) es) (take-append-le (i + 1) all (filter_map (λ j. entered es g j (group_at es j)) (slaves es m)) (omega (arith, in_all)))
      ∙ led-now

-- at the end of the list
module _ (es : List Peer) (g i : ℕ) (all : List ℕ) (w : IsWorklist es g (take i all) all) (ended : length all ≤ i) where
  whole : IsWorklist es g all all
  whole = worklist-all es g i all w ended

  pub visited-led : count (led_by (take i all)) es ≡ count (gets_above es g) es
  visited-led = ap (λ l. count (led_by l) es) (take_all i all ended) ∙ count-same (led_by all) (gets_above es g) (led-all es g all whole) es

  pub visited-occ : (t : ℕ → Bool) (q : ℕ) → count (λ e. led_by (take i all) e && other_at t g q e) es ≡ count (λ e. gets_above es g e && other_at t g q e) es
  visited-occ t q =
      ap (λ l. count (λ e. led_by l e && other_at t g q e) es) (take_all i all ended)
      ∙ count-same (λ e. led_by all e && other_at t g q e) (λ e. gets_above es g e && other_at t g q e) (λ e. ap (λ b. b && other_at t g q e) (led-all es g all whole e)) es

-- at the start no slave was gone over
pub start-led : (es : List Peer) (n : ℕ) → n ≡ n + count (led_by []) es
start-led es n = let z = count-zero (led_by []) es (λ e at. grind arith) in omega (arith, z)

pub start-occ : (es : List Peer) (s : Peer → Bool) (n : ℕ) → n ≡ n + count (λ e. led_by [] e && s e) es
start-occ es s n = let z = count-zero (λ e. led_by [] e && s e) es (λ e at. grind arith) in omega (arith, z)
