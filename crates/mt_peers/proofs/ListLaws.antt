-- A list of mounts is gone through from its first on, by what follows each.
use Rattle.std.proofs.Common.{◌≡◌, ℕ, suc, ◌≤◌, Bool, true, cond, eqb, eqb-true, List, [], ◌∷◌, ◌++◌, map, length, Option, Some, None, refl, sym, ap, ◌∙◌, arith, option_and_then}
use Rattle.std.specs.List.{filter, filter_map, cons_option}
use Rattle.std.proofs.lemmas.List.{append_assoc}
use Rattle.mt_skel.specs.Keyed.{rises, among}
use Rattle.mt_skel.proofs.ElementLaws.{in_any, in_filter, in_map}
use Rattle.mt_lists.specs.Lists.{above}
use Rattle.mt_lists.proofs.WalkLaws.{rest_from, rest-next}
use Rattle.mt_peers.specs.declared.state.State.{State}
use Rattle.mt_peers.specs.Peers.{Peer, mount_of, state_at, names, members, slaves}
use Rattle.mt_peers.specs.Members.{group_at, master_at, next_member, next_slave, member_after, slave_after}
use Rattle.mt_peers.proofs.MemberLaws.{named, state-in}

-- a mount of the list of those that have a number has it
picked-number : (number : State → Option ℕ) (es : List Peer) (g j : ℕ) → rises mount_of es ≡ true → among (map mount_of (filter (λ (e : Peer). names (number e.state) g) es)) j ≡ true → option_and_then number (state_at es j) ≡ Some g
picked-number number es g j up any =
    let has : Peer → Bool = λ e. names (number e.state) g in
    let k = in_any (λ k. eqb k j) (map mount_of (filter has es)) any in
    let e = in_map mount_of k.0 (filter has es) k.1 in
    let at = in_filter has e.0 es e.1 in
    ap (option_and_then number) (ap (state_at es) (sym (e.2 ∙ eqb-true k.0 j k.2)) ∙ state-in es e.0 up at.0) ∙ named (number e.0.state) g at.1

-- a mount of the list of members is in the group
pub member-group : (es : List Peer) (g j : ℕ) → rises mount_of es ≡ true → among (members es g) j ≡ true → group_at es j ≡ Some g
member-group es g j up at = picked-number (λ s. s.group) es g j up at

-- and one of the list of slaves has the master
pub slave-master : (es : List Peer) (m j : ℕ) → rises mount_of es ≡ true → among (slaves es m) j ≡ true → master_at es j ≡ Some m
slave-master es m j up at = picked-number (λ s. s.master) es m j up at

pub member-next : (es : List Peer) (g j : ℕ) → rises mount_of es ≡ true → among (members es g) j ≡ true → member_after es j ≡ above j (members es g)
member-next es g j up at = ap (option_and_then (λ g. next_member es g j)) (member-group es g j up at)

pub slave-next : (es : List Peer) (m j : ℕ) → rises mount_of es ≡ true → among (slaves es m) j ≡ true → slave_after es j ≡ above j (slaves es m)
slave-next es m j up at = ap (option_and_then (λ m. next_slave es m j)) (slave-master es m j up at)

-- what is left of a walk that is not at its end
pub walk-some : (xs : List ℕ) (j : ℕ) (here : Option ℕ) → rises (λ n. n) xs ≡ true → among xs j ≡ true → here ≡ Some j → 1 ≤ length (rest_from here xs)
walk-some xs j here up at is = rw (is, rest-next j xs up at) (omega arith)

-- one step of a walk along a list, which picks numbers into another
module _ (xs : List ℕ) (j : ℕ) (next : Option ℕ) (up : rises (λ n. n) xs ≡ true) (at : among xs j ≡ true) (is : next ≡ above j xs) where
  walk-cut : rest_from (Some j) xs ≡ j ∷ rest_from next xs
  walk-cut = rest-next j xs up at ∙ ap (λ o. j ∷ rest_from o xs) (sym is)

  pub walk-shorter : length (rest_from (Some j) xs) ≡ suc (length (rest_from next xs))
  walk-shorter = ap length walk-cut

  pub walk-picks : (f : ℕ → Option ℕ) (kept more all : List ℕ) → more ≡ kept ++ cons_option (f j) [] → kept ++ filter_map f (rest_from (Some j) xs) ≡ all → more ++ filter_map f (rest_from next xs) ≡ all
  walk-picks f kept more all e inv = grind (arith, walk-cut, append_assoc kept (cons_option (f j) []) (filter_map f (rest_from next xs)))

pub picked-filter : (t : ℕ → Bool) (xs : List ℕ) → filter_map (λ i. cond (t i) (Some i) None) xs ≡ filter t xs
picked-filter t [] = refl
picked-filter t (x ∷ xs) = grind (arith, picked-filter t xs)
