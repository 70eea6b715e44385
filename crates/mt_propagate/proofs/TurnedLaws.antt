-- A mount that is below no group that is seen otherwise, in a namespace of both worlds, tells the same group above its master in both.
use Rattle.std.proofs.Common.{◌≡◌, ◌⊎◌, ℕ, Bool, true, false, cond, ◌&&◌, ◌||◌, ◌==◌, eqb-true, eq-eqb, List, [], ◌∷◌, map, Option, Some, None, refl, sym, ap, subst, ◌∙◌, inl, inr, arith}
use Rattle.std.specs.Prelude.{nat_eq, unwrap_or}
use Rattle.std.specs.List.{find, flat_map, cons_option, list_any}
use Rattle.std.specs.Option.{option_eq, option_map, option_map_or, option_and_then, is_none, is_some}
use Rattle.std.proofs.lemmas.Bool.Decides.{nat_tests}
use Rattle.mt_skel.specs.Keyed.{among}
use Rattle.mt_skel.proofs.ElementLaws.{In, in_any, in_flatted, in_found, in_mapped, row_in}
use Rattle.mt_skel.proofs.MiddleLaws.{and_first, and_second, and-true}
use Rattle.mt_mounts.specs.declared.mount.Mount.{Mount}
use Rattle.mt_mounts.specs.Forest.{id_of, mount_at, is_root}
use Rattle.mt_peers.specs.declared.state.State.{State}
use Rattle.mt_peers.specs.Peers.{Peer, names, in_group, state_at, slaves}
use Rattle.mt_peers.specs.Masters.{master_of, reaches}
use Rattle.mt_peers.specs.Members.{master_at}
use Rattle.mt_peers.proofs.MemberLaws.{find_row, master_of-from, master_of-is, named}
use Rattle.mt_peers.proofs.ReachLaws.{reaches-self, reaches-step}
use Rattle.mt_propagate.specs.World.{WorldView, private, state_of, group_of, space_of, is_space}
use Rattle.mt_propagate.specs.WellFormed.{IsWellFormed}
use Rattle.mt_propagate.specs.FromGroup.{from_group, is_seen}
use Rattle.mt_propagate.specs.Touched.{AreNoted, IsTouched}
use Rattle.mt_propagate.specs.Turned.{IsSteady, IsQuiet, IsLedAlike, is_alike, is_below_group, groups_of_changed, lasts, lasting_group, groups_lasting}
use Rattle.mt_propagate.proofs.OutsideTagLaws.{same-bool, no-tag, tag_of, member-seen}
use Rattle.mt_propagate.proofs.JoinLaws.{state_in}
use Rattle.mt_propagate.proofs.UpwardLaws.{find-chain}
use Rattle.mt_propagate.proofs.BelowGroupLaws.{in-among, among-in, slave-in}
use Rattle.mt_propagate.proofs.ShownLaws.{grouped-state, state-mount}
use Rattle.mt_propagate.proofs.CopyRowLaws.{space_is}

same-number : (a b : Option ℕ) → option_eq nat_eq a b ≡ true → a ≡ b
same-number None None e = refl
same-number None (Some y) e = absurd (cc)
same-number (Some x) None e = absurd (cc)
same-number (Some x) (Some y) e = ap Some (eqb-true x y e)

-- a mount has the same group, master and namespace
record IsAlike (v w : WorldView) (i : ℕ) : Type 0 where
  group : group_of v i ≡ group_of w i
  master : (state_of v i).master ≡ (state_of w i).master
  space : space_of v i ≡ space_of w i

alike-from : (v w : WorldView) (i : ℕ) → is_alike v w i ≡ true → IsAlike v w i
alike-from v w i e =
    let group = option_eq nat_eq (group_of v i) (group_of w i) in
    let master = option_eq nat_eq (state_of v i).master (state_of w i).master in
    let front = and_first (group && master) _ e in
    record {
      group = same-number (group_of v i) (group_of w i) (and_first group master front);
      master = same-number (state_of v i).master (state_of w i).master (and_second group master front);
      space = eqb-true (space_of v i) (space_of w i) (and_second (group && master) _ e);
    }

turned-round : (v w : WorldView) (i : ℕ) → IsAlike v w i → IsAlike w v i
turned-round v w i a = record { group = sym a.group; master = sym a.master; space = sym a.space }

row-group : (w : WorldView) (i : ℕ) (s : State) (g : ℕ) → state_at w.peering.peers i ≡ Some s → names s.group g ≡ true → group_of w i ≡ Some g
row-group w i s g e n = ap (λ (o : Option State). (unwrap_or o private).group) e ∙ named s.group g n

-- a group is seen in a namespace in the other world, too, if its members there are alike
seen-stays : (v w : WorldView) → IsWellFormed v → (x n : ℕ) → ((i : ℕ) → group_of v i ≡ Some x → space_of v i ≡ n → IsAlike v w i) → is_seen v n x ≡ true → is_seen w n x ≡ true
seen-stays v w h x n alike e =
    let q = in_any (λ (p : Peer). names p.state.group x && (space_of v p.mount == n)) v.peering.peers e in
    let i = q.0.mount in
    let at : state_at v.peering.peers i ≡ Some q.0.state = state_in v.peering.peers h.peering.rising q.0 q.1 in
    let before = row-group v i q.0.state x at (and_first _ _ q.2) in
    let here : space_of v i ≡ n = eqb-true (space_of v i) n (and_second _ _ q.2) in
    let a = alike i before here in
    let s = grouped-state w i x (sym a.group ∙ before) in
    member-seen w n x i s.0 s.1 (ap (λ o. names o x) s.2 ∙ eq-eqb x x refl) (sym a.space ∙ here)

-- a group whose members are alike in both worlds is steady
module _ (v w : WorldView) (h : IsWellFormed v) (k : IsWellFormed w) (x : ℕ) (alike : (i : ℕ) → group_of v i ≡ Some x → IsAlike v w i) where
  master-stays : (e : Peer) → find (in_group x) v.peering.peers ≡ Some e → master_of w.peering.peers x ≡ e.state.master
  master-stays e f =
      let r = find_row x v.peering.peers e h.peering.rising f in
      let i = e.mount in
      let at : state_at v.peering.peers i ≡ Some e.state = ap (option_map (λ (p : Peer). p.state)) r.0 in
      let before = row-group v i e.state x at r.1 in
      let a = alike i before in
      let s = grouped-state w i x (sym a.group ∙ before) in
      master_of-is w.peering.peers k.peering.rising k.peering.one_master i s.0 x s.1 s.2
      ∙ sym (ap (λ (o : Option State). (unwrap_or o private).master) s.1)
      ∙ sym a.master
      ∙ ap (λ (o : Option State). (unwrap_or o private).master) at

steady-alike : (v w : WorldView) → IsWellFormed v → IsWellFormed w → (x : ℕ) → ((i : ℕ) → (group_of v i ≡ Some x) ⊎ (group_of w i ≡ Some x) → IsAlike v w i) → IsSteady v w x
steady-alike v w h k x alike = record {
  master = go (find (in_group x) v.peering.peers) refl;
  seen = λ n. same-bool (is_seen v n x) (is_seen w n x) (seen-stays v w h x n (λ i g s. was i g)) (seen-stays w v k x n (λ i g s. is i g));
}
  where
    was : (i : ℕ) → group_of v i ≡ Some x → IsAlike v w i
    was i e = alike i (inl e)

    is : (i : ℕ) → group_of w i ≡ Some x → IsAlike w v i
    is i e = turned-round v w i (alike i (inr e))

    none : find (in_group x) v.peering.peers ≡ None → (o : Option Peer) → find (in_group x) w.peering.peers ≡ o → master_of v.peering.peers x ≡ option_and_then (λ (e : Peer). e.state.master) o
    none f None g = ap (option_and_then (λ (e : Peer). e.state.master)) f
    none f (Some e) g = ap (option_and_then (λ (e : Peer). e.state.master)) f ∙ (ap (option_and_then (λ (e : Peer). e.state.master)) (sym f) ∙ master-stays w v k h x is e g)

    go : (o : Option Peer) → find (in_group x) v.peering.peers ≡ o → master_of v.peering.peers x ≡ master_of w.peering.peers x
    go None f = none f (find (in_group x) w.peering.peers) refl
    go (Some e) f = ap (option_and_then (λ (e : Peer). e.state.master)) f ∙ sym (master-stays v w h k x was e f)

-- a namespace of a mount is there
is-there : (u : WorldView) (i : ℕ) (m : Mount) → IsWellFormed u → mount_at u.forest i ≡ Some m → is_space u m.space ≡ true
is-there u i m h e =
    let r = h.forest.rooted i m e in
    let root : Mount = r.1 in
    let on : (root.space == m.space) ≡ true = eq-eqb root.space m.space r.4 in
    let f = in_found (is_root m.space) u.forest root (row_in id_of r.0 u.forest root r.2) (and-true (is_none root.place) (root.space == m.space) (ap is_none r.3) on) in
    ap is_some f.1

-- the group of a mount in a namespace that lasts
in-lasting : (u v w : WorldView) (i x n : ℕ) → lasts v w n ≡ true → group_of u i ≡ Some x → space_of u i ≡ n → lasting_group u v w i ≡ Some x
in-lasting u v w i x n there e s =
    ap (option_and_then (λ (g : ℕ). cond (lasts v w (space_of u i)) (Some g) None)) e
    ∙ ap (λ (b : Bool). cond b (Some x) None) (ap (λ (k : ℕ). lasts v w k) s ∙ there)

-- one group is the first of two, or the second
in-first : (x : ℕ) (o : Option ℕ) (rest : List ℕ) → o ≡ Some x → In x (cons_option o rest)
in-first x o rest a = subst (λ p. In x (cons_option p rest)) (sym a) (inl refl)

in-second : (x : ℕ) (o p : Option ℕ) → p ≡ Some x → In x (cons_option o (cons_option p []))
in-second x None p b = in-first x p [] b
in-second x (Some y) p b = inr (in-first x p [] b)

-- a test that fails, where another one holds if this one does
still-out : (a b : Bool) → (a ≡ true → b ≡ true) → b ≡ false → a ≡ false
still-out false b f e = refl
still-out true b f e = absurd (let x : true ≡ false = sym (f refl) ∙ e in cc)

-- one of two tests holds
or-left : (a b : Bool) → a ≡ true → (a || b) ≡ true
or-left true b e = refl
or-left false b e = absurd (cc)

or-right : (a b : Bool) → b ≡ true → (a || b) ≡ true
or-right true b e = refl
or-right false b e = e

-- a number is among others, by a test with its arguments the other way round
pub among-any : (xs : List ℕ) (x : ℕ) → among xs x ≡ list_any (nat_eq x) xs
among-any [] x = refl
among-any (k ∷ ks) x = grind (arith, nat_tests, among-any ks x)

-- the namespaces of mounts before and after are those of each
pub around-ids : (v w : WorldView) (ids : List ℕ) (i : ℕ) → among ids i ≡ true
    → ((among (map (space_of v) ids) (space_of v i) || among (map (space_of w) ids) (space_of v i)) ≡ true)
    × ((among (map (space_of v) ids) (space_of w i) || among (map (space_of w) ids) (space_of w i)) ≡ true)
around-ids v w ids i e = (
  or-left (among (map (space_of v) ids) (space_of v i)) _ (there v),
  or-right _ (among (map (space_of w) ids) (space_of w i)) (there w),
)
  where
    there : (u : WorldView) → among (map (space_of u) ids) (space_of u i) ≡ true
    there u = among-in (map (space_of u) ids) (space_of u i) (in_mapped (space_of u) i ids (in-among ids i e))

-- a mount is a member of a group in a namespace
abbrev IsMemberIn : WorldView → ℕ → ℕ → ℕ → Type 0
IsMemberIn u x n i = (group_of u i ≡ Some x) × (space_of u i ≡ n)

-- the groups of mounts that changed
module _ (v w : WorldView) (ids : List ℕ) (noted : AreNoted v w ids) where
  unchanged : (i : ℕ) → among ids i ≡ false → IsAlike v w i
  unchanged i out = record {
    group = ap (λ (o : Option State). (unwrap_or o private).group) (noted.states i out);
    master = ap (λ (o : Option State). (unwrap_or o private).master) (noted.states i out);
    space = ap (λ (o : Option Mount). unwrap_or (option_map (λ (m : Mount). m.space) o) 0) (noted.mounts i out);
  }

  of-changed : (i x : ℕ) → is_alike v w i ≡ false → (group_of v i ≡ Some x) ⊎ (group_of w i ≡ Some x) → In x (groups_of_changed v w i)
  of-changed i x off g = subst (λ b. In x (cond b [] (cons_option (group_of v i) (cons_option (group_of w i) [])))) (sym off) (elim g [ inl a ↦ first a | inr b ↦ second (group_of v i) b ])
    where
      first : group_of v i ≡ Some x → In x (cons_option (group_of v i) (cons_option (group_of w i) []))
      first a = subst (λ o. In x (cons_option o (cons_option (group_of w i) []))) (sym a) (inl refl)

      second : (o : Option ℕ) → group_of w i ≡ Some x → In x (cons_option o (cons_option (group_of w i) []))
      second None b = subst (λ p. In x (cons_option p [])) (sym b) (inl refl)
      second (Some y) b = inr (subst (λ p. In x (cons_option p [])) (sym b) (inl refl))

  alike-members : (x : ℕ) → among (flat_map (groups_of_changed v w) ids) x ≡ false → (i : ℕ) → (group_of v i ≡ Some x) ⊎ (group_of w i ≡ Some x) → IsAlike v w i
  alike-members x out i g = go (among ids i) refl (is_alike v w i) refl
    where
      go : (b : Bool) → among ids i ≡ b → (a : Bool) → is_alike v w i ≡ a → IsAlike v w i
      go b there true is = alike-from v w i is
      go false there false is = unchanged i there
      go true there false is =
          absurd (let found = among-in (flat_map (groups_of_changed v w) ids) x (in_flatted (groups_of_changed v w) x i ids (in-among ids i there) (of-changed i x is g)) in
          let v : true ≡ false = sym found ∙ out in cc)

  of-lasting : (i x n : ℕ) → lasts v w n ≡ true → is_alike v w i ≡ false → IsMemberIn v x n i ⊎ IsMemberIn w x n i → In x (groups_lasting v w i)
  of-lasting i x n there off g = subst (λ b. In x (cond b [] (cons_option (lasting_group v v w i) (cons_option (lasting_group w v w i) [])))) (sym off) (elim g [
    | inl a ↦ in-first x (lasting_group v v w i) (cons_option (lasting_group w v w i) []) (in-lasting v v w i x n there a.0 a.1)
    | inr b ↦ in-second x (lasting_group v v w i) (lasting_group w v w i) (in-lasting w v w i x n there b.0 b.1)
  ])

  -- the members of a group in a namespace that lasts
  alike-here : (x n : ℕ) → lasts v w n ≡ true → among (flat_map (groups_lasting v w) ids) x ≡ false → (i : ℕ) → IsMemberIn v x n i ⊎ IsMemberIn w x n i → IsAlike v w i
  alike-here x n there out i g = go (among ids i) refl (is_alike v w i) refl
    where
      go : (b : Bool) → among ids i ≡ b → (a : Bool) → is_alike v w i ≡ a → IsAlike v w i
      go b listed true is = alike-from v w i is
      go false listed false is = unchanged i listed
      go true listed false is =
          absurd (let found = among-in (flat_map (groups_lasting v w) ids) x (in_flatted (groups_lasting v w) x i ids (in-among ids i listed) (of-lasting i x n there is g)) in
          let bad : true ≡ false = sym found ∙ out in cc)

-- a slave is listed
slave-listed : (w : WorldView) (i m : ℕ) (s : State) → state_at w.peering.peers i ≡ Some s → s.master ≡ Some m → slaves w.peering.peers m ≡ [] → ⊥
slave-listed w i m s at is none = subst (In i) none (slave-in w.peering.peers i m (ap (option_and_then (λ (s : State). s.master)) at ∙ is))

-- what was noted, what is below the groups that are led otherwise, and what is below those that are seen otherwise in the namespaces of
-- what was noted, are all that was touched
module _ (v w : WorldView) (h : IsWellFormed v) (k : IsWellFormed w) (ids all led turned : List ℕ) (around : ℕ → Bool) (noted : AreNoted v w ids)
    (kept : (i : ℕ) → among ids i ≡ true → among all i ≡ true)
    (circled : (i : ℕ) → among ids i ≡ true → (around (space_of v i) ≡ true) × (around (space_of w i) ≡ true))
    (leads : (g : ℕ) → among (flat_map (groups_of_changed v w) ids) g ≡ true → among led g ≡ false → IsLedAlike v w g)
    (quiet : (g : ℕ) → among (flat_map (groups_lasting v w) ids) g ≡ true → among turned g ≡ false → IsQuiet v w g)
    (below_led : (g i : ℕ) → among led g ≡ true → is_below_group w.peering.peers g i ≡ true → among all i ≡ true)
    (below_turned : (g i : ℕ) → among turned g ≡ true → is_below_group w.peering.peers g i ≡ true → around (space_of w i) ≡ true → among all i ≡ true) where
  -- a group with slaves that is not led otherwise has the same master
  all-led : (g : ℕ) → among led g ≡ false → IsLedAlike v w g
  all-led g out = go (among (flat_map (groups_of_changed v w) ids) g) refl
    where
      go : (b : Bool) → among (flat_map (groups_of_changed v w) ids) g ≡ b → IsLedAlike v w g
      go true e = leads g e out
      go false e = λ some. (steady-alike v w h k g (alike-members v w ids noted g e)).master

  -- one that does not turn is seen in the same of the namespaces that last
  all-seen : (g n : ℕ) → lasts v w n ≡ true → among turned g ≡ false → (slaves w.peering.peers g ≡ [] → ⊥) → is_seen v n g ≡ is_seen w n g
  all-seen g n there out some = go (among (flat_map (groups_lasting v w) ids) g) refl
    where
      go : (b : Bool) → among (flat_map (groups_lasting v w) ids) g ≡ b → is_seen v n g ≡ is_seen w n g
      go true e = (quiet g e out some).seen n
      go false e =
          same-bool (is_seen v n g) (is_seen w n g)
          (seen-stays v w h g n (λ i a s. alike-here v w ids noted g n there e i (inl (a, s))))
          (seen-stays w v k g n (λ i a s. turned-round v w i (alike-here v w ids noted g n there e i (inr (a, s)))))

  -- in a namespace in which nothing was noted all groups are seen that were
  still-alike : (i n : ℕ) → (space_of v i ≡ n) ⊎ (space_of w i ≡ n) → around n ≡ false → IsAlike v w i
  still-alike i n s off = go (among ids i) refl
    where
      meets : (m : ℕ) → around m ≡ true → m ≡ n → ⊥
      meets m on e = let bad : true ≡ false = sym on ∙ ap around e ∙ off in cc

      go : (b : Bool) → among ids i ≡ b → IsAlike v w i
      go false e = unchanged v w ids noted i e
      go true e = absurd (let q = circled i e in elim s [ inl a ↦ meets (space_of v i) q.0 a | inr b ↦ meets (space_of w i) q.1 b ])

  still-seen : (n x : ℕ) → around n ≡ false → is_seen v n x ≡ is_seen w n x
  still-seen n x off =
      same-bool (is_seen v n x) (is_seen w n x)
      (seen-stays v w h x n (λ i g s. still-alike i n (inl s) off))
      (seen-stays w v k x n (λ i g s. turned-round v w i (still-alike i n (inr s) off)))

  -- a group with slaves that has none of those that are led otherwise above it, and none of those that turn if something was noted in the
  -- namespace n, and is none
  record IsApart (n x : ℕ) : Type 0 where
    followed : slaves w.peering.peers x ≡ [] → ⊥
    off_led : (z : ℕ) → among led z ≡ true → reaches w.peering.peers x z ≡ true → ⊥
    off_turned : around n ≡ true → (z : ℕ) → among turned z ≡ true → reaches w.peering.peers x z ≡ true → ⊥

  absent : (xs : List ℕ) (x : ℕ) → (among xs x ≡ true → ⊥) → among xs x ≡ false
  absent xs x none = go (among xs x) refl
    where
      go : (b : Bool) → among xs x ≡ b → among xs x ≡ false
      go true e = absurd (none e)
      go false e = e

  apart-master : (n x : ℕ) → IsApart n x → master_of v.peering.peers x ≡ master_of w.peering.peers x
  apart-master n x a = all-led x (absent led x (λ e. a.off_led x e (reaches-self w.peering.peers x))) a.followed

  apart-seen : (n x : ℕ) → lasts v w n ≡ true → IsApart n x → is_seen v n x ≡ is_seen w n x
  apart-seen n x there a = go (around n) refl
    where
      go : (b : Bool) → around n ≡ b → is_seen v n x ≡ is_seen w n x
      go false e = still-seen n x e
      go true e = all-seen x n there (absent turned x (λ t. a.off_turned e x t (reaches-self w.peering.peers x))) a.followed

  apart-up : (n x y : ℕ) → IsApart n x → master_of w.peering.peers x ≡ Some y → IsApart n y
  apart-up n x y a up =
      let m = master_of-from w.peering.peers x y k.peering.rising up in
      record {
        followed = slave-listed w m.0 y m.1 m.2 m.4;
        off_led = λ z e r. a.off_led z e (reaches-step w.peering.peers x y z up (k.peering.no_cycle x) r);
        off_turned = λ on z e r. a.off_turned on z e (reaches-step w.peering.peers x y z up (k.peering.no_cycle x) r);
      }

  off : (i : ℕ) → among all i ≡ false → among ids i ≡ false
  off i out = still-out (among ids i) (among all i) (kept i) out

  tag-stays : (i : ℕ) → among all i ≡ false → from_group v i ≡ from_group w i
  tag-stays i out = go (state_at w.peering.peers i) refl
    where
      same : IsAlike v w i
      same = unchanged v w ids noted i (off i out)

      not_all : among all i ≡ true → ⊥
      not_all e = let bad : true ≡ false = sym e ∙ out in cc

      some : (s : State) → state_at w.peering.peers i ≡ Some s → (o : Option ℕ) → s.master ≡ o → from_group v i ≡ from_group w i
      some s at None is =
          let none : (state_of w i).master ≡ None = ap (λ (o : Option State). (unwrap_or o private).master) at ∙ is in
          no-tag v i (same.master ∙ none) ∙ sym (no-tag w i none)
      some s at (Some m) is =
          let n = space_of w i in
          let up : (state_of w i).master ≡ Some m = ap (λ (o : Option State). (unwrap_or o private).master) at ∙ is in
          let led_at : master_at w.peering.peers i ≡ Some m = ap (option_and_then (λ (s : State). s.master)) at ∙ is in
          let beneath : (z : ℕ) → reaches w.peering.peers m z ≡ true → is_below_group w.peering.peers z i ≡ true = λ z r. ap (λ o. option_map_or (λ m. reaches w.peering.peers m z) o false) led_at ∙ r in
          let here : IsApart n m = record {
            followed = slave-listed w i m s at is;
            off_led = λ z e r. not_all (below_led z i e (beneath z r));
            off_turned = λ on z e r. not_all (below_turned z i e (beneath z r) on);
          } in
          let q = state-mount w.forest w.peering.peers i s k.same_mounts at in
          let was : mount_at v.forest i ≡ Some q.0 = noted.mounts i (off i out) ∙ q.1 in
          let there : lasts v w n ≡ true =
          ap (λ (m : ℕ). lasts v w m) (space_is w i q.0 q.1) ∙ and-true (is_space v q.0.space) (is_space w q.0.space) (is-there v i q.0 h was) (is-there w i q.0 k q.1) in
          let found =
          find-chain (master_of v.peering.peers) (master_of w.peering.peers) (is_seen v (space_of v i)) (is_seen w n) (IsApart n) _
          (λ x a. apart-master n x a) (λ x a. ap (λ (m : ℕ). is_seen v m x) same.space ∙ apart-seen n x there a)
          (apart-up n) k.peering.no_cycle _ m here (h.peering.no_cycle m) in
          ap (tag_of v i) (same.master ∙ up) ∙ ap (λ o. option_and_then (λ g. cond (g == m) None (Some g)) o) found ∙ sym (ap (tag_of w i) up)

      go : (o : Option State) → state_at w.peering.peers i ≡ o → from_group v i ≡ from_group w i
      go None e =
          let none : (state_of w i).master ≡ None = ap (λ (o : Option State). (unwrap_or o private).master) e in
          no-tag v i (same.master ∙ none) ∙ sym (no-tag w i none)
      go (Some s) e = some s e s.master refl

  pub turned-touched : IsTouched v w all
  turned-touched = record { mounts = λ i out. noted.mounts i (off i out); states = λ i out. noted.states i (off i out); tags = tag-stays }
