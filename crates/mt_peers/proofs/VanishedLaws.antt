-- What is known above groups that lost their last members, as searches come by.
use Rattle.std.proofs.Common.{◌≡◌, ℕ, zero, suc, ◌+◌, ◌<◌, ◌≤◌, Bool, true, false, cond, nat_eq, List, [], ◌∷◌, drop, length, get_or, Option, Some, None, refl, sym, ap, ◌∙◌, arith, ◌⊎◌, inl, inr}
use Rattle.std.specs.Option.{option_or}
use Rattle.std.proofs.lemmas.Bool.Decides.{nat_tests}
use Rattle.std.proofs.lemmas.List.{drop_more}
use Rattle.indexmap.specs.IndexMap.{get}
use Rattle.mt_lists.specs.Tables.{Index}
use Rattle.mt_peers.specs.declared.entries.Entry.{Entry}
use Rattle.mt_peers.specs.declared.vanished.Above.{Above}
use Rattle.mt_peers.specs.Peers.{Peer, has_member, names}
use Rattle.mt_peers.specs.Masters.{master_of}
use Rattle.mt_peers.specs.Entries.{now_peers}
use Rattle.mt_peers.specs.Ways.{IsAbove}
use Rattle.mt_peers.specs.Vanished.{above_was, above_first, IsVanished, AreNear}

-- what is known above a group is of one that does not live
pub known-step : (b : Bool) (o : Option Above) (x : Above) → cond b None o ≡ Some x → (b ≡ false) × (o ≡ Some x)
known-step true o x e = absurd (cc)
known-step false o x e = (refl, e)

-- Groups are entered

or_joined : (o rest : Option Above) (b : Bool) (x : Above) → option_or (option_or o (cond b (Some x) None)) rest ≡ option_or o (cond b (Some x) rest)
or_joined o rest b x = grind arith

first-more : (g : ℕ) (e : Entry) (es : List Entry) → above_first g (e ∷ es) ≡ cond (names e.was.group g) (Some (record { up = e.was.master; steps = 1 })) (above_first g es)
first-more g e es = grind arith

-- a group of a mount has a member
pub has-at : (es : List Entry) (i : ℕ) (d : Entry) (g : ℕ) → i < length es → has_member (now_peers es) g ≡ false → names (get_or es i d).state.group g ≡ false
has-at [] i d g l off = absurd (omega arith)
has-at (e ∷ es) zero d g l off = grind arith
has-at (e ∷ es) (suc i) d g l off = has-at es i d g (omega arith) (grind arith)

pub enter-step : (es : List Entry) (i g : ℕ) (d : Entry) (o n : Option Above) → i < length es → option_or o (above_first g (drop i es)) ≡ above_first g es → n ≡ option_or o (above_was g (get_or es i d))
    → option_or n (above_first g (drop (i + 1) es)) ≡ above_first g es
enter-step es i g d o n l before adds =
    let rest : List Entry = drop (i + 1) es in
    let e = get_or es i d in
    ap (λ o. option_or o (above_first g rest)) adds
    ∙ or_joined o (above_first g rest) (names e.was.group g) (record { up = e.was.master; steps = 1 })
    ∙ ap (option_or o) (sym (first-more g e rest))
    ∙ ap (λ r. option_or o (above_first g r)) (sym (drop_more es i d l)) ∙ before

-- What was found is written

-- one entry is another
module _ (old new : List Peer) (before after : Index Above) (g : ℕ) (x : Above) (written : (k : ℕ) → get nat_eq after k ≡ cond (nat_eq g k) (Some x) (get nat_eq before k)) where
  at : (k : ℕ) (o y : Option Above) → cond (nat_eq g k) (Some x) o ≡ y → ((g ≡ k) × (Some x ≡ y)) ⊎ (o ≡ y)
  at k o y e = elim (nat_eq g k) as (λ b. nat_eq g k ≡ b → cond b (Some x) o ≡ y → ((g ≡ k) × (Some x ≡ y)) ⊎ (o ≡ y)) [
    | true ↦ λ is e. inl (grind (arith, nat_tests), e)
    | false ↦ λ is e. inr e
  ] refl e

  pub written-vanished : IsVanished old new before → IsAbove (has_member new) (master_of old) (Some g) x.up x.steps → IsVanished old new after
  written-vanished v a = record {
    known = λ k y off e. elim (at k (get nat_eq before k) (Some y) (sym (written k) ∙ e)) [
      | inl is ↦ let same : x ≡ y = (let s = is.1 in cc) in rw (← is.0, ← same) a
      | inr is ↦ v.known k y off is
    ];
    ended = λ k off e. elim (at k (get nat_eq before k) None (sym (written k) ∙ e)) [
      | inl is ↦ absurd (let s = is.1 in cc)
      | inr is ↦ v.ended k off is
    ];
  }

  pub written-near : (most : ℕ) → AreNear most before → 0 < x.steps → x.steps ≤ most → AreNear most after
  written-near most near low high k y e =
      let old = near k y in
      (grind (arith, written k, old), grind (arith, written k, old))
