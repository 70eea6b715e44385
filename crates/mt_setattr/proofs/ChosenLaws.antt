-- The mounts that a change is for, as a list of their IDs.
use Rattle.std.proofs.Common.{◌≡◌, ℕ, zero, suc, Bool, true, false, ◌||◌, ◌&&◌, cond, eqb, eqb-true, List, [], ◌∷◌, map, length, Option, Some, None, refl, sym, ap, ap₂, ◌∙◌, arith}
use Rattle.std.specs.List.{list_any, filter}
use Rattle.std.specs.Option.{is_some, option_map, option_map_or, option_and_then}
use Rattle.std.proofs.lemmas.Bool.Decides.{nat_tests}
use Rattle.std.proofs.lemmas.Bool.{and_right}
use Rattle.mt_skel.specs.Keyed.{has, among}
use Rattle.mt_skel.specs.Chain.{chain}
use Rattle.mt_mounts.specs.declared.mount.Mount.{Mount}
use Rattle.mt_mounts.specs.declared.mount.Place.{Place}
use Rattle.mt_mounts.specs.Forest.{id_of, mount_at, parent, subtree, is_below}
use Rattle.mt_mounts.proofs.Walks.{below_stop}
use Rattle.mt_peers.specs.Making.{made}
use Rattle.mt_propagate.specs.World.{WorldView}
use Rattle.mt_setattr.specs.declared.change.Change.{Change}
use Rattle.mt_setattr.specs.Change.{changed_mount, is_chosen, with_change}
use Rattle.mt_setattr.proofs.SettingLaws.{same_tests}

among-filter : (p : ℕ → Bool) (ids : List ℕ) (j : ℕ) → among (filter p ids) j ≡ (among ids j && p j)
among-filter p [] j = refl
among-filter p (i ∷ ids) j = go (eqb i j) refl (p i) refl (among-filter p ids j)
  where
    go : (b : Bool) → eqb i j ≡ b → (d : Bool) → p i ≡ d → among (filter p ids) j ≡ (among ids j && p j) → among (cond d (i ∷ filter p ids) (filter p ids)) j ≡ ((b || among ids j) && p j)
    go true same true f ih = ap (λ b. b || among (filter p ids) j) same ∙ sym f ∙ ap p (eqb-true i j same)
    go true same false f ih = let q : p j ≡ false = ap p (sym (eqb-true i j same)) ∙ f in ih ∙ and_right (among ids j) (p j) q ∙ sym q
    go false off true f ih = ap (λ b. b || among (filter p ids) j) off ∙ ih
    go false off false f ih = ih

among-ids : (ms : List Mount) (j : ℕ) → among (map id_of ms) j ≡ has id_of j ms
among-ids [] j = refl
among-ids (m ∷ ms) j = let ih = among-ids ms j in grind (arith, nat_tests)

-- the subtree of a mount that is there has the mount and all below it
pub among-subtree : (ms : List Mount) (i : ℕ) → has id_of i ms ≡ true → (j : ℕ) → among (subtree ms i) j ≡ (eqb i j || is_below ms i j)
among-subtree ms i there j = among-filter (is_below ms i) (map id_of ms) j ∙ ap (λ b. b && is_below ms i j) (among-ids ms j) ∙ by (mount_at ms j) refl
  where
    -- each way up begins with the mount itself
    first : (n : ℕ) → list_any (λ k. eqb i k) (chain (parent ms) n j) ≡ (eqb i j || list_any (λ k. eqb i k) (chain (parent ms) n j))
    first zero = grind (arith, nat_tests)
    first (suc n) = grind (arith, nat_tests)

    by : (o : Option Mount) → mount_at ms j ≡ o → (is_some o && is_below ms i j) ≡ (eqb i j || is_below ms i j)
    by (Some m) e = first (length ms)
    by None e =
        let up : parent ms j ≡ None = ap (option_and_then (λ m. option_map (λ (p : Place). p.mount) m.place)) e in
        let off : eqb i j ≡ false = other (eqb i j) refl in
        sym (ap₂ (λ (a b : Bool). a || b) off (below_stop ms i (length ms) j up ∙ ap (λ b. b || false) off))
      where
        other : (b : Bool) → eqb i j ≡ b → eqb i j ≡ false
        other true same = absurd (let v : is_some (mount_at ms j) ≡ true = ap (λ k. has id_of k ms) (sym (eqb-true i j same)) ∙ there in let n : is_some (mount_at ms j) ≡ false = ap (λ (o : Option Mount). is_some o) e in cc)
        other false off = off

-- the change of a list of mounts that are the chosen ones
pub changed-from : (w : WorldView) (c : Change) (i : ℕ) (ids : List ℕ) → ((j : ℕ) → among ids j ≡ is_chosen w c i j)
    → ◌≡◌ {A = WorldView} (record w { forest = map (changed_mount c (among ids)) w.forest; peering = option_map_or (λ k. made k (among ids) w.peering) c.prop w.peering }) (with_change w c i)
unfolding with_change
changed-from w c i ids same = ap (λ (s : ℕ → Bool). record w { forest = map (changed_mount c s) w.forest; peering = option_map_or (λ k. made k s w.peering) c.prop w.peering }) (same_tests same)
