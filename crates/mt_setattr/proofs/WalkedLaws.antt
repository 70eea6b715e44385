-- A walk ends on a mount that is there.
use Rattle.std.proofs.Common.{◌≡◌, ℕ, zero, suc, Bool, true, List, [], ◌∷◌, length, Option, Some, None, Ok, Err, refl, sym, ap, subst, ◌∙◌, arith}
use Rattle.std.specs.Option.{option_map, option_map_or, option_and_then, ok_or}
use Rattle.std.specs.List.{find}
use Rattle.std.proofs.lemmas.Bool.Decides.{nat_tests}
use Rattle.mt_skel.specs.declared.fault.Fault.TheVariants.{NoEntry, NoNamespace}
use Rattle.mt_skel.specs.Keyed.{has}
use Rattle.mt_skel.specs.Skeleton.{Skeleton, child}
use Rattle.mt_mounts.specs.declared.mount.Mount.{Mount}
use Rattle.mt_mounts.specs.declared.mount.Place.{Place}
use Rattle.mt_mounts.specs.Forest.{id_of, on, is_at, is_root, root_mount, root_place, top}
use Rattle.mt_mounts.specs.Walk.{walk, walk_from}
use Rattle.mt_mounts.proofs.Walks.{top_within, top_stop, top_step}

-- a mount that is found is there
found-there : (t : Mount → Bool) (ms : List Mount) (m : Mount) → find t ms ≡ Some m → has id_of m.id ms ≡ true
found-there t [] m e = absurd (cc)
found-there t (x ∷ ms) m e = let ih = found-there t ms m in grind (arith, nat_tests)

module _ (s : Skeleton) (ms : List Mount) where
  top-there : (fuel : ℕ) (p : Place) → has id_of p.mount ms ≡ true → has id_of (top_within ms fuel p).mount ms ≡ true
  top-there zero p there = there
  top-there (suc k) p there = by (on ms p) refl (λ q. top-there k q)
    where
      by : (o : Option Mount) → on ms p ≡ o → ((q : Place) → has id_of q.mount ms ≡ true → has id_of (top_within ms k q).mount ms ≡ true) → has id_of (top_within ms (suc k) p).mount ms ≡ true
      by None e ih = subst (λ (q : Place). has id_of q.mount ms ≡ true) (sym (top_stop ms (suc k) p (ap (option_map root_place) e))) there
      by (Some x) e ih = subst (λ (q : Place). has id_of q.mount ms ≡ true) (sym (top_step ms k p (root_place x) (ap (option_map root_place) e))) (ih (root_place x) (found-there (is_at p) ms x e))

  end-there : (path : List (List ℕ)) (p r : Place) → has id_of p.mount ms ≡ true → walk_from s ms p path ≡ Some r → has id_of r.mount ms ≡ true
  end-there [] p r there e = let same : p ≡ r = cc in subst (λ (q : Place). has id_of q.mount ms ≡ true) same there
  end-there (c ∷ cs) p r there e = by (child s p.dir c) e (λ q. end-there cs q r)
    where
      by : (o : Option ℕ) → option_and_then (λ d. walk_from s ms (top ms (record { mount = p.mount; dir = d })) cs) o ≡ Some r
          → ((q : Place) → has id_of q.mount ms ≡ true → walk_from s ms q cs ≡ Some r → has id_of r.mount ms ≡ true) → has id_of r.mount ms ≡ true
      by None e ih = absurd (cc)
      by (Some d) e ih = let here : Place = record { mount = p.mount; dir = d } in ih (top ms here) (top-there (length ms) here there) e

  pub walked-there : (n : ℕ) (path : List (List ℕ)) (p : Place) → walk s ms n path ≡ Ok p → has id_of p.mount ms ≡ true
  walked-there n path p e = by (root_mount ms n) refl e
    where
      started : (m : Mount) → root_mount ms n ≡ Some m → (o : Option Place) → walk_from s ms (root_place m) path ≡ o → ok_or o NoEntry ≡ Ok p → has id_of p.mount ms ≡ true
      started m at None f e = absurd (cc)
      started m at (Some r) f e =
          let same : r ≡ p = cc in
          end-there path (root_place m) p (found-there (is_root n) ms m at) (f ∙ ap (λ x. Some x) same)

      by : (o : Option Mount) → root_mount ms n ≡ o → option_map_or (λ m. ok_or (walk_from s ms (root_place m) path) NoEntry) o (Err NoNamespace) ≡ Ok p → has id_of p.mount ms ≡ true
      by None at e = absurd (cc)
      by (Some m) at e = started m at (walk_from s ms (root_place m) path) refl e
