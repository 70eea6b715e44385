-- Where mounts stand, along the ways up from them.
use Rattle.std.proofs.Common.{◌≡◌, ℕ, zero, suc, ◌-◌, ◌+◌, ◌<◌, ◌&&◌, Bool, true, false, cond, nat_eq, List, [], ◌∷◌, ◌++◌, reverse, length, Option, Some, None, refl, sym, ap, subst, ◌∙◌, arith, append-nil, append_assoc}
use Rattle.std.specs.Prelude.{IfSome}
use Rattle.std.specs.List.{flat_map, list_all}
use Rattle.std.specs.Option.{is_none, option_map, option_map_or, option_and_then}
use Rattle.std.specs.declared.hash.FoldHasher.{FoldHasher}
use Rattle.std.specs.declared.hash.BuildHasherDefault.{BuildHasherDefault}
use Rattle.std.proofs.lemmas.Bool.Decides.{nat_tests}
use Rattle.std.proofs.lemmas.Grind.{flat_map-append}
use Rattle.std.proofs.lemmas.List.{reverse-append}
use Rattle.std.proofs.lemmas.Option.{same_Some}
use Rattle.std.proofs.lemmas.List.Folds.{list_all-append}
use Rattle.mt_skel.proofs.MiddleLaws.{and-true, and_first, and_second}
use Rattle.indexmap.specs.IndexMap.{IndexMap, get}
use Rattle.mt_skel.specs.Chain.{chain, ends}
use Rattle.mt_skel.proofs.ChainLaws.{chain-step, chain-last}
use Rattle.mt_skel.specs.Skeleton.{is_directory}
use Rattle.mt_mounts.specs.declared.mount.Mount.{Mount}
use Rattle.mt_mounts.specs.declared.mount.Place.{Place}
use Rattle.mt_mounts.specs.Forest.{mount_at, parent}
use Rattle.mt_mounts.proofs.KeptLaws.{mount_fits}
use Rattle.mt_mounts.proofs.Walks.{fuel_step}
use Rattle.mt_propagate.specs.World.{WorldView}
use Rattle.mt_propagate.specs.WellFormed.{IsWellFormed}
use Rattle.mt_propagate.proofs.TreeLaws.{parent-from, parent-is}
use Rattle.mt_info.specs.declared.points.Step.{Step}
use Rattle.mt_info.specs.Table.{own_names, mount_point}
use Rattle.mt_info.specs.Steps.{is_step, step_names}
use Rattle.mt_info.specs.Points.{ArePoints}
use Rattle.mt_info.proofs.TableLaws.{own_names_at, own_names_root, place_there}

-- what is true of all is true of one more, and in the other order
more_pass : {X : Type 0} (t : X → Bool) (xs more : List X) (x : X) → more ≡ xs ++ x ∷ [] → list_all t xs ≡ true → t x ≡ true → list_all t more ≡ true
more_pass t xs more x longer all one =
    ap (list_all t) longer ∙ list_all-append t xs (x ∷ []) ∙ and-true (list_all t xs) (t x && true) all (and-true (t x) true one refl)

pub reversed_pass : {X : Type 0} (t : X → Bool) (xs : List X) → list_all t xs ≡ true → list_all t (reverse xs) ≡ true
reversed_pass t [] all = refl
reversed_pass t (x ∷ xs) all =
    more_pass t (reverse xs) (reverse (x ∷ xs)) x (reverse-append (x ∷ []) xs) (reversed_pass t xs (and_second (t x) _ all)) (and_first (t x) _ all)

-- what is true where a way ends, and of each number from which a step leads to one of which it is true, is true where the way begins
pub from_end : (next : ℕ → Option ℕ) (P : ℕ → Type 0) → ((x : ℕ) → next x ≡ None → P x) → ((x y : ℕ) → next x ≡ Some y → P y → P x) → (n x : ℕ) → ends next n x ≡ true → P x
from_end next P last step zero x e = go (next x) refl e
  where
    go : (o : Option ℕ) → next x ≡ o → is_none o ≡ true → P x
    go None at e = last x at
    go (Some y) at e = absurd (cc)
from_end next P last step (suc n) x e = go (next x) refl e (λ y. from_end next P last step n y)
  where
    go : (o : Option ℕ) → next x ≡ o → option_map_or (λ y. ends next n y) o true ≡ true → ((y : ℕ) → ends next n y ≡ true → P y) → P x
    go None at e ih = last x at
    go (Some y) at e ih = step x y at (ih y e)

module _ (w : WorldView) where
  -- where a mount stands: the names that it adds, after the point of its parent if it has one
  pub below_parent : (i p : ℕ) → IsWellFormed w → parent w.forest i ≡ Some p → mount_point w i ≡ mount_point w p ++ own_names w i
  below_parent i p h e =
      let above = chain (parent w.forest) (length w.forest) p in
      ap (λ l. flat_map (own_names w) (reverse l)) (chain-step (parent w.forest) (length w.forest) i p e (h.forest.no_cycle i))
      ∙ ap (flat_map (own_names w)) (reverse-append (i ∷ []) above) ∙ flat_map-append (own_names w) (reverse above) (i ∷ [])
      ∙ ap (λ t. flat_map (own_names w) (reverse above) ++ t) (append-nil (own_names w i))

  pub below_none : (i : ℕ) → parent w.forest i ≡ None → mount_point w i ≡ own_names w i
  below_none i e = ap (λ l. flat_map (own_names w) (reverse l)) (chain-last (parent w.forest) (length w.forest) i e) ∙ append-nil (own_names w i)

  pub parent_at : (i : ℕ) (m : Mount) → mount_at w.forest i ≡ Some m → parent w.forest i ≡ option_map (λ (p : Place). p.mount) m.place
  parent_at i m e = ap (λ o. option_and_then (λ (m : Mount). option_map (λ (p : Place). p.mount) m.place) o) e

  -- a parent is there, and of the same namespace
  pub parent_there : IsWellFormed w → (i j : ℕ) (m : Mount) → mount_at w.forest i ≡ Some m → parent w.forest i ≡ Some j → (q : Mount) × (mount_at w.forest j ≡ Some q) × (q.space ≡ m.space)
  parent_there h i j m e up =
      let r = parent-from w.forest i j up in
      let q = h.forest.placed i r.0 r.1 r.2 r.3 in
      (q.0, ap (mount_at w.forest) (sym r.4) ∙ q.1, q.2 ∙ ap (λ (x : Mount). x.space) (same_Some r.0 m (sym r.2 ∙ e)))

  -- the point of a root mount has no names
  pub point_of_root : (i : ℕ) (m : Mount) → mount_at w.forest i ≡ Some m → m.place ≡ None → mount_point w i ≡ []
  point_of_root i m e at = below_none i (parent_at i m e ∙ ap (option_map (λ (p : Place). p.mount)) at) ∙ own_names_root w i m e at

  -- and so has that of a mount after so many steps that there can be no more
  pub point_of_last : (i : ℕ) (m : Mount) → mount_at w.forest i ≡ Some m → ends (parent w.forest) 0 i ≡ true → mount_point w i ≡ []
  point_of_last i m e last = point_of_root i m e (nowhere m.place (ap is_none (sym (parent_at i m e)) ∙ last))
    where
      nowhere : (o : Option Place) → is_none (option_map (λ (p : Place). p.mount) o) ≡ true → o ≡ None
      nowhere None f = refl
      nowhere (Some p) f = absurd (cc)

  -- steps lead from the root of a mount that is there down to where another one stands, and their directories are there
  pub record LeadsDown (start : ℕ) (here : Mount) (way : List Step) : Type 0 where
    pub point : mount_point w start ≡ mount_point w here.id ++ flat_map (step_names w.skel) (reverse way)
    pub steps : list_all (is_step w.skel) way ≡ true
    pub there : mount_at w.forest here.id ≡ Some here

  -- with one more step they lead down from the parent
  pub step_up : (start : ℕ) (m q : Mount) (p : Place) (way more : List Step) → IsWellFormed w → LeadsDown start m way → m.place ≡ Some p → mount_at w.forest p.mount ≡ Some q
      → more ≡ way ++ record { parent = q.id; root = q.root; dir = p.dir } ∷ [] → LeadsDown start q more
  step_up start m q p way more h led at up longer =
      let step : Step = record { parent = q.id; root = q.root; dir = p.dir } in
      let same = mount_fits w.forest p.mount q up in
      let there : is_directory w.skel q.root ≡ true = (let below : q.root < length w.skel.directories = (h.below p.mount q up).4 in grind (arith, nat_tests)) in
      record {
        point =
            led.point ∙ ap (λ t. t ++ flat_map (step_names w.skel) (reverse way)) (below_parent m.id p.mount h (parent-is w.forest m.id m p led.there at))
            ∙ append_assoc (mount_point w p.mount) (own_names w m.id) (flat_map (step_names w.skel) (reverse way))
            ∙ (λ k. mount_point w (sym same k) ++ (own_names_at w m.id m q p led.there at up k ++ flat_map (step_names w.skel) (reverse way)))
            ∙ ap (λ t. mount_point w q.id ++ flat_map (step_names w.skel) t) (sym (ap reverse longer ∙ reverse-append way (step ∷ [])));
        steps = more_pass (is_step w.skel) way more step longer led.steps (and-true (is_directory w.skel q.root) (is_directory w.skel p.dir) there (place_there w m.id m p h led.there at));
        there = ap (mount_at w.forest) same ∙ up;
      }

  -- and the end of the way up is nearer
  pub ends_nearer : (n k : ℕ) (m q : Mount) (p : Place) → k < n → mount_at w.forest m.id ≡ Some m → m.place ≡ Some p → mount_at w.forest p.mount ≡ Some q → ends (parent w.forest) (n - k) m.id ≡ true
      → ends (parent w.forest) (n - (k + 1)) q.id ≡ true
  ends_nearer n k m q p within e at up all =
      ap (ends (parent w.forest) (n - (k + 1))) (mount_fits w.forest p.mount q up)
      ∙ ap (λ o. option_map_or (λ y. ends (parent w.forest) (n - (k + 1)) y) o true) (sym (parent-is w.forest m.id m p e at))
      ∙ ap (λ f. ends (parent w.forest) f m.id) (sym (fuel_step n k within)) ∙ all

  -- what is kept of a mount is its point
  abbrev pub IsPoint : ℕ → Option (List (List ℕ)) → Type 0
  IsPoint i o = IfSome o (λ point. point ≡ mount_point w i)

  -- one point more
  pub known_more : (m n : IndexMap ℕ (List (List ℕ)) (BuildHasherDefault FoldHasher)) (k : ℕ) (point : List (List ℕ)) → ArePoints w m → point ≡ mount_point w k
      → ((i : ℕ) → get nat_eq n i ≡ cond (nat_eq k i) (Some point) (get nat_eq m i)) → ArePoints w n
  known_more m n k point all e put i = subst (IsPoint i) (sym (put i)) (by (nat_eq k i) refl)
    where
      by : (t : Bool) → nat_eq k i ≡ t → IsPoint i (cond t (Some point) (get nat_eq m i))
      by true is = let same : k ≡ i = grind (arith, nat_tests) in e ∙ ap (mount_point w) same
      by false is = all i
