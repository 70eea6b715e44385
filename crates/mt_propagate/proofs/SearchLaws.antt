-- What is found of groups that were looked for stays what the world has.
use Rattle.std.proofs.Common.{◌≡◌, ℕ, Bool, true, false, cond, eqb-true, Option, Some, refl, sym, ap, subst, ◌∙◌}
use Rattle.std.specs.Prelude.{IfSome}
use Rattle.std.specs.declared.hash.FoldHasher.{FoldHasher}
use Rattle.std.specs.declared.hash.BuildHasherDefault.{BuildHasherDefault}
use Rattle.indexmap.specs.IndexMap.{IndexMap, get}
use Rattle.mt_skel.proofs.MiddleLaws.{and_first, and_second}
use Rattle.mt_propagate.specs.World.{WorldView}
use Rattle.mt_propagate.specs.FromGroup.{nearest_seen}
use Rattle.mt_propagate.specs.declared.seen_groups.Search.{Search}
use Rattle.mt_propagate.specs.Searches.{search_eq, AreNearest}

-- an answer is the one that the world has
abbrev IsNearest : WorldView → Search → Option (Option ℕ) → Type 0
IsNearest w s o = IfSome o (λ g. g ≡ nearest_seen w s.space s.group)

pub found-nearest : (w v : WorldView) (m : IndexMap Search (Option ℕ) (BuildHasherDefault FoldHasher)) (s : Search) (o : Option (Option ℕ)) → AreNearest w m → w ≡ v → get search_eq m s ≡ o → IsNearest v s o
found-nearest w v m s o a same e = subst (IsNearest v s) e (subst (λ u. IsNearest u s (get search_eq m s)) same (a s))

-- one more that the world has
pub nearest-kept : (w : WorldView) (m n : IndexMap Search (Option ℕ) (BuildHasherDefault FoldHasher)) (k : Search) (g : Option ℕ) → AreNearest w m → g ≡ nearest_seen w k.space k.group
    → ((q : Search) → get search_eq n q ≡ cond (search_eq k q) (Some g) (get search_eq m q)) → AreNearest w n
nearest-kept w m n k g a e put s = subst (IsNearest w s) (sym (put s)) (by (search_eq k s) refl)
  where
    by : (b : Bool) → search_eq k s ≡ b → IsNearest w s (cond b (Some g) (get search_eq m s))
    by true is =
        e ∙ ap (λ x. nearest_seen w x k.group) (eqb-true k.space s.space (and_first _ _ is)) ∙ ap (nearest_seen w s.space) (eqb-true k.group s.group (and_second _ _ is))
    by false is = a s
