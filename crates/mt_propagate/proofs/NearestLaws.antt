-- What is found above groups on the way up to the nearest one at which copies stand.
use Rattle.std.proofs.Common.{◌≡◌, ℕ, ◌<◌, ◌≤◌, Bool, true, false, cond, nat_eq, List, length, Option, Some, None, refl, sym, ap, subst, ◌∙◌, arith}
use Rattle.std.specs.Prelude.{IfSome}
use Rattle.std.specs.List.{find}
use Rattle.std.specs.Option.{unwrap_or}
use Rattle.std.proofs.lemmas.Bool.Decides.{nat_tests}
use Rattle.indexmap.specs.IndexMap.{get}
use Rattle.mt_lists.specs.Tables.{Index}
use Rattle.mt_peers.specs.Peers.{Peer}
use Rattle.mt_peers.specs.Masters.{master_of, groups_up}
use Rattle.mt_peers.specs.Ways.{IsAbove, if_passes}
use Rattle.mt_peers.proofs.WayLaws.{above-once, above-dead, first-near}
use Rattle.mt_propagate.specs.declared.nearest.Above.{Above}
use Rattle.mt_propagate.specs.Nearest.{known_above, IsFoundAbove, IsFound, IsNearest}

module _ (p : ℕ → Bool) (es : List Peer) where
  -- what is known is so
  pub known-found : (found : Index Above) (g : ℕ) → IsFound p es found → p g ≡ false → IsFoundAbove p es g (known_above es found g)
  known-found found g f off = go (get nat_eq found g) (f g off)
    where
      go : (o : Option Above) → IfSome o (λ x. IsFoundAbove p es g x) → IsFoundAbove p es g (unwrap_or o (record { up = master_of es g; steps = 1 }))
      go None i = record { above = above-once p (master_of es) g off; low = omega arith; high = omega arith }
      go (Some x) i = i

  -- and so is what is known above a group that was passed
  pub known-passed : (found : Index Above) (here r : ℕ) (v : Option ℕ) (x : Above) → IsFound p es found → IsAbove p (master_of es) (Some here) v r → 0 < r → x ≡ known_above es found here → IsFoundAbove p es here x
  known-passed found here r v x f a l e = subst (λ y. IsFoundAbove p es here y) (sym e) (known-found found here f (above-dead p (master_of es) here r v a l))

  -- one more is found
  pub found-more : (m n : Index Above) (g : ℕ) (x : Above) → IsFound p es m → IsFoundAbove p es g x → ((k : ℕ) → get nat_eq n k ≡ cond (nat_eq g k) (Some x) (get nat_eq m k)) → IsFound p es n
  found-more m n g x f a put k off = subst (λ o. IfSome o (λ y. IsFoundAbove p es k y)) (sym (put k)) (by (nat_eq g k) refl)
    where
      by : (b : Bool) → nat_eq g k ≡ b → IfSome (cond b (Some x) (get nat_eq m k)) (λ y. IsFoundAbove p es k y)
      by true is = let same : g ≡ k = grind (arith, nat_tests) in subst (λ k. IsFoundAbove p es k x) same a
      by false is = f k off

  pub nearest-near : (g : ℕ) (x : Above) → IsNearest p es g x → x.steps ≤ length es → x.up ≡ find p (groups_up es g)
  nearest-near g x n l =
      go x.up (n.ended l)
      ∙ first-near p (master_of es) (length es) g x.steps x.up n.above l (λ h e off. absurd (let i = rw e at n.ended l in let f : true ≡ false = sym i ∙ off in cc))
    where
      go : (u : Option ℕ) → IfSome u (λ u. p u ≡ true) → u ≡ if_passes p u
      go None i = refl
      go (Some u) i = ap (λ b. cond b (Some u) None) (sym i)
