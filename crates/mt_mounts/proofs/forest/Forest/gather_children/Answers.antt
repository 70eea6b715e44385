use Rattle.std.proofs.Common.{◌≡◌, ◌≢◌, ℕ, ◌+◌, ◌<◌, ◌==◌, Bool, true, false, not, cond, eq-eqb, List, [], ◌∷◌, ◌++◌, length, get_or, drop, refl, sym, ap, ◌∙◌, append_assoc}
use Rattle.std.specs.List.{filter}
use Rattle.std.proofs.lemmas.Bool.{ne_eqb}
use Rattle.std.proofs.lemmas.List.{at_drop_more}
use Rattle.mt_mounts.proofs.forest.Forest.gather_children.Goals as goal
use Rattle.mt_mounts.proofs.forest.Forest.gather_children.Goals.{then-child-start+in_ok-push, else-child-start}

-- the children that are gathered, with the next one or without it
module _ (start : ℕ) (children : List ℕ) (i : ℕ) (old all : List ℕ) (within : i < length children) (so_far : old ++ filter (λ child. not (child == start)) (drop i children) ≡ all) where
  abbrev rest : List ℕ
  rest = filter (λ child. not (child == start)) (drop (i + 1) children)

  split : (b : Bool) → not (get_or children i 0 == start) ≡ b → old ++ cond b (get_or children i 0 ∷ rest) rest ≡ all
  split b e =
      ap (λ t. old ++ t) (sym (at_drop_more (filter (λ child. not (child == start))) children i 0 within ∙ ap (λ t. cond t (get_or children i 0 ∷ rest) rest) e)) ∙ so_far

  taken : (new : List ℕ) → get_or children i 0 ≢ start → new ≡ old ++ get_or children i 0 ∷ [] → new ++ rest ≡ all
  taken new ne e = ap (λ t. t ++ rest) e ∙ append_assoc old (get_or children i 0 ∷ []) rest ∙ split true (ap not (ne_eqb (get_or children i 0) start ne))

  left : (new : List ℕ) → get_or children i 0 ≡ start → new ≡ old → new ++ rest ≡ all
  left new same e = ap (λ t. t ++ rest) e ∙ split false (ap not (eq-eqb (get_or children i 0) start same))

pub loop-child-preserved : goal.loop-child-preserved
loop-child-preserved c = elim c.if-child-start.branch [
  | then-child-start+in_ok-push w ↦
      taken c.args.start _ c.loop-child.child-index c.loop-child.gathered.items _ c.loop-child-test.true c.loop-child.invariant c.if-child-start.gathered.items w.if-child-start.true (rw w.gathered-is w.in_ok-push.ensures.items)
  | else-child-start w ↦
      left c.args.start _ c.loop-child.child-index c.loop-child.gathered.items _ c.loop-child-test.true c.loop-child.invariant c.if-child-start.gathered.items w.if-child-start.false (rw w.gathered-is refl)
]
