use Rattle.std.proofs.Common.{◌≡◌, ℕ, zero, suc, ◌+◌, ◌<◌, true, List, [], ◌∷◌, map, length, get_or, None, rules, sym, ap, arith}
use Rattle.std.specs.Prelude.{nat_eq, nat_lt}
use Rattle.std.specs.List.{position_or_len}
use Rattle.std.proofs.lemmas.Bool.Decides.{nat_tests}
use Rattle.std.proofs.lemmas.Cmp.{ranked}
use Rattle.std.proofs.lemmas.List.Folds.{list_all_at}
use Rattle.std.proofs.lemmas.List.Sorted.{answers_always}
use Rattle.mt_skel.specs.Keyed.{rises}
use Rattle.mt_skel.proofs.SearchLaws.{not_found}
use Rattle.mt_mounts.specs.declared.mount.Mount.{Mount}
use Rattle.mt_mounts.specs.Forest.{id_of, mount_at}
use Rattle.mt_propagate.specs.Named.{unknown}
use Rattle.mt_bind.proofs.copying.copy_number.Goals as goal

-- where the IDs rise, the first index of the ID of the mount that stands at k is k
index_at : (i k : ℕ) (ms : List Mount) → rises id_of ms ≡ true → k < length ms → (get_or ms k unknown).id ≡ i → position_or_len (nat_eq i) (map id_of ms) ≡ k
index_at i k [] r l e = absurd (omega (arith, l))
index_at i zero (m ∷ ms) r l e = grind (arith, nat_tests)
index_at i (suc k) (m ∷ ms) r l e = grind (arith, nat_tests, index_at i k ms, list_all_at (λ (y : Mount). nat_lt m.id y.id) ms k unknown (omega (arith, l)))

-- and where no mount has the ID, it is how many there are
index_absent : (i : ℕ) (ms : List Mount) → mount_at ms i ≡ None → position_or_len (nat_eq i) (map id_of ms) ≡ length ms
index_absent i [] e = omega arith
index_absent i (m ∷ ms) e = grind (arith, nat_tests, index_absent i ms)

pub returns-in-Ok : goal.returns-in-Ok
returns-in-Ok c =
    let equal = c.in-Ok.ensures.position id_of (answers_always _ _ _ (λ f a r g called. search rules)) in
    ap (λ (k : ℕ). c.args.next + k) (sym (index_at c.args.id c.in-Ok.at c.args.originals.now c.requires.rising c.in-Ok.ensures.bound (ranked _ c.args.id _ (sym (equal unknown)))))

pub returns-in-Err : goal.returns-in-Err
returns-in-Err c =
    let parted = c.in-Err.ensures.position id_of (answers_always _ _ _ (λ f a r g called. search rules)) in
    ap (λ (k : ℕ). c.args.next + k) (sym (index_absent c.args.id c.args.originals.now (not_found id_of c.args.id c.in-Err.field-0 c.args.originals.now c.requires.rising parted)))
