-- A mirror that is given posts, one after another.
use Rattle.std.proofs.Common.{◌≡◌, ℕ, suc, ◌+◌, true, ◌==◌, List, [], ◌∷◌, length, Some, slice_get, IsTrue, refl, ◌∙◌, arith}
use Rattle.std.proofs.lemmas.Bool.Decides.{nat_tests}
use Rattle.mt_info.specs.declared.row.Row.{Row}
use Rattle.mt_skel.proofs.MiddleLaws.{and-true}
use Rattle.mt_events.specs.Posts.{PostView}
use Rattle.mt_events.specs.Difference.{with_posts}
use Rattle.mt_events.specs.Mirrors.{MirrorView, is_next, mirrored, are_next, mirrored_by}

abbrev pub mirror_with : ℕ → ℕ → List Row → MirrorView
mirror_with space number rows = record { space = space; number = number; rows = rows }

pub mirror_same : (space : ℕ) {number number_2 : ℕ} {rows rows_2 : List Row} → number ≡ number_2 → rows ≡ rows_2 → mirror_with space number rows ≡ mirror_with space number_2 rows_2
mirror_same space e f = λ i. mirror_with space (e i) (f i)

-- where the posts are of its namespace, and their numbers go on from its own, each is the next one
pub mirror_followed : (m : MirrorView) (ps : List PostView) → ((k : ℕ) (p : PostView) → slice_get ps k ≡ Some p → (p.space ≡ m.space) × (p.number ≡ m.number + k + 1))
    → IsTrue (are_next m ps) × (mirrored_by m ps ≡ mirror_with m.space (m.number + length ps) (with_posts m.rows ps))
mirror_followed m [] h = (refl, mirror_same m.space (omega arith) refl)
mirror_followed m (p ∷ ps) h =
    let here = h 0 p refl in
    let space : (p.space == m.space) ≡ true = grind (arith, nat_tests) in
    let number : (p.number == m.number + 1) ≡ true = grind (arith, nat_tests) in
    let later = mirror_followed (mirrored m p) ps (λ k q e. let r = h (suc k) q e in (r.0, omega (arith, r.1, here.1))) in
    (and-true (is_next m p) (are_next (mirrored m p) ps) (and-true (p.space == m.space) (p.number == m.number + 1) space number) later.0, later.1 ∙ mirror_same m.space (omega (arith, here.1)) refl)
