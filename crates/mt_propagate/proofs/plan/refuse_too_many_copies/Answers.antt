use Rattle.std.proofs.Common.{◌≡◌, ◌+◌, ◌*◌, ◌<◌, ℕ, true, length, refl, sym, ap, ◌∙◌, arith}
use Rattle.mt_skel.proofs.SkeletonLaws.{room_within}
use Rattle.std.proofs.lemmas.Bool.Decides.{nat_tests}
use Rattle.mt_propagate.specs.World.{WorldView, world_view}
use Rattle.mt_propagate.specs.Limits.{mounts_at_most, too_many_mounts}
use Rattle.mt_propagate.specs.Copies.{copies_at}
use Rattle.mt_propagate.proofs.PlansLaws.{length-copies}
use Rattle.mt_propagate.proofs.plan.refuse_too_many_copies.Goals as goal

-- a count that no word holds is above the limit
beyond : (w : WorldView) (n product : ℕ) → n ≡ product → (product < 18446744073709551616 → ⊥) → too_many_mounts w n ≡ true
beyond w n product e off =
    let least = room_within w.skel in
    let more : mounts_at_most w < length w.forest + n = omega (arith, e, off, least) in
    grind (arith, nat_tests)

pub returns-in_default-clause-refused : goal.returns-in_default-clause-refused
returns-in_default-clause-refused c =
    let w = world_view c.args.world.now in
    (refl, beyond w (length (copies_at c.args.mounts.now c.args.targets.now)) (length c.args.mounts.now * length c.args.targets.now) (length-copies c.args.mounts.now c.args.targets.now) c.in_default.ensures)

pub returns-then-too_many_mounts-clause-refused : goal.returns-then-too_many_mounts-clause-refused
returns-then-too_many_mounts-clause-refused c =
    let count = c.in-Some.ensures.1 ∙ sym (length-copies c.args.mounts.now c.args.targets.now) in
    (refl, ap (λ (n : ℕ). too_many_mounts (world_view c.args.world.now) n) (sym count) ∙ sym c.too_many_mounts.ensures ∙ c.if-too_many_mounts.true)

pub returns-clause-few : goal.returns-clause-few
returns-clause-few c =
    let count = c.in-Some.ensures.1 ∙ sym (length-copies c.args.mounts.now c.args.targets.now) in
    ap (λ (n : ℕ). too_many_mounts (world_view c.args.world.now) n) (sym count) ∙ sym c.too_many_mounts.ensures ∙ c.if-too_many_mounts.false
