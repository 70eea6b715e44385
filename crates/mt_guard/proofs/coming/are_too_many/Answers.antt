use Rattle.std.proofs.Common.{◌≡◌, ◌+◌, ◌*◌, ◌<◌, ℕ, true, length, sym, ap, ◌∙◌, arith}
use Rattle.mt_skel.proofs.SkeletonLaws.{room_within}
use Rattle.std.proofs.lemmas.Bool.Decides.{nat_tests}
use Rattle.mt_propagate.specs.World.{WorldView, world_view}
use Rattle.mt_propagate.specs.Limits.{mounts_at_most, too_many_mounts}
use Rattle.mt_guard.proofs.coming.are_too_many.Goals as goal

-- a count that no word holds is above the limit
beyond : (w : WorldView) (product : ℕ) → (product < 18446744073709551616 → ⊥) → too_many_mounts w product ≡ true
beyond w product off =
    let more : mounts_at_most w < length w.forest + product = omega (arith, off, room_within w.skel) in
    grind (arith, nat_tests)

pub returns-in_default : goal.returns-in_default
returns-in_default c = sym (beyond (world_view c.args.world.now) (c.args.targets * c.args.mounts) c.in_default.ensures)

pub returns : goal.returns
returns c = c.too_many_mounts.ensures ∙ ap (λ (n : ℕ). too_many_mounts (world_view c.args.world.now) n) c.in-Some.ensures.1
