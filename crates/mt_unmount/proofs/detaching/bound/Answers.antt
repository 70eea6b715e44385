use Rattle.std.proofs.Common.{◌≡◌, ℕ, Bool, ◌&&◌, ◌||◌, not, sym, ap, ◌∙◌, arith}
use Rattle.mt_skel.specs.Keyed.{among}
use Rattle.mt_locks.specs.Locks.{is_locked}
use Rattle.mt_locks.proofs.LockedLaws.{ids-locked}
use Rattle.mt_propagate.specs.World.{world_view}
use Rattle.mt_unmount.specs.Detaching.{met_mounts}
use Rattle.mt_unmount.proofs.detaching.bound.Goals as goal

-- a mount is bound if it is locked and was not met
unbound : (locked met : Bool) → not (locked && not met) ≡ (met || not locked)
unbound locked met = grind arith

pub returns-clause-bound : goal.returns-clause-bound
returns-clause-bound c j =
    let w = world_view c.args.world.now in
    let locked : among c.new-locked.result j ≡ is_locked w.locks j = c.new-locked.ensures.same j ∙ ap (λ l. among l j) c.in_ok-locked_ids.ensures.ids ∙ ids-locked w.locks j in
    let met : among c.new-met.result j ≡ among (met_mounts w c.args.id) j = c.new-met.ensures.same j ∙ ap (λ l. among l j) c.in_ok-met_mounts.ensures.met in
    ap not (c.without.ensures.same j ∙ (λ i. locked i && not (met i))) ∙ unbound (is_locked w.locks j) (among (met_mounts w c.args.id) j)
