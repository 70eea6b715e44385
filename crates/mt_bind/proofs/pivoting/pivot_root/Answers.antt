use Rattle.std.proofs.Common.{◌≡◌, ℕ, Option, sym, ap, ◌∙◌, subst}
use Rattle.std.specs.Option.{unwrap_or}
use Rattle.mt_propagate.specs.World.{WorldView, world_view}
use Rattle.mt_bind.specs.Pivoting.{root_id, MayPivot}
use Rattle.mt_bind.proofs.PivotingLaws.{may_pivot}
use Rattle.mt_bind.proofs.pivoting.pivot_root.Goals as goal

pub exchange-requires-clause-pivot : goal.exchange-requires-clause-pivot
exchange-requires-clause-pivot c =
    let w = world_view c.args.world.now in
    let n = c.args.space in
    let s = c.in_ok-named.named in
    let p = c.in_ok-place.place in
    let root : root_id w n ≡ c.in-Some.root = ap (λ (o : Option ℕ). unwrap_or o 0) (sym c.root.ensures ∙ c.in-Some.is) in
    let may = may_pivot w n c.args.new.now c.args.old.now s p c.requires.well_formed (sym c.walk.ensures ∙ c.in_ok-named.was) (sym c.is_root_mount.ensures ∙ c.if-is_root_mount.false)
    (sym c.walk-2.ensures ∙ c.in_ok-place.was) (sym c.is_root_place.ensures ∙ c.if-is_root_place.false) (sym c.is_below.ensures ∙ c.if-not-is_below.false) in
    let same : w ≡ world_view (record c.args.world.now { forest = c.reserve.new.self }) = (λ i. record w { forest = (sym c.reserve.ensures.mounts) i }) in
    subst (λ (v : WorldView). MayPivot v s.mount c.in-Some.root p) same (subst (λ (k : ℕ). MayPivot w s.mount k p) root may)
