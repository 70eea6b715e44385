use Rattle.std.proofs.Common.{sym, refl, inl, arith}
use Rattle.mt_mounts.proofs.KeptLaws.{forest_without, forest_left}
use Rattle.mt_mounts.proofs.forest.Forest.remove.Goals as goal

pub invariant_of-self : goal.invariant_of-self
invariant_of-self c =
    let f = c.self.invariant.0 in
    let ms = c.self.inside.table.mounts in (
      forest_without ms _ _ _ _ f _ _ _ c.args.id c.in-Some.mount (sym c.in-Some.ensures.mount) c.in-Some.ensures.mounts (inl (refl, c.add.ensures.ids))
          (λ at. c.remove-in-Some.ensures.indexed ms f.rising f.single at f.indexed),
      omega (arith, c.self.invariant.1, c.in-Some.ensures.room, c.remove-in-Some.ensures.room),
    )

pub invariant_of-self-in_default : goal.invariant_of-self-in_default
invariant_of-self-in_default c = (
  forest_left _ _ _ _ c.self.invariant.0 _ c.args.id (sym c.in_default.ensures.mount) c.in_default.ensures.mounts,
  omega (arith, c.self.invariant.1, c.in_default.ensures.room),
)
