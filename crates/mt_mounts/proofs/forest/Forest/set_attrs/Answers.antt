use Rattle.std.proofs.Common.{refl, inl, arith}
use Rattle.mt_mounts.proofs.KeptLaws.{forest_attrs}
use Rattle.mt_mounts.proofs.forest.Forest.set_attrs.Goals as goal

pub invariant_of-self : goal.invariant_of-self
invariant_of-self c = (
  forest_attrs _ _ _ _ c.self.invariant.0 _ _ _ c.args.id c.args.attrs c.set_attrs.ensures.mounts (inl (refl, c.add.ensures.ids)),
  omega (arith, c.self.invariant.1, c.set_attrs.ensures.room),
)
