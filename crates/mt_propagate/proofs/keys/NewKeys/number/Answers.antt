use Rattle.std.proofs.Common.{arith}
use Rattle.mt_propagate.specs.Groups.{key_eq}
use Rattle.mt_propagate.specs.Keys.{key_view}
use Rattle.mt_skel.proofs.PlaceLaws.{place-within}
use Rattle.mt_propagate.proofs.keys.NewKeys.number.Goals as goal

pub overflow_add-result : goal.overflow_add-result
overflow_add-result c = let within = place-within (key_eq (key_view c.args.key)) c.args.self.now in omega (arith, within, c.index_of.ensures.index, c.requires)
