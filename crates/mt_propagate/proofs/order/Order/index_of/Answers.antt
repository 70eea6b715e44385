use Rattle.std.proofs.Common.{length, ap, arith}
use Rattle.std.specs.Prelude.{nat_eq}
use Rattle.mt_skel.proofs.PlaceLaws.{place-within}
use Rattle.mt_propagate.proofs.order.Order.index_of.Goals as goal

pub returns-then-self-clause-small : goal.returns-then-self-clause-small
returns-then-self-clause-small c =
    let within = place-within (nat_eq c.args.id) c.deref.result.now in
    let same = ap length c.deref.ensures.value in
    omega (arith, within, same, c.halved_index.ensures, c.self.inside.ids.small, c.self.inside.ids.ok.0, c.self.inside.ids.ok.1)

pub returns-clause-small : goal.returns-clause-small
returns-clause-small c =
    let within = place-within (nat_eq c.args.id) c.deref-2.result.now in
    let same = ap length c.deref-2.ensures.value in
    omega (arith, within, same, c.first_index.ensures, c.self.inside.ids.small, c.self.inside.ids.ok.0, c.self.inside.ids.ok.1)
