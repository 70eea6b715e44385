use Rattle.std.proofs.Common.{ap, arith}
use Rattle.mt_propagate.specs.Planned.{LayoutView}
use Rattle.mt_skel.proofs.PlaceLaws.{place-within}
use Rattle.mt_propagate.proofs.PositionLaws.{sought}
use Rattle.mt_propagate.proofs.places.number_at.Goals as goal

pub overflow_add-result : goal.overflow_add-result
overflow_add-result c =
    let within = place-within (sought c.args.target c.args.source) c.args.layout.now.copies in
    let same = ap (λ (l : LayoutView). l.next) c.layout.view_is in
    omega (arith, within, same, c.copy_index.ensures, c.requires)
