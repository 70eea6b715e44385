use Rattle.std.proofs.Common.{ap, ◌∙◌}
use Rattle.mt_render.specs.Groups.{ordered}
use Rattle.mt_render.proofs.PaletteLaws.{ordered_is}
use Rattle.mt_render.proofs.palette.Palette.of.Goals as goal

pub returns : goal.returns
returns c = ordered_is c.in_ok-named.named.items c.in_order-groups.result.items c.in_order-groups.ensures.rising c.in_order-groups.ensures.same ∙ ap ordered c.in_ok-named.ensures
