use Rattle.std.proofs.Common.{List, length, ap, ◌∙◌}
use Rattle.std.specs.List.{filter}
use Rattle.mt_render.specs.Groups.{NodeView, is_member}
use Rattle.mt_render.proofs.GroupLaws.{member_count}
use Rattle.mt_render.proofs.groups.Nodes.count.Goals as goal

pub returns : goal.returns
returns c =
    c.count.ensures ∙ member_count c.self.inside.nodes.items c.self.inside.members.rows c.self.invariant c.args.group
    ∙ ap (λ (ns : List NodeView). length (filter (is_member c.args.group) ns)) c.self.view_is
