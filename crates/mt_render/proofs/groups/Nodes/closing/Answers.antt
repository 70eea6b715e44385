use Rattle.std.proofs.Common.{◌≡◌, List, Option, Some, None, sym, ap, subst, ◌∙◌}
use Rattle.std.specs.Prelude.{MatchOption}
use Rattle.std.specs.List.{find}
use Rattle.mt_render.specs.Groups.{NodeView, is_member, closing}
use Rattle.mt_render.proofs.GroupLaws.{closing_few, closing_many}
use Rattle.mt_render.proofs.groups.Nodes.closing.Goals as goal

pub returns-then-count-lt3 : goal.returns-then-count-lt3
returns-then-count-lt3 c =
    ap (λ (ns : List NodeView). closing ns c.args.group) (sym c.self.view_is) ∙ closing_few c.self.inside.nodes.items c.self.inside.members.rows c.self.invariant c.args.group c.count.result c.count.ensures c.if-count-lt3.true

pub returns : goal.returns
returns c =
    let same =
    ap (λ (ns : List NodeView). closing ns c.args.group) (sym c.self.view_is) ∙ closing_many c.self.inside.nodes.items c.self.inside.members.rows c.self.invariant c.args.group c.count.result c.count.ensures c.if-count-lt3.false
    ∙ ap (λ (ns : List NodeView). find (is_member c.args.group) ns) c.self.view_is in
    subst (λ (o : Option NodeView). MatchOption c.first_member.result (o ≡ None) (λ n. o ≡ Some n.now)) (sym same) c.first_member.ensures
