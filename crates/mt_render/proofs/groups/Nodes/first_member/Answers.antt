use Rattle.std.proofs.Common.{List, sym, ap, ◌∙◌}
use Rattle.std.specs.Prelude.{slice_get}
use Rattle.std.specs.List.{find}
use Rattle.std.specs.Option.{option_and_then}
use Rattle.mt_render.specs.Groups.{NodeView, is_member}
use Rattle.mt_render.proofs.GroupLaws.{first_member, as_got}
use Rattle.mt_render.proofs.groups.Nodes.first_member.Goals as goal

pub returns-in_err-at : goal.returns-in_err-at
returns-in_err-at c =
    let nodes = c.self.inside.nodes.items in
    rw c.from_residual.ensures
    (ap (λ (ns : List NodeView). find (is_member c.args.group) ns) (sym c.self.view_is) ∙ first_member nodes c.self.inside.members.rows c.self.invariant c.args.group
    ∙ ap (option_and_then (slice_get nodes)) (sym c.in_err-at.ensures.first))

pub returns : goal.returns
returns c =
    let nodes = c.self.inside.nodes.items in
    as_got (λ n. n.now) c.deref.result.now c.in_ok-at.at c.get.result _
    (ap (λ (ns : List NodeView). find (is_member c.args.group) ns) (sym c.self.view_is) ∙ first_member nodes c.self.inside.members.rows c.self.invariant c.args.group
    ∙ ap (option_and_then (slice_get nodes)) (sym c.in_ok-at.ensures.first) ∙ ap (λ (ns : List NodeView). slice_get ns c.in_ok-at.at) (sym c.deref.ensures.value))
    c.get.ensures.lookup.0 c.get.ensures.lookup.1
