use Rattle.std.proofs.Common.{◌+◌, List, drop, sym, ap, ◌∙◌}
use Rattle.std.specs.Prelude.{slice_get}
use Rattle.std.specs.List.{find}
use Rattle.std.specs.Option.{option_and_then}
use Rattle.mt_render.specs.Groups.{NodeView, is_member}
use Rattle.mt_render.proofs.GroupLaws.{next_by, as_got}
use Rattle.mt_render.proofs.groups.Nodes.next_member.Goals as goal

pub returns-in_err-next : goal.returns-in_err-next
returns-in_err-next c =
    let nodes = c.self.inside.nodes.items in
    rw c.from_residual.ensures
    (ap (λ (ns : List NodeView). find (is_member c.args.group) (drop (c.args.at + 1) ns)) (sym c.self.view_is)
    ∙ next_by nodes c.self.inside.members.rows c.self.invariant c.args.at c.args.group (ap (λ (ns : List NodeView). option_and_then (λ (n : NodeView). n.row.shared) (slice_get ns c.args.at)) c.self.view_is ∙ c.requires)
    ∙ ap (option_and_then (slice_get nodes)) (sym c.in_err-next.ensures))

pub returns : goal.returns
returns c =
    let nodes = c.self.inside.nodes.items in
    as_got (λ n. n.now) c.deref.result.now c.in_ok-next.next c.get.result _
    (ap (λ (ns : List NodeView). find (is_member c.args.group) (drop (c.args.at + 1) ns)) (sym c.self.view_is)
    ∙ next_by nodes c.self.inside.members.rows c.self.invariant c.args.at c.args.group (ap (λ (ns : List NodeView). option_and_then (λ (n : NodeView). n.row.shared) (slice_get ns c.args.at)) c.self.view_is ∙ c.requires)
    ∙ ap (option_and_then (slice_get nodes)) (sym c.in_ok-next.ensures) ∙ ap (λ (ns : List NodeView). slice_get ns c.in_ok-next.next) (sym c.deref.ensures.value))
    c.get.ensures.lookup.0 c.get.ensures.lookup.1
