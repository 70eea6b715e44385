use Rattle.std.proofs.Common.{ap, sym, ◌∙◌}
use Rattle.mt_propagate.specs.World.{WorldView, world_view}
use Rattle.mt_trace.proofs.StageLaws.{skel_after}
use Rattle.mt_trace.proofs.stage.Stage.change.Goals as goal

pub show-requires-clause-skel : goal.show-requires-clause-skel
show-requires-clause-skel c =
    skel_after (world_view c.in_ok-next.next.value) c.args.command.now (world_view c.in-Changed.next.value) c.in-Changed.reply c.requires c.in-Changed.ensures.0
    ∙ ap (λ (w : WorldView). w.skel) (c.in_ok-next.ensures.level ∙ sym c.in_ok-next.ensures.same ∙ sym c.self.view_is)
