use Rattle.std.proofs.Common.{rules, ◌∙◌, sym}
use Rattle.std.proofs.lemmas.Fn.{filter_same}
use Rattle.mt_propagate.specs.World.{world_view}
use Rattle.mt_propagate.specs.Receivers.{is_attached}
use Rattle.mt_propagate.proofs.TargetLaws.{none_out}
use Rattle.mt_propagate.proofs.receivers.attached.Goals as goal

pub returns-then-is_empty : goal.returns-then-is_empty
returns-then-is_empty c = none_out (world_view c.args.world.now) c.args.ids.items (sym c.is_empty.ensures ∙ c.if-is_empty.true)

pub returns : goal.returns
returns c = filter_same _ (is_attached (world_view c.args.world.now)) _ (λ x b g r. search rules) c.args.ids.items c.retain.new.self.items c.retain.ensures.filtered
