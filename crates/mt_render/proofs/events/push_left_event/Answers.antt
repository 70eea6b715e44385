use Rattle.std.proofs.Common.{◌∙◌, ap}
use Rattle.serde_json.specs.Written.{members_have_float}
use Rattle.mt_render.proofs.EventLaws.{left_free}
use Rattle.mt_render.proofs.events.push_left_event.Goals as goal

pub push_event-requires : goal.push_event-requires
push_event-requires c = ap members_have_float c.in_ok-members.ensures ∙ left_free c.args.rows.now c.args.id
