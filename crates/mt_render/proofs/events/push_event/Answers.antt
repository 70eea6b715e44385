use Rattle.std.proofs.Common.{◌∙◌, List, ℕ, ap, codes}
use Rattle.serde_json.specs.Data.{Members, object, put}
use Rattle.serde_json.specs.View.{members_view}
use Rattle.serde_json.specs.Written.{has_float}
use Rattle.mt_render.specs.Members.{text_data, number_data}
use Rattle.mt_render.specs.Members.{with_name}
use Rattle.mt_render.proofs.EventLaws.{event_free}
use Rattle.mt_render.proofs.events.push_event.Goals as goal

pub push_value-requires : goal.push_value-requires
push_value-requires c =
    let mount = members_view c.args.members.entries in
    let told = c.in_ok-put_text.ensures ∙ ap (λ (bs : List ℕ). put (codes "event") (text_data bs) mount) c.as_bytes.ensures.value in
    let placed = c.in_ok-put_number.ensures ∙ ap (λ (ms : Members). put (codes "namespace") (number_data c.args.space) ms) told in
    let named = c.in_ok-put_name.ensures ∙ ap (λ (ms : Members). with_name c.args.name.now ms) placed in
    ap has_float (c.from.ensures ∙ ap object named) ∙ event_free c.args.event.now c.args.name.now c.args.space mount c.requires
