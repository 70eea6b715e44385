use Rattle.std.proofs.Common.{◌∙◌, List, ap, codes, refl, String, Global}
use Rattle.serde_json.specs.Data.{Members, no_members, object, put}
use Rattle.serde_json.specs.View.{members_view}
use Rattle.serde_json.specs.Written.{has_float}
use Rattle.serde_json.specs.declared.value.Value.{Value}
use Rattle.mt_render.specs.Members.{text_data}
use Rattle.mt_render.proofs.FloatLaws.{put_free}
use Rattle.mt_render.proofs.stamp.refusal_line.Goals as goal

pub value_line-requires : goal.value_line-requires
value_line-requires c =
    let none = ap (λ (es : List (String Global × Value)). members_view es) c.new-members.ensures.empty in
    let told = c.in_ok-put_text.ensures ∙ ap (λ (ms : Members). put (codes "refusal") (text_data c.args.name.now) ms) none in
    ap has_float (c.from.ensures ∙ ap object told) ∙ put_free (codes "refusal") (text_data c.args.name.now) no_members refl refl
