use Rattle.std.proofs.Common.{◌≡◌, ◌∙◌, List, ◌∷◌, [], ◌++◌, codes, map, ap}
use Rattle.serde_json.specs.Data.{Data, Members, object, put}
use Rattle.serde_json.specs.View.{view}
use Rattle.serde_json.specs.Written.{has_float}
use Rattle.serde_json.specs.declared.value.Value.{Value}
use Rattle.mt_render.specs.Members.{text_data}
use Rattle.mt_render.specs.Objects.{listing, flat_node}
use Rattle.mt_render.proofs.FloatLaws.{place_listing_free}
use Rattle.mt_render.proofs.objects.place_line.Goals as goal

pub value_line-requires : goal.value_line-requires
value_line-requires c =
    let value = c.in_ok-flat_node.field-0 in
    let values : map view c.push.new.list.items ≡ flat_node c.args.row.now ∷ [] =
    ap (λ (vs : List Value). map view vs) c.in_ok-push.ensures.ok ∙ ap (λ (vs : List Value). map view (vs ++ value ∷ [])) c.new-values.ensures.items ∙ ap (λ (d : Data). d ∷ []) c.in_ok-flat_node.ensures in
    let members = c.in_ok-members.ensures ∙ ap (λ (ds : List Data). listing c.args.space [] ds) values in
    ap has_float (c.from.ensures ∙ ap object (c.in_ok-put_text.ensures ∙ ap (λ (ms : Members). put (codes "directory") (text_data c.args.directory.now) ms) members))
    ∙ place_listing_free c.args.space c.args.directory.now c.args.row.now
