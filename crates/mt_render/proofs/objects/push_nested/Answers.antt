use Rattle.std.proofs.Common.{◌∙◌, ◌++◌, ap}
use Rattle.std.proofs.lemmas.Result.{on_ok_weaker}
use Rattle.serde_json.specs.Data.{object}
use Rattle.serde_json.specs.Written.{has_float}
use Rattle.mt_render.specs.Named.{name_in}
use Rattle.mt_render.specs.Objects.{value_line, listing, tree_nodes, nested_line}
use Rattle.mt_render.proofs.FloatLaws.{nested_listing_free}
use Rattle.mt_render.proofs.objects.push_nested.Goals as goal

pub push_value-requires : goal.push_value-requires
push_value-requires c =
    let rows = c.in_ok-values.ensures ∙ ap (λ rs. tree_nodes rs) c.table.ensures in
    ap has_float (c.from-value.ensures ∙ ap object c.in_ok-listing.ensures ∙ ap (λ ds. object (listing c.space-space.result c.name_in.result.now ds)) rows) ∙ nested_listing_free c.space-space.result c.name_in.result.now c.args.part.now.rows

pub returns : goal.returns
unfolding nested_line
returns c =
    let m = c.args.part.now in
    let rows = c.in_ok-values.ensures ∙ ap (λ rs. tree_nodes rs) c.table.ensures in
    let name = c.name_in.ensures ∙ ap (λ n. name_in c.args.names.now n) c.space-space.ensures in
    let value = c.from-value.ensures ∙ ap object c.in_ok-listing.ensures ∙ ap (λ ds. object (listing c.space-space.result c.name_in.result.now ds)) rows ∙ (λ i. object (listing (c.space-space.ensures i) (name i) (tree_nodes m.rows))) in
    on_ok_weaker c.push_value.result (λ e. e ∙ ap (λ d. c.args.text.now.items ++ value_line d) value) c.push_value.ensures
