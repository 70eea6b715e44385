use Rattle.std.proofs.Common.{rules, ap, ◌∙◌}
use Rattle.std.specs.Prelude.{nat_le, not, ◌&&◌}
use Rattle.std.proofs.lemmas.Map.Made.{filter_same_pairs}
use Rattle.mt_trace.specs.OpenFiles.{closed_between}
use Rattle.mt_trace.proofs.open_files.OpenFiles.close_between.Goals as goal

pub returns : goal.returns
returns c =
    filter_same_pairs _ (λ row. not (nat_le c.args.first row.0 && nat_le row.0 c.args.last)) _ (λ k v b w f' t. search rules) _ _ c.retain.ensures.filtered ∙ ap (closed_between c.args.first c.args.last) c.self.view_is
