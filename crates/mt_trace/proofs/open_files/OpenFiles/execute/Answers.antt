use Rattle.std.proofs.Common.{rules, ap, ◌∙◌}
use Rattle.std.specs.Prelude.{not}
use Rattle.std.proofs.lemmas.Map.Made.{filter_same_pairs}
use Rattle.mt_trace.specs.OpenFiles.{executed}
use Rattle.mt_trace.proofs.open_files.OpenFiles.execute.Goals as goal

pub returns : goal.returns
returns c = filter_same_pairs _ (λ row. not row.1.closes_on_exec) _ (λ k v b w f' t. search rules) _ _ c.retain.ensures.filtered ∙ ap executed c.self.view_is
