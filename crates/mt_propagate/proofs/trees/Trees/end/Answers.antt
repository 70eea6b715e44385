use Rattle.std.proofs.Common.{ℕ, List, not, ◌==◌, rules, ap, ◌∙◌}
use Rattle.std.specs.List.{filter}
use Rattle.std.proofs.lemmas.Fn.{filter_same}
use Rattle.mt_propagate.proofs.trees.Trees.end.Goals as goal

pub returns : goal.returns
returns c =
    filter_same _ (λ n. not (n == c.args.space)) _ (λ x b g r. search rules) _ _ c.retain.ensures.filtered
    ∙ ap (λ (l : List ℕ). filter (λ n. not (n == c.args.space)) l) c.self.view_is
