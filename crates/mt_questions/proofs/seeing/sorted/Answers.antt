use Rattle.std.proofs.Common.{rules}
use Rattle.std.proofs.lemmas.List.Sorted.{IsNonDecreasingBy-from_sort_by_key}
use Rattle.mt_reach.specs.Rows.{seen_id}
use Rattle.mt_questions.proofs.seeing.sorted.Goals as goal

pub returns-clause-order : goal.returns-clause-order
returns-clause-order c = IsNonDecreasingBy-from_sort_by_key seen_id _ c.in_ok-sort_by_key.ensures.sorted (λ a r q k. search rules)
