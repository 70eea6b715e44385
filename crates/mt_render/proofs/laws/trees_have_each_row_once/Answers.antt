use Rattle.mt_render.proofs.OnceLaws.{once, only, tops}
use Rattle.mt_render.proofs.laws.trees_have_each_row_once.Goals as goal

pub returns-clause-once : goal.returns-clause-once
returns-clause-once c = once

pub returns-clause-only : goal.returns-clause-only
returns-clause-only c = only

pub returns-clause-tops : goal.returns-clause-tops
returns-clause-tops c = tops
