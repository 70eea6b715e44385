use Rattle.mt_book.proofs.OrderLaws.{step_orders, locks_in_order}
use Rattle.mt_book.proofs.laws.locks_are_in_order.Goals as goal

pub returns-clause-step : goal.returns-clause-step
returns-clause-step c = step_orders

pub returns-clause-after : goal.returns-clause-after
returns-clause-after c = locks_in_order
