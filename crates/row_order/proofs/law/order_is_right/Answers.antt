use Rattle.row_order.proofs.Laws.{sorts, only_one_sorts}
use Rattle.row_order.proofs.law.order_is_right.Goals as goal

pub returns-clause-sorts : goal.returns-clause-sorts
returns-clause-sorts c = sorts

pub returns-clause-one : goal.returns-clause-one
returns-clause-one c = only_one_sorts
