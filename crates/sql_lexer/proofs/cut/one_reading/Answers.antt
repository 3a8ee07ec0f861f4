use Rattle.std.proofs.Common.{false}
use Rattle.sql_lexer.proofs.Once.{one_reading, one_fault, no_fault}
use Rattle.sql_lexer.proofs.Some.{some_reading}
use Rattle.sql_lexer.proofs.cut.one_reading.Goals as goal

pub returns-clause-some_reading : goal.returns-clause-some_reading
returns-clause-some_reading c = some_reading false 0

pub returns-clause-one_list : goal.returns-clause-one_list
returns-clause-one_list c = one_reading false 0

pub returns-clause-one_fault : goal.returns-clause-one_fault
returns-clause-one_fault c = one_fault false 0

pub returns-clause-not_both : goal.returns-clause-not_both
returns-clause-not_both c = no_fault false 0
