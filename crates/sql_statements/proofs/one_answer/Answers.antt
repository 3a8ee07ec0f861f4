use Rattle.sql_statements.proofs.Law.{some_answer, one_list, one_text_fault, not_both}
use Rattle.sql_statements.proofs.one_answer.Goals as goal

pub returns-clause-some_answer : goal.returns-clause-some_answer
returns-clause-some_answer c = some_answer

pub returns-clause-one_list : goal.returns-clause-one_list
returns-clause-one_list c = one_list

pub returns-clause-one_fault : goal.returns-clause-one_fault
returns-clause-one_fault c = one_text_fault

pub returns-clause-not_both : goal.returns-clause-not_both
returns-clause-not_both c = not_both
