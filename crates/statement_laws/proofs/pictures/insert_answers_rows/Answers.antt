use Rattle.statement_laws.proofs.Changing.{insert_answers}
use Rattle.statement_laws.proofs.pictures.insert_answers_rows.Goals as goal

pub returns : goal.returns
returns c = insert_answers
