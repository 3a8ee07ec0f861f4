use Rattle.statement_laws.proofs.Selecting.{select_answers}
use Rattle.statement_laws.proofs.pictures.select_answers_picture.Goals as goal

pub returns : goal.returns
returns c = select_answers
