use Rattle.statement_laws.proofs.Changing.{change_answers}
use Rattle.statement_laws.proofs.pictures.change_answers_picture.Goals as goal

pub returns : goal.returns
returns c = change_answers
