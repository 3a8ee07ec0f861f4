use Rattle.session_laws.proofs.OnePicture.{each_over_one_picture}
use Rattle.session_laws.proofs.pictures.each_statement_has_one_picture.Goals as goal

pub returns : goal.returns
returns g c = each_over_one_picture g.W.Words.gives
