use Rattle.session_laws.proofs.OnePicture.{served_over_pictures}
use Rattle.session_laws.proofs.pictures.served_statements_have_pictures.Goals as goal

pub returns : goal.returns
returns g c = served_over_pictures g.W.Words.gives
