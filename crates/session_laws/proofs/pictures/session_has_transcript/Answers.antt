use Rattle.session_laws.proofs.PicturedSessions.{session_transcript}
use Rattle.session_laws.proofs.pictures.session_has_transcript.Goals as goal

pub returns : goal.returns
returns c = session_transcript
