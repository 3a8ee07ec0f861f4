use Rattle.session_laws.proofs.SessionsEnd.{told_ends}
use Rattle.session_laws.proofs.WholeStreams.{ends_well}
use Rattle.session_laws.proofs.ends.ends_have_causes.Goals as goal

pub returns : goal.returns
returns c = record {
  causes = told_ends;
  whole = λ level requests entries said end whole is. ends_well end requests entries whole (told_ends level requests entries said end is);
}
