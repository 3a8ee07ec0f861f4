use Rattle.session_laws.proofs.Records.{told_keeps}
use Rattle.session_laws.proofs.rows.session_keeps_rows.Goals as goal

pub returns : goal.returns
returns g c = record {
  serves = λ level before outcome after account tables serves first.
      told_keeps g.W.Words.gives level serves.requests _ _ account.entries before.past before.words after.past after.words tables serves.told_is serves.valid first;
  told = λ level requests said next entries before words after left tables is valid first.
      told_keeps g.W.Words.gives level requests said next entries before words after left tables is valid first;
}
