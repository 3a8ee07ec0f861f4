use Rattle.std.proofs.Common.{[]}
use Rattle.session_laws.specs.PictureLaws.{statements_of}
use Rattle.session_laws.proofs.Replied.{each_told, record_fine}
use Rattle.session_laws.proofs.completeness.statements_are_told.Goals as goal

pub returns : goal.returns
returns c = λ level requests entries said end is memory full t.
    each_told [] (statements_of requests) t.acts end (record_fine t.acts entries t.rest t.entries_are memory full) t.is
