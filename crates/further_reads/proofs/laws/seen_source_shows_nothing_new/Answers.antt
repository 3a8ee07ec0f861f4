use Rattle.further_reads.proofs.Sights.{seen_source, sees_more}
use Rattle.further_reads.proofs.laws.seen_source_shows_nothing_new.Goals as goal

pub returns : goal.returns
returns c = record {
  committed = λ events reader source writer new. new.1 new.0;
  seen = λ level events reader source writer seen new. new.1 (seen_source level events reader source writer seen new.0);
  sees = λ level events reader source writer seen. (
    seen_source level events reader source writer seen,
    sees_more level events reader source writer,
  );
}
