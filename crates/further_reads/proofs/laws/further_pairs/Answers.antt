use Rattle.graph_base.proofs.Chains.{chained_wider}
use Rattle.history_core.specs.Relations.{Precedes}
use Rattle.history_core.specs.Forced.{IsForced}
use Rattle.history_core.proofs.Prefixes.{sound_of}
use Rattle.saturation.specs.Laws.{with_read}
use Rattle.further_reads.specs.Further.{IsForcedOrNew, PrecedesOrNew}
use Rattle.further_reads.proofs.NewPairs.{pairs_with, with_pairs, precedes_with, with_precedes}
use Rattle.further_reads.proofs.laws.further_pairs.Goals as goal

pub returns : goal.returns
returns c = record {
  forced = λ initial events session reader level cell source count word value edges formed pending runs writes are a b. (
    pairs_with level events (sound_of initial events formed) session reader cell source count word value edges pending runs writes are a b,
    with_pairs level events session reader cell source count word value edges pending runs are a b,
  );
  precedes = λ initial events session reader cell source count word value formed pending a b. (
    precedes_with events (sound_of initial events formed) session reader cell source count word value pending a b,
    with_precedes events session reader cell source count word value pending a b,
  );
  closure = λ initial events session reader level cell source count word value edges formed pending runs writes are a b. (
    chained_wider (IsForced (with_read events session cell source count word value)) (IsForcedOrNew events edges source reader)
        (pairs_with level events (sound_of initial events formed) session reader cell source count word value edges pending runs writes are) a b,
    chained_wider (IsForcedOrNew events edges source reader) (IsForced (with_read events session cell source count word value))
        (with_pairs level events session reader cell source count word value edges pending runs are) a b,
  );
  past = λ initial events session reader cell source count word value formed pending a b. (
    chained_wider (Precedes (with_read events session cell source count word value)) (PrecedesOrNew events source reader)
        (precedes_with events (sound_of initial events formed) session reader cell source count word value pending) a b,
    chained_wider (PrecedesOrNew events source reader) (Precedes (with_read events session cell source count word value))
        (with_precedes events session reader cell source count word value pending) a b,
  );
}
