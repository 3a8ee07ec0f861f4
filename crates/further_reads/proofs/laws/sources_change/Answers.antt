use Rattle.history_core.proofs.Prefixes.{sound_of}
use Rattle.further_reads.proofs.Sources.{reads_from_with, with_reads_from, others_read_from, reads_from_kept, unbegun_reads_none}
use Rattle.further_reads.proofs.laws.sources_change.Goals as goal

pub returns : goal.returns
returns c = record {
  read = λ initial events session reader cell source count word value formed pending a b. (
    reads_from_with events (sound_of initial events formed) session reader cell source count word value pending a b,
    with_reads_from events session reader cell source count word value pending a b,
  );
  others = λ events event nothing a b positive. (others_read_from events event nothing a b positive, reads_from_kept events event a b);
  unbegun = unbegun_reads_none;
}
