use Rattle.history_core.proofs.Prefixes.{sound_of}
use Rattle.further_reads.proofs.Extended.{consistent_with, no_cycle_with, permitted_with, no_cycle_permitted}
use Rattle.further_reads.proofs.laws.further_read_is_permitted.Goals as goal

pub returns : goal.returns
returns c = record {
  consistent = λ initial events session reader level cell source count word value pairs edges formed pending runs writes have are. (
    no_cycle_with level events session reader cell source count word value pairs edges pending runs have are,
    consistent_with level events (sound_of initial events formed) session reader cell source count word value pairs edges pending runs writes have are,
  );
  permitted = λ initial events session reader level cell source pairs edges formed pending runs writes have are. (
    no_cycle_permitted level events session reader cell source pairs edges pending runs have are,
    permitted_with level events (sound_of initial events formed) session reader cell source pairs edges pending runs writes have are,
  );
}
