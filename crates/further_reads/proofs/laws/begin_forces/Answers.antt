use Rattle.history_core.proofs.Prefixes.{sound_of}
use Rattle.further_reads.proofs.Begins.{begin_forced, begin_forced_after, begin_precedes, begin_precedes_after, begin_closure, begin_closure_after, begin_past, begin_past_after}
use Rattle.further_reads.proofs.laws.begin_forces.Goals as goal

pub returns : goal.returns
returns c = record {
  forced = λ initial events session level formed a b. (
    begin_forced events session level a b (sound_of initial events formed),
    begin_forced_after events session level a b,
  );
  precedes = λ initial events session level formed a b. (
    begin_precedes events session level a b (sound_of initial events formed),
    begin_precedes_after events session level a b,
  );
  closure = λ initial events session last level formed is a b. (
    begin_closure events session last level (sound_of initial events formed) is a b,
    begin_closure_after events session last level is a b,
  );
  past = λ initial events session last level formed is a b. (
    begin_past events session last level (sound_of initial events formed) is a b,
    begin_past_after events session last level is a b,
  );
}
