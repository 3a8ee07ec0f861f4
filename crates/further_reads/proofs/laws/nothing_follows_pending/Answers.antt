use Rattle.history_core.proofs.Prefixes.{sound_of, pending_first}
use Rattle.further_reads.proofs.Pending.{pending_forces_none, pending_reaches_none, pending_precedes_none}
use Rattle.further_reads.proofs.laws.nothing_follows_pending.Goals as goal

pub returns : goal.returns
returns c = record {
  forced = λ initial events session n other formed pending forced. pending_forces_none events (sound_of initial events formed) n session other pending forced;
  precedes = λ initial events session n other formed pending precedes. pending_first events (sound_of initial events formed) n session other pending precedes;
  closure = λ initial events session n other formed pending chain. pending_reaches_none events (sound_of initial events formed) n session other pending chain;
  past = λ initial events session n other formed pending chain. pending_precedes_none events (sound_of initial events formed) n session other pending chain;
}
