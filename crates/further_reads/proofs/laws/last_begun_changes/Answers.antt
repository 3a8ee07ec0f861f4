use Rattle.history_core.proofs.Prefixes.{sound_of}
use Rattle.further_reads.proofs.Lasts.{last_begun_unique, pending_is_last, last_begun_none, last_begun_now, last_begun_other, last_begun_still}
use Rattle.further_reads.proofs.laws.last_begun_changes.Goals as goal

pub returns : goal.returns
returns c = record {
  one = last_begun_unique;
  pending = λ initial events session number formed pending. pending_is_last events (sound_of initial events formed) number session pending;
  none = last_begun_none;
  begun = last_begun_now;
  other = λ events beginning session last level apart is. last_begun_other events beginning level session last apart is;
  still = last_begun_still;
}
