use Rattle.std.proofs.Common.{arith}
use Rattle.std.proofs.lemmas.List.Sums.{count_by-le-length}
use Rattle.history_core.specs.Events.{is_begin}
use Rattle.cycle_report.proofs.judging.judge_made.Goals as goal

pub judge_spanned-requires-clause-view : goal.judge_spanned-requires-clause-view
judge_spanned-requires-clause-view c = record {
  few = c.requires.few;
  few_txns = let h = count_by-le-length is_begin c.args.events.now in let f = c.requires.few in omega arith;
  orderly = c.requires.orderly;
  owners_are = c.requires.owners;
  txns_are = c.requires.txns;
  pasts_are = c.requires.pasts;
  writers_are = c.requires.writers;
}
