use Rattle.history_log.proofs.LineKinds.{event_cut}
use Rattle.history_log.proofs.Same.{same_cell, same_value}
use Rattle.history_log.proofs.laws.one_word.Goals as goal

pub returns : goal.returns
returns c = record { cells = same_cell; values = same_value; lines = event_cut }
