use Rattle.std.proofs.Common.{rules}
use Rattle.history_check.proofs.ScanLemmas.{written_none}
use Rattle.history_check.proofs.notes.no_notes.Goals as goal

pub returns : goal.returns
returns c = record {
  settled = search rules;
  sessions = search rules;
  session_notes = search rules;
  pending = search rules;
  begun_are = search rules;
  commits = search rules;
  keys = written_none c.new_keys.result;
  tables = search rules;
}
