use Rattle.indexed_history.proofs.KeyLists.{gains_key}
use Rattle.history_check.proofs.table_keys.Keys.insert.Goals as goal

pub returns-clause-ok : goal.returns-clause-ok
returns-clause-ok c = rw (← c.self.view_is) (gains_key c.self.inside.keys c.insert.new.self c.args.key c.in_ok-insert.ensures.updates)
