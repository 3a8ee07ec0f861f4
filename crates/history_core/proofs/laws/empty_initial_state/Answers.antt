use Rattle.history_core.proofs.EmptyState.{lists_written, lists_keys}
use Rattle.history_core.proofs.laws.empty_initial_state.Goals as goal

pub returns-clause-keys : goal.returns-clause-keys
returns-clause-keys c = λ events session table keys. (lists_written events session table keys, lists_keys events session table keys)
