use Rattle.history_check.proofs.KeyLemmas.{ListsNoOtherBelow}
use Rattle.history_check.proofs.keys.lists_no_other.Given as goal

abbrev pub invariant-loop-key : goal.invariant-loop-key
invariant-loop-key l = ListsNoOtherBelow l.initial' l.before l.session l.table l.keys l.key-index
