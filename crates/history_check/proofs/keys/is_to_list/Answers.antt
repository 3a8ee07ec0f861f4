use Rattle.history_check.proofs.keys.is_to_list.Goals as goal

pub returns : goal.returns
returns c = rw c.in_ok-key.ensures at c.is_present-is.ensures
