use Rattle.turn_notes.proofs.NoteLemmas.{start_new, started}
use Rattle.turn_notes.proofs.writers.start_writing.Goals as goal

pub with_turn-requires-clause-keys : goal.with_turn-requires-clause-keys
with_turn-requires-clause-keys g c = λ b x answer y e possible does grown. start_new x _ answer _ e does grown

pub returns-clause-wrote : goal.returns-clause-wrote
returns-clause-wrote g c = let e = c.with_turn.ensures in started _ _ e.0.notes.items e.1.notes.items e.3.added _ e.0.next e.2 e.3.grown e.3.own
