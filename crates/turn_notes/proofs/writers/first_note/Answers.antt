use Rattle.turn_notes.proofs.NoteLemmas.{adds_none, none_added, begun_some, begun_first}
use Rattle.turn_notes.proofs.writers.first_note.Goals as goal

pub with_turn-requires-clause-ready : goal.with_turn-requires-clause-ready
with_turn-requires-clause-ready g c = λ xs possible. begun_some c.args.lock.now.start xs c.requires.some (rw (← c.requires.lock) possible.0)

pub with_turn-requires-clause-keys : goal.with_turn-requires-clause-keys
with_turn-requires-clause-keys g c = λ b x answer y e possible does grown. adds_none x.notes.items _ _ e does.1 grown

pub returns-clause-own : goal.returns-clause-own
returns-clause-own g c = let e = c.with_turn.ensures in none_added _ _ e.0.notes.items e.1.notes.items e.3.added e.2.1 e.3.grown e.3.own

pub returns-clause-first : goal.returns-clause-first
returns-clause-first g c = let e = c.with_turn.ensures in begun_first c.args.lock.now.start e.0.notes.items _ c.requires.some (rw (← c.requires.lock) e.3.possible.0) e.2.0
