use Rattle.turn_notes.proofs.NoteLemmas.{possible_has, added_one, add_own}
use Rattle.turn_notes.proofs.writers.add_note.Goals as goal

pub with_turn-requires-clause-ready : goal.with_turn-requires-clause-ready
with_turn-requires-clause-ready g c = λ xs possible. possible_has c.args.pass.now.seen c.args.pass.now.own xs _ c.requires.own possible.1

pub with_turn-requires-clause-keys : goal.with_turn-requires-clause-keys
with_turn-requires-clause-keys g c = λ b x answer y e possible does grown. add_own x.notes.items _ c.args.note answer _ e c.requires.own does grown

pub returns-clause-wrote : goal.returns-clause-wrote
returns-clause-wrote g c = let e = c.with_turn.ensures in added_one _ _ e.0.notes.items e.1.notes.items e.3.added _ c.args.note e.2 e.3.grown e.3.own
