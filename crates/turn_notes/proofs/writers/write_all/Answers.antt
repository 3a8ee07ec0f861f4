use Rattle.std.proofs.Common.{List, subst, sym, arith}
use Rattle.turn_lock.specs.Entries.{HasKey}
use Rattle.turn_notes.specs.declared.notes.Note.{Note}
use Rattle.turn_notes.proofs.NoteLemmas.{writer, has_own}
use Rattle.turn_notes.proofs.writers.write_all.Goals as goal

pub add_note-requires-clause-own : goal.add_note-requires-clause-own
add_note-requires-clause-own g c = subst (λ (l : List Note). HasKey writer c.in_ok-by.by l) (sym c.loop-value.invariant.own) (has_own c.in_ok-by.by c.loop-value.value (omega arith))
