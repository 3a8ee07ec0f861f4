use Rattle.std.proofs.Common.{◌≡◌, ◌↔◌, Err, Some, subst, refl}
use Rattle.history_core.specs.declared.event.Event.TheVariants.{Write}
use Rattle.history_core.specs.declared.fault.BookFault.TheVariants.{Full}
use Rattle.history_core.specs.declared.fault.Limit.{Limit}
use Rattle.history_core.specs.Chronicle.{Chronicle}
use Rattle.history_core.specs.Legal.{full_for}
use Rattle.indexed_history.proofs.FirstWrites.{first_indexed, memory_alone, still_indexed}
use Rattle.indexed_history.proofs.pushes.push_first_write.Goals as goal

pub note_write-requires : goal.note_write-requires
note_write-requires c = λ q. (c.requires.indexed.writers q).ascending

pub returns-in_err-written-clause-indexed : goal.returns-in_err-written-clause-indexed
returns-in_err-written-clause-indexed c =
    still_indexed c.args.parts.now c.note_write.new.parts c.note_write.ensures.history c.note_write.ensures.keys c.in_err-written.ensures.err c.requires.indexed

pub returns-clause-indexed : goal.returns-clause-indexed
returns-clause-indexed c =
    first_indexed c.args.parts.now c.note_write.new.parts c.push_or_forget.new.parts c.args.session c.args.number c.args.cell c.in_ok-written.written c.args.value
    c.push_or_forget.result c.in_ok-written.ensures.copied ((c.requires.pending c.args.number).1 refl) (λ n pending. (c.requires.pending n).0 pending)
    (λ written. c.requires.unwritten record { number = c.args.number; pending = (c.requires.pending c.args.number).1 refl; written = written })
    c.note_write.ensures.history c.note_write.ensures.keys c.in_ok-written.ensures.noted c.in_ok-written.ensures.ok
    c.push_or_forget.ensures.keys c.push_or_forget.ensures.ascending c.push_or_forget.ensures.ok c.push_or_forget.ensures.listed
    c.push_or_forget.ensures.err c.push_or_forget.ensures.loses c.requires.indexed

pub returns-clause-memory : goal.returns-clause-memory
returns-clause-memory c =
    memory_alone c.args.parts.now.history.initial c.args.parts.now.history.events c.args.session c.args.cell c.args.value c.push_or_forget.result c.requires.load
    (subst (λ (h : Chronicle). (limit : Limit) → (c.push_or_forget.result ≡ Err (Full limit)) ↔ (full_for h.initial h.events (Write c.args.session c.args.cell c.args.value) ≡ Some limit))
    c.note_write.ensures.history c.push_or_forget.ensures.full)
