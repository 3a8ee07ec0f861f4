use Rattle.std.proofs.Common.{ℕ, ap, sym, ◌∙◌, subst}
use Rattle.history_core.specs.Chronicle.{Chronicle}
use Rattle.history_core.specs.declared.event.Event.TheVariants.{Write}
use Rattle.history_core.specs.Relations.{HasWritten}
use Rattle.indexed_history.proofs.Cells.{on_ok}
use Rattle.indexed_history.proofs.Indexes.{indexed_either, indexed_further}
use Rattle.indexed_history.proofs.KeyLists.{keyed_either, keyed_write, kept_written}
use Rattle.indexed_history.proofs.pushes.push_further_write.Goals as goal

pub returns-clause-indexed : goal.returns-clause-indexed
returns-clause-indexed c = record {
  writers = indexed_either c.args.parts.now.history c.push.new.self (Write c.args.session c.args.cell c.args.value) c.args.parts.now.index c.push.result
      (on_ok _ _ c.push.result (λ is. ap (λ (h : Chronicle). h.events) is) c.push.ensures.ok) c.push.ensures.err
      (indexed_further c.args.parts.now.history.events c.args.session c.args.cell c.args.value c.args.parts.now.index
      (λ n pending. subst (λ (k : ℕ). HasWritten c.args.parts.now.history.events k c.args.cell)
      ((c.requires.pending c.requires.written.number).0 c.requires.written.pending ∙ sym ((c.requires.pending n).0 pending)) c.requires.written.written))
      c.requires.indexed.writers;
  keys = keyed_either c.args.parts.now.history c.push.new.self (Write c.args.session c.args.cell c.args.value) c.args.parts.now.keys c.push.result c.push.ensures.ok c.push.ensures.err
      (keyed_write c.args.parts.now.history.initial c.args.parts.now.history.events c.args.session c.args.cell c.args.value c.args.parts.now.keys
      (kept_written c.args.parts.now.history.initial c.args.parts.now.history.events c.args.parts.now.keys c.args.cell c.requires.written.number c.requires.indexed.keys c.requires.written.written))
      c.requires.indexed.keys;
}
