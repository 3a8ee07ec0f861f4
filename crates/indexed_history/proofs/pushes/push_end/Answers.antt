use Rattle.std.proofs.Common.{sym, subst}
use Rattle.history_core.specs.Chronicle.{Chronicle}
use Rattle.indexed_history.specs.Index.{IsIndex}
use Rattle.indexed_history.specs.Keys.{IsKeyIndex}
use Rattle.indexed_history.proofs.KeyLists.{keyed_end}
use Rattle.indexed_history.proofs.pushes.push_end.Goals as goal

pub returns-clause-indexed : goal.returns-clause-indexed
returns-clause-indexed c = record {
  writers = subst (λ (h : Chronicle). IsIndex h.events c.forget_ended.new.index) (sym c.end.ensures) c.forget_ended.ensures;
  keys = subst (λ (h : Chronicle). IsKeyIndex h.initial h.events c.args.parts.now.keys) (sym c.end.ensures)
      (keyed_end c.args.parts.now.history.initial c.args.parts.now.history.events c.args.event c.args.parts.now.keys c.requires.end c.requires.indexed.keys);
}
