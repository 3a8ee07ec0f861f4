use Rattle.std.proofs.Common.{ap}
use Rattle.history_core.specs.Chronicle.{Chronicle}
use Rattle.indexed_history.proofs.Cells.{on_ok}
use Rattle.indexed_history.proofs.Indexes.{indexed_either, indexed_plain}
use Rattle.indexed_history.proofs.KeyLists.{keyed_either, keyed_other}
use Rattle.indexed_history.proofs.pushes.push_plain.Goals as goal

pub returns-clause-indexed : goal.returns-clause-indexed
returns-clause-indexed c = record {
  writers = indexed_either c.args.parts.now.history c.push.new.self c.args.event c.args.parts.now.index c.push.result
      (on_ok _ _ c.push.result (λ is. ap (λ (h : Chronicle). h.events) is) c.push.ensures.ok) c.push.ensures.err
      (indexed_plain c.args.parts.now.history.events c.args.event c.args.parts.now.index c.requires.plain) c.requires.indexed.writers;
  keys = keyed_either c.args.parts.now.history c.push.new.self c.args.event c.args.parts.now.keys c.push.result c.push.ensures.ok c.push.ensures.err
      (keyed_other c.args.parts.now.history.initial c.args.parts.now.history.events c.args.event c.args.parts.now.keys c.requires.plain) c.requires.indexed.keys;
}
