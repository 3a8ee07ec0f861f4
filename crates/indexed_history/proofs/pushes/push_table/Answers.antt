use Rattle.std.proofs.Common.{ap}
use Rattle.history_core.specs.Chronicle.{Chronicle}
use Rattle.history_core.specs.declared.event.Event.TheVariants.{Define}
use Rattle.indexed_history.proofs.Cells.{on_ok}
use Rattle.indexed_history.proofs.Indexes.{indexed_either, indexed_define}
use Rattle.indexed_history.proofs.KeyLists.{keyed_defined}
use Rattle.indexed_history.proofs.pushes.push_table.Goals as goal

pub returns-clause-indexed : goal.returns-clause-indexed
returns-clause-indexed c = record {
  writers = indexed_either c.args.parts.now.history c.push_define.new.self (Define c.args.session c.args.table.name) c.args.parts.now.index c.push_define.result
      (on_ok _ _ c.push_define.result (λ is. ap (λ (h : Chronicle). h.events) is) c.push_define.ensures.ok) c.push_define.ensures.err
      (indexed_define c.args.parts.now.history.events c.args.session c.args.table.name c.args.parts.now.index) c.requires.indexed.writers;
  keys = keyed_defined c.args.parts.now.history c.push_define.new.self c.args.session c.args.table c.args.parts.now.keys c.push_define.result c.push_define.ensures.ok
      c.push_define.ensures.err c.requires.indexed.keys;
}
