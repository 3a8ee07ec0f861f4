use Rattle.std.proofs.Common.{◌≡◌, ◌-◌}
use Rattle.sql_grammar.specs.Reading.{read, read_chain, chain_from}
use Rattle.sql_parser.specs.Levels.{level_of_chain, operand_of}
use Rattle.sql_parser.proofs.expr.chains.Links.read.Given as goal

abbrev pub invariant-loop-turn : goal.invariant-loop-turn
invariant-loop-turn g l =
    read_chain l.self.grammar.now.room (read l.self.grammar.now.inner) (operand_of l.self.chain l.self.grammar.now.room (read l.self.grammar.now.inner)) (level_of_chain l.self.chain) l.fn.tokens
    ≡ chain_from l.self.grammar.now.room (read l.self.grammar.now.inner) (operand_of l.self.chain l.self.grammar.now.room (read l.self.grammar.now.inner)) (level_of_chain l.self.chain) (l._turn-end - l._turn) l.left l.tokens
