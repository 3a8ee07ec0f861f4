use Rattle.std.proofs.Common.{◌≡◌, ◌-◌, ap, ◌∙◌, rules, arith}
use Rattle.std.proofs.lemmas.Grind.{common_steps}
use Rattle.sql_grammar.specs.Reading.{and_then, read, chain_from}
use Rattle.sql_parser.specs.Levels.{level_of_chain, operand_of}
use Rattle.sql_parser.proofs.Turns.{one_more, none_left}
use Rattle.sql_parser.proofs.expr.chains.Links.read.Goals as goal

pub loop-turn-preserved : goal.loop-turn-preserved
unfolding chain_from
loop-turn-preserved g c =
    let grammar = c.args.self.now.grammar.now in
    let inner = read grammar.inner in
    let item = operand_of c.args.self.now.chain grammar.room inner in
    let e = one_more (λ n. chain_from grammar.room inner item (level_of_chain c.args.self.now.chain) n c.loop-turn.left c.loop-turn.tokens) _ c.loop-turn._turn c.loop-turn-test.true c.loop-turn.invariant in
    first_of (search rules, grind (arith, common_steps))

pub returns-in_default : goal.returns-in_default
unfolding chain_from
returns-in_default g c =
    let grammar = c.args.self.now.grammar.now in
    let inner = read grammar.inner in
    let item = operand_of c.args.self.now.chain grammar.room inner in
    let e = one_more (λ n. chain_from grammar.room inner item (level_of_chain c.args.self.now.chain) n c.loop-turn.left c.loop-turn.tokens) _ c.loop-turn._turn c.loop-turn-test.true c.loop-turn.invariant in
    first_of (search rules, grind (arith, common_steps))

pub returns-in_err-before : goal.returns-in_err-before
unfolding chain_from
returns-in_err-before g c =
    let grammar = c.args.self.now.grammar.now in
    let inner = read grammar.inner in
    let item = operand_of c.args.self.now.chain grammar.room inner in
    let e = one_more (λ n. chain_from grammar.room inner item (level_of_chain c.args.self.now.chain) n c.loop-turn.left c.loop-turn.tokens) _ c.loop-turn._turn c.loop-turn-test.true c.loop-turn.invariant in
    first_of (search rules, grind (arith, common_steps))

pub returns-in_err-left-2 : goal.returns-in_err-left-2
unfolding chain_from
returns-in_err-left-2 g c =
    let grammar = c.args.self.now.grammar.now in
    let inner = read grammar.inner in
    let item = operand_of c.args.self.now.chain grammar.room inner in
    let e = one_more (λ n. chain_from grammar.room inner item (level_of_chain c.args.self.now.chain) n c.loop-turn.left c.loop-turn.tokens) _ c.loop-turn._turn c.loop-turn-test.true c.loop-turn.invariant in
    first_of (search rules, grind (arith, common_steps))

pub loop-turn-init : goal.loop-turn-init
loop-turn-init g c =
    let grammar = c.args.self.now.grammar.now in
    let inner = read grammar.inner in
    let item = operand_of c.args.self.now.chain grammar.room inner in
    let level = level_of_chain c.args.self.now.chain in
    let all : grammar.room ≡ grammar.room - 0 = omega arith in
    ap (λ o. and_then o (λ x ts. chain_from grammar.room inner item level grammar.room x ts)) c.in_ok-left.ensures
    ∙ ap (λ n. chain_from grammar.room inner item level n c.in_ok-left.left c.next.new.tokens) all

pub returns : goal.returns
unfolding chain_from
returns g c =
    let grammar = c.args.self.now.grammar.now in
    let inner = read grammar.inner in
    let item = operand_of c.args.self.now.chain grammar.room inner in
    none_left (λ n. chain_from grammar.room inner item (level_of_chain c.args.self.now.chain) n c.loop-turn.left c.loop-turn.tokens) _ c.loop-turn._turn c.loop-turn-test.false c.loop-turn.invariant
