use Rattle.std.proofs.Common.{◌≡◌, true, ◌∙◌}
use Rattle.sql_grammar.specs.Reading.{front}
use Rattle.sql_grammar.specs.Syntax.{kind}
use Rattle.sql_grammar.specs.Steps.{repeat_from}
use Rattle.sql_parser.proofs.Repeats.{one_turn}
use Rattle.sql_parser.proofs.Turns.{one_more}
use Rattle.sql_parser.proofs.parts.repeat.Goals as goal

pub loop-turn-preserved : goal.loop-turn-preserved
loop-turn-preserved g c =
    let begins = g.N.Next.begins in
    let reading = g.N.Next.reading in
    let e = one_more (λ n. repeat_from begins reading n c.loop-turn.found c.loop-turn.tokens) _ c.loop-turn._turn c.loop-turn-test.true c.loop-turn.invariant in
    let h : begins (kind (front c.loop-turn.tokens)) ≡ true = cc (c.is_next.ensures, c.if-not-is_next.false) in
    e ∙ one_turn begins reading _ c.loop-turn.found c.read.new.found c.loop-turn.tokens c.read.new.tokens h c.in_ok-read.ensures
