use Rattle.std.proofs.Common.{◌≡◌, ◌-◌, length}
use Rattle.sql_grammar.specs.Steps.{repeat_from}
use Rattle.sql_parser.proofs.parts.repeat.Given as goal

abbrev pub invariant-loop-turn : goal.invariant-loop-turn
invariant-loop-turn g l =
    repeat_from g.N.Next.begins g.N.Next.reading (length l.fn.tokens) l.fn.found l.fn.tokens
    ≡ repeat_from g.N.Next.begins g.N.Next.reading (l._turn-end - l._turn) l.found l.tokens
