-- The expressions that are left decide.
use Rattle.std.proofs.Common.{◌≡◌, drop}
use Rattle.std.specs.List.{list_any}
use Rattle.typing_rules.specs.Mentions as spec
use Rattle.row_writes.proofs.mentions.+mentions.Given as goal

abbrev pub invariant-any_mentions-loop-expr : goal.invariant-any_mentions-loop-expr
invariant-any_mentions-loop-expr l = list_any (spec.mentions 0 l.column) (drop l.expr-index l.exprs) ≡ list_any (spec.mentions 0 l.column) l.exprs
