use Rattle.std.proofs.Common.{◌≡◌, drop}
use Rattle.typing_rules.specs.Expressions.{first_kind}
use Rattle.expr_typing.proofs.combine.first_kind.Given as goal

abbrev pub invariant-loop-member : goal.invariant-loop-member
invariant-loop-member l = first_kind (drop l.member-index l.members) ≡ first_kind l.members
