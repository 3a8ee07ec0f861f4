use Rattle.std.proofs.Common.{inl}
use Rattle.right_logs.proofs.accesses.gives_value.Goals as goal

pub returns-then-source-eq0 : goal.returns-then-source-eq0
returns-then-source-eq0 c = λ absent. inl (c.if-source-eq0.true, c.is_absent_value.ensures.0 absent)
