use Rattle.std.proofs.Common.{◌≡◌, map}
use Rattle.std.specs.Vec.Iter.{into_iter_items}
use Rattle.typing_rules.specs.Outcome.{all_of}
use Rattle.typing_rules.specs.Expressions.{member}
use Rattle.typing_rules.proofs.Lists.{with_rest}
use Rattle.expr_typing.proofs.combine.members_of.Given as goal

abbrev pub invariant-loop-form : goal.invariant-loop-form
invariant-loop-form l = with_rest (member l.kind) l.members (into_iter_items l.form-iterator) ≡ all_of (map (member l.kind) l.fn.forms)
