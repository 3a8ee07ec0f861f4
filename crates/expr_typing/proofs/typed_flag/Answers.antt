use Rattle.std.proofs.Common.{◌≡◌, rules, arith, Ok, subst}
use Rattle.std.proofs.lemmas.Grind.{common_steps}
use Rattle.typing_rules.specs.Expressions.{flag}
use Rattle.typing_rules.specs.Sound.{Holds, IsCondition, column_types}
use Rattle.typing_rules.proofs.Sound.{flag_sound}
use Rattle.expr_typing.specs.Scope.{sources}
use Rattle.expr_typing.proofs.typed_flag.Goals as goal

pub returns-clause-sound : goal.returns-clause-sound
unfolding flag
returns-clause-sound c =
    let is : flag (sources c.args.scope.now) c.args.expr.now ≡ Ok c.in_ok-condition.field-0 = first_of (search rules, grind (arith, common_steps)) in
    subst (Holds (IsCondition (column_types (sources c.args.scope.now)))) is (flag_sound (sources c.args.scope.now) c.args.expr.now)
