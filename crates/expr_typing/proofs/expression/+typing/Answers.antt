use Rattle.std.proofs.Common.{List, Ok, rules, arith, ap, sym, subst, ◌∙◌}
use Rattle.std.proofs.lemmas.Grind.{common_steps}
use Rattle.std.specs.Prelude.{Result}
use Rattle.cell_base.specs.declared.sql_fault.SqlFault.{SqlFault}
use Rattle.typing_rules.specs.Gives.{Gives}
use Rattle.typing_rules.specs.declared.form.Form.{Form}
use Rattle.typing_rules.specs.Expressions.{typing, typings}
use Rattle.expr_typing.specs.Scope.{sources}
use Rattle.expr_typing.proofs.Lists.{typing_in, gives_in}
use Rattle.expr_typing.proofs.expression.+typing.Goals as goal

pub form-returns-in_err-left-in-In-2 : goal.form-returns-in_err-left-in-In-2
form-returns-in_err-left-in-In-2 t c =
    let e = typing_in (sources c.args.scope.now) c.args.place c.in-In.left c.in-In.members c.in-In.negated in
    let members = subst (λ (r : Result (List Form) SqlFault). Gives (typings (sources c.args.scope.now) c.in-In.members c.args.place) r) c.in_err-left-in-In-2.ensures.refused (rw c.as_slice.ensures at c.forms-members.ensures) in
    rw c.in-In.is (rw e (first_of (search rules, grind (arith, common_steps))))

pub form-returns-in_ok-left-in-In-2 : goal.form-returns-in_ok-left-in-In-2
form-returns-in_ok-left-in-In-2 t c =
    let e = typing_in (sources c.args.scope.now) c.args.place c.in-In.left c.in-In.members c.in-In.negated in
    let members = subst (λ (r : Result (List Form) SqlFault). Gives (typings (sources c.args.scope.now) c.in-In.members c.args.place) r) c.in_ok-left-in-In-2.ensures.taken (rw c.as_slice.ensures at c.forms-members.ensures) in
    rw c.in-In.is (rw e (gives_in (typing (sources c.args.scope.now) c.in-In.left c.args.place) (typings (sources c.args.scope.now) c.in-In.members c.args.place)
    c.in_ok-left-in-In-2.left c.in_ok-left-in-In-2.members c.in-In.negated c.among.result
    ((rw c.get-in-In.ensures at c.in_ok-left-in-In.ensures) ∙ ap (λ (x : Form). Ok x) (sym c.in_ok-left-in-In-2.ensures.same)) members c.among.ensures))
