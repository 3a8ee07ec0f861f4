use Rattle.std.proofs.Common.{◌≡◌, ◌∷◌, map, Ok, Err, rules, arith}
use Rattle.std.proofs.lemmas.Grind.{common_steps}
use Rattle.std.specs.Vec.Iter.{into_iter_items}
use Rattle.typing_rules.specs.Expressions.{member}
use Rattle.typing_rules.specs.Outcome.{all_of}
use Rattle.typing_rules.proofs.Lists.{more_is, fault_is}
use Rattle.expr_typing.proofs.combine.members_of.Goals as goal

pub loop-form-preserved : goal.loop-form-preserved
loop-form-preserved c =
    let left : into_iter_items c.loop-form.form-iterator ≡ c.in-Some.form ∷ into_iter_items c.next.new.self = search rules in
    let e : member c.args.kind c.in-Some.form ≡ Ok c.in_ok-member.field-0 = cc (c.in_ok-member.ensures) in
    rw c.in_ok-push.ensures.ok (more_is (member c.args.kind) c.in-Some.form (into_iter_items c.next.new.self) (into_iter_items c.loop-form.form-iterator) c.in_ok-member.field-0
    c.loop-form.members (all_of (map (member c.args.kind) c.args.forms)) left e c.loop-form.invariant)

pub returns-in_err-member : goal.returns-in_err-member
returns-in_err-member c =
    let left : into_iter_items c.loop-form.form-iterator ≡ c.in-Some.form ∷ into_iter_items c.next.new.self = search rules in
    let e : member c.args.kind c.in-Some.form ≡ Err c.in_err-member.field-0.0 = cc (c.in_err-member.ensures) in
    let whole : all_of (map (member c.args.kind) c.args.forms) ≡ Err c.in_err-member.field-0.0 = fault_is (member c.args.kind) c.in-Some.form (into_iter_items c.next.new.self) (into_iter_items c.loop-form.form-iterator) c.in_err-member.field-0.0
    c.loop-form.members (all_of (map (member c.args.kind) c.args.forms)) left e c.loop-form.invariant in
    first_of (search rules, grind (arith, common_steps))
