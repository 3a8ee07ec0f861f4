use Rattle.std.proofs.Common.{◌≡◌, rules, arith, sym, ◌∙◌, Ok}
use Rattle.std.proofs.lemmas.Grind.{common_steps}
use Rattle.typing_rules.specs.Literals.{whole, integer_of, within, with_sign}
use Rattle.expr_typing.proofs.Digits.{none_within, some_within, none_above}
use Rattle.expr_typing.proofs.literal.whole.Goals as goal

pub returns-in-None : goal.returns-in-None
unfolding whole
returns-in-None c = sym (none_within c.args.half (integer_of c.args.text.now) (sym c.in-None.is ∙ c.integer_of.ensures))

pub returns-in-Some : goal.returns-in-Some
unfolding whole
returns-in-Some c =
    let e : within c.args.half (integer_of c.args.text.now) ≡ Ok (with_sign c.in-Some.minus c.in-Some.number)
    = some_within c.args.half c.in-Some.number c.in-Some.minus (integer_of c.args.text.now) c.requires (sym c.in-Some.is ∙ c.integer_of.ensures) (rw (← c.most.ensures) c.if-number-most.true) in
    first_of (search (rules, e), grind (arith, common_steps, e))

pub returns-in-Some-2 : goal.returns-in-Some-2
unfolding whole
returns-in-Some-2 c =
    sym (none_above c.args.half c.in-Some.number c.in-Some.minus (integer_of c.args.text.now) c.requires (sym c.in-Some.is ∙ c.integer_of.ensures) (rw (← c.most.ensures) c.if-number-most.false))
