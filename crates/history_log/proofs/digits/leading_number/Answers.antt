use Rattle.std.proofs.Common.{arith}
use Rattle.std.proofs.lemmas.Bool.Decides.{nat_tests}
use Rattle.history_log.proofs.DigitLemmas.{first_digit, after_digits, digit_taken}
use Rattle.history_log.proofs.digits.leading_number.Goals as goal

pub returns-then-number-eq0 : goal.returns-then-number-eq0
returns-then-number-eq0 c = (
  let h = c.in_ok-number.ensures.0 in omega arith,
  after_digits c.args.text.now 1 c.in_ok-number.number (first_digit c.args.text.now c.in_ok-number.number c.in_ok-number.ensures.0 c.in_ok-number.ensures.1),
)

pub loop-digit-init : goal.loop-digit-init
loop-digit-init c = record {
  positive = let none = c.if-number-eq0.false in omega arith;
  small = let h = c.in_ok-number.ensures.0 in omega arith;
  spelled = after_digits c.args.text.now 1 c.in_ok-number.number (first_digit c.args.text.now c.in_ok-number.number c.in_ok-number.ensures.0 c.in_ok-number.ensures.1);
}

pub loop-digit-preserved : goal.loop-digit-preserved
loop-digit-preserved c = record {
  positive = c.in_ok-number-2.ensures.more.0;
  small = c.in_ok-number-2.ensures.more.1;
  spelled = digit_taken c.args.text.now c.loop-digit.rest.now c.loop-digit.number c.in_ok-number-2.number c.in-Some.digit
      (let some = c.loop-digit-test.ensures in grind (arith, nat_tests)) c.in-Some.ensures.1
      c.in_ok-number-2.ensures.spelled c.loop-digit.invariant.spelled;
}
