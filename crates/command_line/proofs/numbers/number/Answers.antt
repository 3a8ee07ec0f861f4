-- What is left to show of `number`.
use Rattle.std.proofs.Common.{◌<◌, ◌≤◌, ◌≡◌, ℕ, List, [], ◌∷◌, length, ◌==◌, true, false, arith, refl, ◌∙◌}
use Rattle.command_line.proofs.Digits.{value_more}
use Rattle.command_line.proofs.Words.{each_more, no_word, word_whole}
use Rattle.command_line.proofs.numbers.number.Goals as goal

is_some : (xs : List ℕ) → false ≡ (length xs == 0) → 0 < length xs
is_some [] h = let f : false ≡ true = h in absurd (cc)
is_some (x ∷ xs) h = omega arith

pub returns-in_err-number-clause-none : goal.returns-in_err-number-clause-none
returns-in_err-number-clause-none c = λ _ n is.
    let in_range : c.loop-digit.digit-index < length c.args.part.now = omega arith in
    no_word 18446744073709551616 c.args.part.now c.loop-digit.digit-index c.loop-digit.number in_range c.loop-digit.invariant.value (c.in_err-number.ensures.none refl) n is

pub loop-digit-preserved : goal.loop-digit-preserved
loop-digit-preserved c =
    let in_range : c.loop-digit.digit-index < length c.args.part.now = omega arith in
    record {
      value = c.in_ok-number.ensures.some ∙ value_more c.args.part.now c.loop-digit.digit-index c.loop-digit.number in_range c.loop-digit.invariant.value;
      each = each_more c.args.part.now c.loop-digit.digit-index in_range c.loop-digit.invariant.each c.in_ok-number.ensures.digit;
      bounded = c.in_ok-number.ensures.bounded;
    }

pub returns-clause-some : goal.returns-clause-some
returns-clause-some c =
    let some : 0 < length c.args.part.now = is_some c.args.part.now c.if-is_empty.ensures in
    let end : length c.args.part.now ≤ c.loop-digit.digit-index = omega arith in
    word_whole 18446744073709551616 c.args.part.now c.loop-digit.digit-index c.loop-digit.number some end c.loop-digit.invariant.value c.loop-digit.invariant.each c.loop-digit.invariant.bounded
