-- What is left to show of `words_of`.
use Rattle.std.proofs.Common.{refl}
use Rattle.command_line.proofs.Words.{lists_at_comma, lists_last, lists_more}
use Rattle.command_line.proofs.number_lists.words_of.Goals as goal

pub returns-in_default-word-clause-none : goal.returns-in_default-word-clause-none
returns-in_default-word-clause-none c = λ _ words h.
    let at = c.loop-front in
    let got = c.in-Some in
    let r = at.invariant.left words h in
    let parts = lists_at_comma at.rest.now got.front.now got.after.now r.0 got.ensures.some got.ensures.no_comma r.1 in
    c.in_default-word.ensures.none refl parts.0.0 parts.0.1

pub loop-front-preserved : goal.loop-front-preserved
loop-front-preserved c =
    let at = c.loop-front in
    let got = c.in-Some in
    record {
      read = rw c.in_ok-push.ensures.ok
          (lists_more c.args.text.now at.words at.rest.now got.front.now got.after.now _ at.invariant.read got.ensures.some c.in-Some-word.ensures.some);
      left = λ list h.
          let r = at.invariant.left list h in
          (lists_at_comma at.rest.now got.front.now got.after.now r.0 got.ensures.some got.ensures.no_comma r.1).1;
    }

pub returns-in_default-word-2-clause-none : goal.returns-in_default-word-2-clause-none
returns-in_default-word-2-clause-none c = λ _ words h.
    let at = c.loop-front in
    let r = at.invariant.left words h in
    let word = lists_last at.rest.now r.0 (c.in_default.ensures.none refl) r.1 in
    c.in_default-word-2.ensures.none refl word.0 word.1
