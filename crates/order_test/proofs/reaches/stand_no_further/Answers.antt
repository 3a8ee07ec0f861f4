use Rattle.std.proofs.Common.{◌+◌, ◌-◌, arith, get_or, refl}
use Rattle.std.proofs.lemmas.Bool.{leb-true}
use Rattle.indexed_history.proofs.Ascending.{found_ok, found_err}
use Rattle.order_test.proofs.ReachLemmas.{no_further_at, no_further_before}
use Rattle.order_test.proofs.reaches.stand_no_further.Goals as goal

pub returns-in-Ok : goal.returns-in-Ok
returns-in-Ok c = λ h.
    let at = found_ok c.args.numbers.now c.args.numbers.now c.args.limit c.in-Ok.at c.binary_search.result refl c.requires.ascending c.binary_search.ensures.position c.in-Ok.is in
    no_further_at c.args.places.now.at.items c.args.numbers.now c.args.highest.now c.args.start c.args.limit c.args.from c.in-Ok.at c.requires.ascending c.requires.reach at.0 at.1
    (let place = c.place_at-place.ensures in
    let less = leb-true (get_or c.args.highest.now (c.args.start + c.in-Ok.at) 0) c.place_at-place.result h in omega arith)

pub returns-then-at-eq0 : goal.returns-then-at-eq0
returns-then-at-eq0 c = λ h.
    let at = found_err c.args.numbers.now c.args.numbers.now c.args.limit c.in-Err.at c.binary_search.result refl c.requires.ascending c.binary_search.ensures.position c.in-Err.is in
    no_further_before c.args.places.now.at.items c.args.numbers.now c.args.highest.now c.args.start c.args.limit c.args.from c.in-Err.at c.requires.reach at.0 at.2
    (λ positive. let none = c.if-at-eq0.true in absurd (omega arith))

pub returns-else-at-eq0 : goal.returns-else-at-eq0
returns-else-at-eq0 c = λ h.
    let at = found_err c.args.numbers.now c.args.numbers.now c.args.limit c.in-Err.at c.binary_search.result refl c.requires.ascending c.binary_search.ensures.position c.in-Err.is in
    no_further_before c.args.places.now.at.items c.args.numbers.now c.args.highest.now c.args.start c.args.limit c.args.from c.in-Err.at c.requires.reach at.0 at.2
    (λ positive.
    let place = c.place_at-place.ensures in
    let less = leb-true (get_or c.args.highest.now (c.args.start + c.in-Err.at - 1) 0) c.place_at-place.result h in omega arith)
