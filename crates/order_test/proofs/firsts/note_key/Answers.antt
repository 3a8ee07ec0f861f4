use Rattle.std.proofs.Common.{ℕ, List, Option, ap, refl, subst}
use Rattle.std.specs.Option.{IsSome}
use Rattle.std.proofs.lemmas.Result.{on_ok_weaker}
use Rattle.cell_base.specs.declared.key.Key.{Key}
use Rattle.order_test.proofs.FirstLemmas.{same_rising, put_rising, put_has, push_rises, pushed_has}
use Rattle.order_test.proofs.firsts.note_key.Goals as goal

pub returns-in-Some-clause-rising : goal.returns-in-Some-clause-rising
returns-in-Some-clause-rising c = λ rising.
    put_rising c.args.firsts.now (record { alloc = c.args.firsts.now.alloc; tables = c.get_mut.follows.lender c.push.new.self }) c.args.table c.push.new.self
    ((c.get_mut.follows.holds c.push.new.self).3 (subst (λ (o : Option (List (ℕ × Key))). IsSome o) c.in-Some.ensures.value refl)).0 c.args.number rising
    (push_rises c.push.result c.args.firsts.now c.args.table c.in-Some.list.now c.push.new.self c.args.key c.args.number c.in-Some.ensures.value c.push.ensures.ok c.push.ensures.err rising)

pub returns-in-None-clause-rising : goal.returns-in-None-clause-rising
returns-in-None-clause-rising c = λ rising.
    c.start_key.ensures.rising
    (same_rising c.args.firsts.now (record { alloc = c.args.firsts.now.alloc; tables = c.get_mut.follows.lender-at-none }) (ap (λ m. m.entries) c.get_mut.follows.holds-at-none) c.args.number rising)

pub returns-in-Some-clause-noted : goal.returns-in-Some-clause-noted
returns-in-Some-clause-noted c =
    on_ok_weaker c.push.result
    (λ pushed. put_has c.args.firsts.now (record { alloc = c.args.firsts.now.alloc; tables = c.get_mut.follows.lender c.push.new.self }) c.args.table c.push.new.self
    ((c.get_mut.follows.holds c.push.new.self).3 (subst (λ (o : Option (List (ℕ × Key))). IsSome o) c.in-Some.ensures.value refl)).0 c.args.key c.args.number
    (pushed_has c.in-Some.list.now c.push.new.self c.args.key c.args.number pushed))
    c.push.ensures.ok
