use Rattle.std.proofs.Common.{ℕ, List, length, arith, ap, subst}
use Rattle.right_logs.specs.Clocks.{RaisesAll}
use Rattle.right_logs.proofs.ClockLemmas.{clock_taken}
use Rattle.right_logs.proofs.txn_notes.take_in.Goals as goal

pub raise_all-requires : goal.raise_all-requires
raise_all-requires c =
    let value = ap length c.deref.ensures.value in
    let len = c.len.ensures in
    let long = c.args.source.now.clock.ok.0 in
    let top = c.max.ensures in
    let wide = c.in_ok-widen.ensures.wide in omega arith

pub raise-requires : goal.raise-requires
raise-requires c =
    let top = c.max.ensures in
    let wide = c.in_ok-widen.ensures.wide in
    let count = c.raise_all.ensures.count in omega arith

pub returns : goal.returns
returns c =
    clock_taken c.args.number c.args.source.now c.args.clock.now.items c.widen.new.clock.items c.raise_all.new.clock.items c.raise.new.clock.items c.in_ok-widen.ensures.same
    (subst (λ (ys : List ℕ). RaisesAll ys c.widen.new.clock.items c.raise_all.new.clock.items) c.deref.ensures.value c.raise_all.ensures.raises) c.raise.ensures
