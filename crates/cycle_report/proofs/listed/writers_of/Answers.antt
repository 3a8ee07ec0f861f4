use Rattle.std.proofs.Common.{◌≡◌, ℕ, length, arith, subst}
use Rattle.cycle_report.specs.Listed.{ListWriters}
use Rattle.cycle_report.proofs.ListLemmas.{list_none}
use Rattle.cycle_report.proofs.listed.writers_of.Goals as goal

pub loop-at-init : goal.loop-at-init
loop-at-init c = list_none c.args.txns.now c.new_writers-writers.result c.new_writers-writers.ensures

pub returns : goal.returns
returns c =
    let end : c.loop-at.at ≡ length c.args.txns.now = let within = c.loop-at.auto.at-end in let stop = c.loop-at-test.false in omega arith in
    subst (λ (n : ℕ). ListWriters c.args.txns.now n c.loop-at.writers) end c.loop-at.invariant
