use Rattle.std.proofs.Common.{◌-◌, arith}
use Rattle.right_logs.proofs.JudgeLemmas.{clear_more, clear_all, clear_up_to}
use Rattle.right_logs.proofs.kept.has_no_unseen_rival.Goals as goal

pub loop-at-init : goal.loop-at-init
loop-at-init c = record {
  within = omega arith;
  clear = λ k low inside. absurd (omega arith);
}

pub returns-then-stand_up_to : goal.returns-then-stand_up_to
returns-then-stand_up_to c = λ h.
    let within = c.loop-at.invariant.within in
    let some = c.loop-at-test.true in
    clear_up_to c.args.places.now.at.items c.args.pass.now.highest.items c.deref.result.now c.args.pass.now c.args.own.now c.args.writers.now c.args.from (c.loop-at.at - 1)
    c.loop-at.at (omega arith) within c.requires.ascending c.requires.highest c.deref.ensures.value (c.stand_up_to.ensures c.if-stand_up_to.true) c.loop-at.invariant.clear

pub loop-at-preserved : goal.loop-at-preserved
loop-at-preserved c =
    let within = c.loop-at.invariant.within in
    let some = c.loop-at-test.true in
    record {
      within = omega arith;
      clear = clear_more c.args.places.now.at.items c.args.pass.now c.args.own.now c.args.writers.now c.args.from (c.loop-at.at - 1) c.loop-at.at (omega arith)
          (c.is_clear_of.ensures c.if-not-is_clear_of.false) c.loop-at.invariant.clear;
    }

pub returns : goal.returns
returns c = λ h.
    let stop = c.loop-at-test.false in
    clear_all c.args.places.now.at.items c.args.pass.now c.args.own.now c.args.writers.now c.args.from c.loop-at.at (omega arith) c.loop-at.invariant.clear
