use Rattle.std.proofs.Common.{eqb, arith}
use Rattle.std.proofs.lemmas.Bool.{ltb-true, eqb-false, not-true}
use Rattle.right_logs.proofs.JudgeLemmas.{unseen_rc, unseen_ra, unseen_cc}
use Rattle.right_logs.proofs.kept.is_unseen.Goals as goal

pub returns-in-Rc : goal.returns-in-Rc
returns-in-Rc c = λ h. unseen_rc c.args.own.now c.args.writer.now c.args.number c.in-Rc.is

pub returns-in-Ra : goal.returns-in-Ra
returns-in-Ra c = λ h.
    unseen_ra c.args.own.now c.args.writer.now c.args.number c.in-Ra.is
    (eqb-false c.args.writer.now.session c.args.own.now.session (not-true (eqb c.args.writer.now.session c.args.own.now.session) h))

pub returns-in-Cc : goal.returns-in-Cc
returns-in-Cc c = λ h.
    let value = rw c.deref.ensures.value at c.number_in.ensures in
    let less = ltb-true c.number_in.result c.args.number h in
    unseen_cc c.args.own.now c.args.writer.now c.args.number c.in-Cc.is (omega arith)
