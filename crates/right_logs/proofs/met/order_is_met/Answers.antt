use Rattle.std.proofs.Common.{arith}
use Rattle.right_logs.proofs.MetLemmas.{meets_from_notes}
use Rattle.right_logs.proofs.met.order_is_met.Goals as goal

pub returns : goal.returns
returns c = λ met order events holds stands.
    meets_from_notes order c.args.places.now.at.items events c.args.pass.now (omega arith) c.if-not-pass.false (c.all_are_kept.ensures met) holds stands
