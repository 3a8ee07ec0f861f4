use Rattle.std.proofs.Common.{refl}
use Rattle.client_framing.proofs.PairLists.{no_pair_at_all, no_pair_after}
use Rattle.client_framing.proofs.pairs.pair_at.Goals as goal

pub returns-in_err-name-clause-none : goal.returns-in_err-name-clause-none
returns-in_err-name-clause-none c = λ _. no_pair_at_all c.args.bytes.now (c.in_err-name.ensures.none refl)

pub returns-in_err-value-clause-none : goal.returns-in_err-value-clause-none
returns-in_err-value-clause-none c = λ _. no_pair_after c.args.bytes.now c.in_ok-name.name.now c.in_ok-name.after.now c.in_ok-name.ensures.some c.in_ok-name.ensures.no_zero (c.in_err-value.ensures.none refl)
