use Rattle.bit_rows.proofs.Runs.{mask_is, mask_order}
use Rattle.bit_rows.proofs.marking.mask.Goals as goal

pub overflow_sub-result-3 : goal.overflow_sub-result-3
overflow_sub-result-3 c = mask_order c.args.low c.args.high c.requires.low c.requires.high

pub returns : goal.returns
returns c = mask_is c.args.low c.args.high c.requires.low c.requires.high
