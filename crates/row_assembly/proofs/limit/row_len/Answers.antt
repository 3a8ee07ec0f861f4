-- All values are counted.
use Rattle.std.proofs.Common.{arith}
use Rattle.row_assembly.proofs.Sizes.{row_bytes}
use Rattle.row_assembly.proofs.limit.row_len.Goals as goal

pub returns : goal.returns
returns c = row_bytes c.args.row.now c.loop-value.value-index c.loop-value.bytes (omega arith) c.loop-value.invariant
