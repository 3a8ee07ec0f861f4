use Rattle.std.proofs.Common.{refl, arith}
use Rattle.pg_framing.specs.Replies.{value_bytes}
use Rattle.pg_framing.proofs.Lengths.{length-one}
use Rattle.wire_cases.proofs.server.replies.append_row.Goals as goal

pub append_data_row-requires-clause-fits : goal.append_data_row-requires-clause-fits
append_data_row-requires-clause-fits c = omega (arith, length-one 1 (value_bytes c.args.value), c.if-not-is_small.ensures refl)
