use Rattle.std.proofs.Common.{arith}
use Rattle.right_logs.proofs.Texts.{said_log_by}
use Rattle.right_logs.proofs.text.glimpse_of.Goals as goal

pub returns : goal.returns
returns c =
    said_log_by c.in-Some-head_of.version c.in-Some-head_of.level c.args.bytes.now c.in-Some.first.now c.in-Some.rest.now c.says_rows.result c.glimpse_of_lines.result (omega arith)
    c.in-Some.ensures.some c.in-Some-head_of.ensures c.if-says_rows.false c.says_rows.ensures.1 c.glimpse_of_lines.ensures
