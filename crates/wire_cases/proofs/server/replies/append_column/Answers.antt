use Rattle.std.proofs.Common.{◌≡◌, ℕ, length, List, ap, arith}
use Rattle.sql_tree.specs.declared.table.OutField.{OutField}
use Rattle.pg_framing.specs.Replies.{field_bytes}
use Rattle.pg_framing.proofs.Lengths.{length-field_bytes, length-one}
use Rattle.wire_cases.proofs.server.replies.append_column.Goals as goal

pub append_row_description-requires-clause-fits : goal.append_row_description-requires-clause-fits
append_row_description-requires-clause-fits c =
    let field : OutField = record { name = c.in-Ok.name; kind = c.args.kind } in
    let name : length c.in-Ok.name ≡ 1 = ap (λ (x : List ℕ). length x) c.in-Ok.ensures.ok in
    omega (arith, length-one 1 (field_bytes field), length-field_bytes field, name)
