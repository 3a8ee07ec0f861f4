use Rattle.std.proofs.Common.{◌≡◌, ◌≤◌, ◌++◌, length, Err, rules}
use Rattle.cell_base.specs.declared.sql_state.SqlState.TheVariants.{S0A000}
use Rattle.typing_rules.specs.Building.{key_of, marked}
use Rattle.table_schema.proofs.KeyNames.{many_marked}
use Rattle.table_schema.proofs.keys.key_of.Goals as goal

pub returns-in_err-marked : goal.returns-in_err-marked
returns-in_err-marked c =
    let two : 2 ≤ length (marked c.args.create.now.columns) = rw c.as_slice.ensures at c.in_err-marked.ensures.many.1 in
    let none : key_of c.args.columns.now (marked c.args.create.now.columns ++ c.args.create.now.keys) ≡ Err S0A000 =
    many_marked c.args.columns.now (marked c.args.create.now.columns) c.args.create.now.keys two in
    let code : c.in_err-marked.field-0.0 ≡ S0A000 = c.in_err-marked.ensures.many.0 in
    rw none (search rules)
