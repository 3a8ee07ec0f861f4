use Rattle.std.proofs.Common.{◌≡◌, [], ◌++◌, length, Ok, sym, ap, arith}
use Rattle.typing_rules.specs.Building.{key_of, marked}
use Rattle.table_schema.proofs.ColumnLists.{as_many}
use Rattle.table_schema.proofs.KeyNames.{key_within}
use Rattle.table_schema.proofs.building.build.Goals as goal

pub key_of-requires : goal.key_of-requires
key_of-requires c =
    let many : length c.in_ok-columns.columns ≡ length c.as_slice.result.now = as_many [] c.as_slice.result.now c.in_ok-columns.columns c.in_ok-columns.ensures in
    omega (arith, ap length c.as_slice.ensures, ap length c.as_slice-2.ensures)

pub checks_of-requires-clause-narrow : goal.checks_of-requires-clause-narrow
checks_of-requires-clause-narrow c =
    let many : length c.in_ok-columns.columns ≡ length c.as_slice.result.now = as_many [] c.as_slice.result.now c.in_ok-columns.columns c.in_ok-columns.ensures in
    omega (arith, ap length c.as_slice.ensures)

pub finished-requires : goal.finished-requires
finished-requires c =
    let found : key_of c.as_slice-2.result.now (marked c.args.create.now.columns ++ c.args.create.now.keys) ≡ Ok c.in_ok-key.key = sym c.in_ok-key.ensures in
    omega (arith, ap length c.as_slice-2.ensures, key_within c.as_slice-2.result.now (marked c.args.create.now.columns ++ c.args.create.now.keys) c.in_ok-key.key found)
