use Rattle.std.proofs.Common.{◌≡◌, Some, ap, sym, ◌∙◌}
use Rattle.std.specs.List.{slice_get}
use Rattle.std.proofs.lemmas.Option.{slice_get_within, get_or_from_slice_get}
use Rattle.sql_tree.specs.declared.statement.Statement.{Statement}
use Rattle.sql_tree.specs.declared.statement.Statement.TheVariants.{Create}
use Rattle.created_tables.proofs.first_table.Goals as goal

pub returns : goal.returns
returns c =
    let created : Statement = Create c.in-Some-Create.create in
    let first : slice_get c.args.list.now 0 ≡ Some created = sym c.in-Some-Create.ensures.value ∙ ap (λ (x : Statement). Some x) c.in-Some-Create.field-0-is in
    c.built_is_sound.ensures c.args._text.now c.args.list.now c.in-Some-Create.create c.in-Ok.table c.requires.plain c.requires.list
    (0, slice_get_within c.args.list.now 0 created first, get_or_from_slice_get c.args.list.now 0 created created first)
    c.in-Ok.ensures
