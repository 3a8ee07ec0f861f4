use Rattle.std.proofs.Common.{sym, ◌∙◌}
use Rattle.table_schema.proofs.Keyed.{keyed_after}
use Rattle.table_schema.proofs.building.keyed.Goals as goal

pub returns : goal.returns
returns c =
    c.from_vec.ensures
    ∙ sym (keyed_after c.args.key c.args.columns c.into_vec-columns.result.items c.index_mut.result.now c.into_vec-columns.ensures c.requires c.index_mut.ensures.value)
