use Rattle.std.proofs.Common.{◌<◌, length, ap, arith, length-append}
use Rattle.std.specs.Prelude.{flat_map}
use Rattle.std.proofs.lemmas.List.Folds.{length-flat_map-take}
use Rattle.cell_base.specs.declared.value.Value.{Value}
use Rattle.pg_framing.specs.Replies.{two_bytes, value_bytes}
use Rattle.pg_framing.proofs.rows.append_data_row.Goals as goal

pub append_value-requires : goal.append_value-requires
append_value-requires c =
    let at : c.loop-value.value-index < length c.args.values.now = omega arith in
    let within = length-flat_map-take value_bytes c.args.values.now c.loop-value.value-index c.value-item.result at in
    let same = ap (λ (value : Value). length (value_bytes value)) c.value-item.is in
    omega (arith, within, same, c.requires.fits, length-append (two_bytes (length c.args.values.now)) (flat_map value_bytes c.args.values.now))
