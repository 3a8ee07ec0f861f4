-- The row of a SHOW fits its messages.
use Rattle.std.proofs.Common.{◌≡◌, ◌≤◌, ◌+◌, ℕ, List, [], ◌∷◌, ◌++◌, length, refl, arith, length-append}
use Rattle.std.specs.Prelude.{flat_map}
use Rattle.cell_base.specs.declared.value.Value.TheVariants as values
use Rattle.sql_tree.specs.declared.table.OutField.{OutField}
use Rattle.pg_framing.specs.Replies.{two_bytes, field_bytes, value_bytes, FitsMessage}
use Rattle.pg_framing.proofs.Numbers.{length-four_bytes}
use Rattle.pg_framing.proofs.Lengths.{length-field_bytes, length-one}

pub field_fits : (field : OutField) → length field.name ≤ 64 → FitsMessage (two_bytes (length (field ∷ [])) ++ flat_map field_bytes (field ∷ []))
field_fits field few = omega (arith, length-one (length (field ∷ [])) (field_bytes field), length-field_bytes field)

length-text : (text : List ℕ) → length (value_bytes (values.Text text)) ≡ 4 + length text
unfolding value_bytes
length-text text = simp (length-append, length-four_bytes) refl

pub text_fits : (text : List ℕ) → length text ≤ 64 → FitsMessage (two_bytes (length (values.Text text ∷ [])) ++ flat_map value_bytes (values.Text text ∷ []))
text_fits text few = omega (arith, length-one (length (values.Text text ∷ [])) (value_bytes (values.Text text)), length-text text)
