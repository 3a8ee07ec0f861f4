-- The bytes of each kind of value.
use Rattle.std.proofs.Common.{◌≡◌, ◌+◌, length, ap, sym, ◌∙◌, rules}
use Rattle.std.specs.Fmt.{signed_decimal}
use Rattle.row_assembly.proofs.Sizes.{size, null_size, unset_size, flag_size, int_size, wide_size, text_size}
use Rattle.row_assembly.proofs.limit.value_len.Goals as goal

pub returns-in-Flag : goal.returns-in-Flag
returns-in-Flag c = flag_size c.in-Flag.field-0 ∙ ap size (sym c.in-Flag.is)

pub returns-in-Int : goal.returns-in-Int
returns-in-Int c =
    let text : c.format.result.now ≡ signed_decimal c.in-Int.n = search rules in
    ap (λ t. 4 + length t) text ∙ int_size c.in-Int.n ∙ ap size (sym c.in-Int.is)

pub returns-in-Wide : goal.returns-in-Wide
returns-in-Wide c =
    let text : c.format-in-Wide.result.now ≡ signed_decimal c.in-Wide.n = search rules in
    ap (λ t. 4 + length t) text ∙ wide_size c.in-Wide.n ∙ ap size (sym c.in-Wide.is)

pub returns-in-Text : goal.returns-in-Text
returns-in-Text c = ap (λ text. 4 + length text) c.bytes.ensures.value ∙ text_size c.in-Text.text ∙ ap size (sym c.in-Text.is)

pub returns-in-Unset : goal.returns-in-Unset
returns-in-Unset c = unset_size ∙ ap size (sym c.in-Unset.is)

pub returns-in-Null : goal.returns-in-Null
returns-in-Null c = null_size ∙ ap size (sym c.in-Null.is)
