use Rattle.std.proofs.Common.{◌≡◌, sym, ◌∙◌, ap}
use Rattle.std.specs.Cmp.Lexicographic.{same_text}
use Rattle.hex.specs.Hex.{encode_lower}
use Rattle.history_log.proofs.Spelled.{hex_differs, misread_hex, decoded_bytes}
use Rattle.history_log.proofs.words.hex_bytes.Goals as goal

pub returns-in_err-bytes : goal.returns-in_err-bytes
returns-in_err-bytes c = misread_hex _ _ _ c.from_residual.ensures.1 c.in_err-bytes.ensures.err

pub returns-then-eq : goal.returns-then-eq
returns-then-eq c =
    let spelled : c.args.digits.now ≡ encode_lower c.in_ok-bytes.bytes.items =
    sym (same_text c.as_bytes.result.now c.args.digits.now (sym c.if-eq.true ∙ c.eq.ensures)) ∙ c.as_bytes.ensures.value ∙ c.in_ok-again.ensures ∙ ap encode_lower c.as_slice.ensures.value in
    decoded_bytes _ _ _ c.from_vec.ensures c.in_ok-bytes.ensures.ok spelled

pub returns-else-eq : goal.returns-else-eq
returns-else-eq c = λ x is. hex_differs x c.args.digits.now c.in_ok-bytes.bytes.items c.as_bytes.result.now _ is c.in_ok-bytes.ensures.ok (c.as_bytes.ensures.value ∙ c.in_ok-again.ensures ∙ ap encode_lower c.as_slice.ensures.value) c.eq.ensures c.if-eq.false
