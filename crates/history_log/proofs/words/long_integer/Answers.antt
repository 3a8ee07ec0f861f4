use Rattle.std.proofs.Common.{◌≡◌, ℤ, sym, ◌∙◌, ap, w64, to_z, of_z}
use Rattle.std.specs.Cmp.Lexicographic.{other_text}
use Rattle.std.proofs.lemmas.Int.{to_z-of_z}
use Rattle.std.specs.Fmt.{signed_decimal}
use Rattle.history_log.specs.Reading.{IsI64}
use Rattle.history_log.proofs.Spelled.{integer_utf8, integer_parsed}
use Rattle.history_log.proofs.words.long_integer.Goals as goal

integer_again : (n x : ℤ) → n ≡ x → IsI64 x → signed_decimal (to_z w64 (of_z w64 n)) ≡ signed_decimal x
integer_again n x e fits = rw e (ap signed_decimal (to_z-of_z w64 x fits))

pub returns-in_default : goal.returns-in_default
returns-in_default c = λ x is. c.in_default.ensures.cases.0 (integer_utf8 x _ is)

pub returns-in_default-parse : goal.returns-in_default-parse
returns-in_default-parse c = λ x is. c.in_default-parse.not-Ok x (integer_parsed x c.args.word.now c.in-Ok.text.now _ is c.in-Ok.ensures.cases.0 c.parse.ensures.value.0)

pub returns-else-eq : goal.returns-else-eq
returns-else-eq c = λ x is.
    let same = integer_parsed x c.args.word.now c.in-Ok.text.now _ is c.in-Ok.ensures.cases.0 c.parse.ensures.value.0 in
    other_text c.as_bytes.result.now c.args.word.now (sym c.if-eq.false ∙ c.eq.ensures)
    (c.as_bytes.ensures.value ∙ c.format.ensures.text ∙ integer_again c.in-Ok-parse.n x (cc) is.0 ∙ sym is.1)
