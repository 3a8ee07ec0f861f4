use Rattle.std.proofs.Common.{◌≡◌, sym, ◌∙◌, ap, decimal}
use Rattle.std.specs.Cmp.Lexicographic.{other_text}
use Rattle.history_log.proofs.Spelled.{number_utf8, number_parsed}
use Rattle.history_log.proofs.words.long_number.Goals as goal

pub returns-in_default : goal.returns-in_default
returns-in_default c = λ x is. c.in_default.ensures.cases.0 (number_utf8 x _ is)

pub returns-in_default-parse : goal.returns-in_default-parse
returns-in_default-parse c = λ x is. c.in_default-parse.not-Ok x (number_parsed x c.args.word.now c.in-Ok.text.now _ is c.in-Ok.ensures.cases.0 c.parse.ensures.value.0)

pub returns-else-eq : goal.returns-else-eq
returns-else-eq c = λ x is.
    let same = number_parsed x c.args.word.now c.in-Ok.text.now _ is c.in-Ok.ensures.cases.0 c.parse.ensures.value.0 in
    other_text c.as_bytes.result.now c.args.word.now (sym c.if-eq.false ∙ c.eq.ensures)
    (c.as_bytes.ensures.value ∙ c.format.ensures.text ∙ (let e : c.in-Ok-parse.n ≡ x = cc in ap decimal e) ∙ sym is.1)
