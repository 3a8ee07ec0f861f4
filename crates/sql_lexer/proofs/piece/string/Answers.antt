use Rattle.std.proofs.Common.{sym, ap, ◌∙◌, ◌-◌, false, length, drop, length-drop, arith}
use Rattle.std.proofs.lemmas.List.{take_all}
use Rattle.sql_lexer.specs.Scan.{closing}
use Rattle.sql_lexer.proofs.Utf8.{content_text}
use Rattle.sql_lexer.proofs.piece.string.Goals as goal

pub content-requires : goal.content-requires
content-requires c =
    let z = c.args.z.now in
    let whole = take_all (length z - 1) (drop 1 z) (omega (arith, length-drop 1 z)) in
    content_text 39 z c.in-Some.end (omega arith) (omega arith) c.requires.utf8 c.requires.quote (ap (λ y. closing 39 false 1 y) (sym whole) ∙ sym c.in-Some.ensures.value)
