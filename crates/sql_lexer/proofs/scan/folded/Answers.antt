use Rattle.std.proofs.Common.{◌≡◌, List, ℕ, ap, sym, ◌∙◌, subst, arith}
use Rattle.std.specs.Str.{IsUtf8}
use Rattle.std.proofs.lemmas.List.{take_all}
use Rattle.sql_lexer.specs.Bytes.{folded}
use Rattle.sql_lexer.proofs.Utf8.{folded_text}
use Rattle.sql_lexer.proofs.scan.folded.Goals as goal

pub text_of-requires : goal.text_of-requires
text_of-requires c =
    let P : List ℕ → Type 0 = λ y. IsUtf8 y in
    let z = c.args.z.now in
    let whole : c.deref.result.now ≡ folded z = c.deref.ensures.value ∙ c.loop-b.invariant ∙ ap folded (take_all c.loop-b.b-index z (omega arith)) in
    subst P (sym whole) (folded_text z c.requires)
