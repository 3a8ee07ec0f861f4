use Rattle.std.proofs.Common.{◌≡◌, ◌-◌, true, false, ◌||◌, ◌==◌, nat_le, length, take, drop, chars, sym, ◌∙◌, ap, subst, arith}
use Rattle.std.specs.Str.{IsUtf8}
use Rattle.typing_rules.specs.Assignment.{are_spaces}
use Rattle.expr_eval.proofs.Characters.{shortened_utf8, fewer_characters, too_many, limited_is}
use Rattle.expr_eval.proofs.assignment.limited.Goals as goal

pub shortened-requires-clause-fits : goal.shortened-requires-clause-fits
shortened-requires-clause-fits c = omega (arith, fewer_characters c.args.text c.character_count-count.ensures.utf8)

pub shortened-requires-clause-utf8 : goal.shortened-requires-clause-utf8
shortened-requires-clause-utf8 c =
    let over : (c.args.limit == 0 || nat_le c.character_count-count.result c.args.limit) ≡ false = sym c.has_room.ensures ∙ c.if-has_room.false in
    let full : (c.args.limit == 0 || nat_le (length (chars c.args.text)) c.args.limit) ≡ false =
    ap (λ n. c.args.limit == 0 || nat_le n c.args.limit) (sym c.character_count-count.ensures.count) ∙ over in
    let spaces : are_spaces (drop c.args.limit (chars c.args.text)) ≡ true = sym c.has_spaces_from.ensures ∙ c.if-has_spaces_from.true in
    subst (λ n. IsUtf8 (take (length c.args.text - (n - c.args.limit)) c.args.text)) (sym c.character_count-count.ensures.count)
    (shortened_utf8 c.args.text c.args.limit c.character_count-count.ensures.utf8 (too_many c.args.limit (length (chars c.args.text)) full) spaces)

pub returns-then-has_spaces_from : goal.returns-then-has_spaces_from
returns-then-has_spaces_from c =
    limited_is c.shortened.result c.args.limit c.character_count-count.result c.args.text c.character_count-count.ensures.utf8 c.character_count-count.ensures.count
    (sym c.has_room.ensures ∙ c.if-has_room.false) (sym c.has_spaces_from.ensures ∙ c.if-has_spaces_from.true) c.shortened.ensures
