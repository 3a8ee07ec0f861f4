-- The tags of statements have no zero byte and fit a message.
use Rattle.std.proofs.Common.{◌≡◌, ◌<◌, ◌≤◌, ◌^◌, ℕ, List, ◌++◌, [], ◌∷◌, length, arith, length-append, subst, sym, ap}
use Rattle.std.specs.Fmt.{decimal}
use Rattle.std.proofs.lemmas.Fmt.{decimal_is_IsNumeral}
use Rattle.std.proofs.lemmas.Str.Parse.{digit_at}
use Rattle.cell_base.specs.Texts.{HasNoZero}
use Rattle.pg_framing.specs.Replies.{ended, FitsMessage}
use Rattle.cell_base.proofs.Zeros.{has_no_zero, no_zero_from, no_zero-append}

decimal_no_zero : (n : ℕ) → n < 2 ^ 64 → HasNoZero (decimal n)
decimal_no_zero n small k =
    let range = digit_at (decimal n) k.0 (decimal_is_IsNumeral n small).0.1 k.1 in
    omega (arith, range.0, k.2)

pub tag_no_zero : (word tag : List ℕ) (n : ℕ) → n < 2 ^ 64 → HasNoZero word → tag ≡ word ++ decimal n → HasNoZero tag
tag_no_zero word tag n small h is =
    subst HasNoZero (sym is) (has_no_zero (word ++ decimal n) (no_zero-append word (decimal n) (no_zero_from word h) (no_zero_from (decimal n) (decimal_no_zero n small))))

pub tag_fits : (word tag digits : List ℕ) → length word ≤ 16 → length digits ≤ 40 → tag ≡ word ++ digits → FitsMessage (ended tag)
tag_fits word tag digits fits few is = omega (arith, fits, few, ap length is, length-append word digits, length-append tag (0 ∷ []))
