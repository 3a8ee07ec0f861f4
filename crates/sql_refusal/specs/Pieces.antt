-- What a token list is judged by as a whole: its pieces, the level at a token, and the tokens that aren't supported.
use Rattle.std.specs.Prelude.{ℕ, ◌+◌, Bool, true, false, not, ◌&&◌, ◌||◌, if◌then◌else◌, eqb, nat_lt, List, [], ◌∷◌, ◌++◌, map, codes}
use Rattle.std.specs.Str.{bytes_eq}
use Rattle.sql_tree.specs.declared.token.Sign.TheVariants as s
use Rattle.sql_tree.specs.declared.token.Token.{Token}
use Rattle.sql_tree.specs.declared.token.TokenKind.{TokenKind}
use Rattle.sql_tree.specs.declared.token.TokenKind.TheVariants as t
use Rattle.sql_refusal.specs.declared.words.TheConstants.{UNSUPPORTED}

-- ---- single tokens

abbrev pub is_semi : TokenKind → Bool
is_semi (t.Sign s.Semi) = true
is_semi _ = false

abbrev pub is_comma : TokenKind → Bool
is_comma (t.Sign s.Comma) = true
is_comma _ = false

abbrev pub is_open : TokenKind → Bool
is_open (t.Sign s.Open) = true
is_open _ = false

abbrev pub is_close : TokenKind → Bool
is_close (t.Sign s.Close) = true
is_close _ = false

-- the unquoted word
abbrev pub is_word : List ℕ → TokenKind → Bool
is_word word (t.Word text) = bytes_eq text word
is_word word _ = false

-- ---- pieces

-- the token in front of the first piece
abbrev pub in_front : Token → List (List Token) → List (List Token)
in_front token [] = (token ∷ []) ∷ []
in_front token (piece ∷ pieces) = (token ∷ piece) ∷ pieces

-- The tokens `;` cut a list into pieces, which may be empty.
unfoldable pub pieces : List Token → List (List Token)
pieces [] = [] ∷ []
pieces (token ∷ tokens) = if is_semi token.kind then [] ∷ pieces tokens else in_front token (pieces tokens)

-- how many pieces are so
unfoldable pub number : (List Token → Bool) → List (List Token) → ℕ
number test [] = 0
number test (piece ∷ pieces) = (if test piece then 1 else 0) + number test pieces

-- whether some piece is so
unfoldable pub some : (List Token → Bool) → List (List Token) → Bool
some test [] = false
some test (piece ∷ pieces) = test piece || some test pieces

-- ---- places of a piece: a token, what stands before it, and what stands after it

abbrev pub Place : Type 0
Place = List Token → Token → List Token → Bool

-- how many places of the rest are so, after what stands before it
unfoldable pub places : Place → List Token → List Token → ℕ
places test before [] = 0
places test before (token ∷ after) = (if test before token after then 1 else 0) + places test (before ++ token ∷ []) after

-- whether some place of the rest is so, after what stands before it
unfoldable pub some_place : Place → List Token → List Token → Bool
some_place test before [] = false
some_place test before (token ∷ after) = test before token after || some_place test (before ++ token ∷ []) after

-- how many tokens are so
unfoldable pub tokens_that : (TokenKind → Bool) → List Token → ℕ
tokens_that test [] = 0
tokens_that test (token ∷ tokens) = (if test token.kind then 1 else 0) + tokens_that test tokens

-- whether the level after these tokens of a piece is 0: as many `)` as `(`
abbrev pub at_level_0 : List Token → Bool
at_level_0 before = eqb (tokens_that is_open before) (tokens_that is_close before)

-- whether the level after these tokens of a piece is above 66
abbrev pub too_deep : List Token → Bool
too_deep before = nat_lt (66 + tokens_that is_close before) (tokens_that is_open before)

-- ---- too many statements or rows

abbrev pub holds_a_token : List Token → Bool
holds_a_token [] = false
holds_a_token (token ∷ tokens) = true

abbrev pub begins_with : List ℕ → List Token → Bool
begins_with word [] = false
begins_with word (token ∷ tokens) = is_word word token.kind

-- the commas of a piece at level 0
abbrev pub commas : List Token → ℕ
commas piece = places (λ before token after. is_comma token.kind && at_level_0 before) [] piece

-- a piece that begins with the word INSERT and has more than 999 commas at level 0
abbrev pub has_too_many_rows : List Token → Bool
has_too_many_rows piece = begins_with (codes "insert") piece && nat_lt 999 (commas piece)

-- more than 256 pieces hold a token, or one of them has too many rows
abbrev pub has_too_many : List Token → Bool
has_too_many tokens = nat_lt 256 (number holds_a_token (pieces tokens)) || some has_too_many_rows (pieces tokens)

-- ---- too deep

-- some token of the piece has a level above 66
abbrev pub has_deep_place : List Token → Bool
has_deep_place piece = some_place (λ before token after. too_deep before) [] piece

abbrev pub has_deep_token : List Token → Bool
has_deep_token tokens = some has_deep_place (pieces tokens)

-- ---- tokens that aren't supported

abbrev pub is_among : List (List ℕ) → List ℕ → Bool
is_among [] word = false
is_among (w ∷ ws) word = if bytes_eq w word then true else is_among ws word

abbrev pub ends_with : List ℕ → List Token → Bool
ends_with word [] = false
ends_with word (token ∷ []) = is_word word token.kind
ends_with word (first ∷ second ∷ tokens) = ends_with word (second ∷ tokens)

-- SELECT but as the first word of a piece, VALUES as the first, TABLE but after CREATE, ON before CONFLICT, and the words of the table
abbrev pub is_unsupported_word : List Token → List ℕ → List Token → Bool
is_unsupported_word before word after =
    (bytes_eq word (codes "select") && holds_a_token before)
    || ((bytes_eq word (codes "values") && not (holds_a_token before))
    || ((bytes_eq word (codes "table") && not (ends_with (codes "create") before))
    || ((bytes_eq word (codes "on") && begins_with (codes "conflict") after)
    || is_among (map (λ row. row.now) UNSUPPORTED) word)))

-- a token that PostgreSQL reads and this server doesn't support
abbrev pub is_unsupported : List Token → TokenKind → List Token → Bool
is_unsupported before (t.Word word) after = is_unsupported_word before word after
is_unsupported before (t.Sign s.Cast) after = true
is_unsupported before (t.Sign s.Join) after = true
is_unsupported before (t.Param n) after = true
is_unsupported before _ after = false

abbrev pub has_unsupported_place : List Token → Bool
has_unsupported_place piece = some_place (λ before token after. is_unsupported before token.kind after) [] piece

abbrev pub has_unsupported_token : List Token → Bool
has_unsupported_token tokens = some has_unsupported_place (pieces tokens)
