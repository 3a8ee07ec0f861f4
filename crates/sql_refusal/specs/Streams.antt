-- What token lists are judged by, read from left to right: what the private functions do. No public clause speaks of it.
use Rattle.std.specs.Prelude.{ℕ, ◌+◌, Bool, true, false, not, ◌&&◌, ◌||◌, if◌then◌else◌, eqb, nat_lt, List, [], ◌∷◌, length, map, codes, Option, Some, None}
use Rattle.std.specs.Str.{bytes_eq}
use denote.Bor.{Bor}
use Rattle.sql_tree.specs.declared.token.Sign.TheVariants as s
use Rattle.sql_tree.specs.declared.token.Token.{Token}
use Rattle.sql_tree.specs.declared.token.TokenKind.{TokenKind}
use Rattle.sql_tree.specs.declared.token.TokenKind.TheVariants as t
use Rattle.sql_refusal.specs.declared.words.TheConstants.{UNSUPPORTED}
use Rattle.sql_refusal.specs.Pieces.{is_semi, is_comma, is_open, is_close, is_word, begins_with, is_among, pieces}

-- ---- pieces

unfoldable pub first_piece : List Token → List Token
first_piece [] = []
first_piece (token ∷ tokens) = if is_semi token.kind then [] else token ∷ first_piece tokens

unfoldable pub after_piece : List Token → Option (List Token)
after_piece [] = None
after_piece (token ∷ tokens) = if is_semi token.kind then Some tokens else after_piece tokens

abbrev pub pieces_of : Option (List Token) → List (List Token)
pieces_of None = []
pieces_of (Some tokens) = pieces tokens

abbrev pub tokens_in : Option (Bor (List Token)) → Option (List Token)
tokens_in None = None
tokens_in (Some tokens) = Some tokens.now

-- how many tokens are left, and one for the piece that they begin
abbrev pub left_in : Option (Bor (List Token)) → ℕ
left_in None = 0
left_in (Some tokens) = length tokens.now + 1

-- ---- levels, by so many parentheses opened and closed

abbrev pub one_if : Bool → ℕ
one_if true = 1
one_if false = 0

unfoldable pub is_deep : ℕ → ℕ → List Token → Bool
is_deep opened closed [] = false
is_deep opened closed (token ∷ tokens) = nat_lt (66 + closed) opened || is_deep (opened + one_if (is_open token.kind)) (closed + one_if (is_close token.kind)) tokens

unfoldable pub commas_from : ℕ → ℕ → List Token → ℕ
commas_from opened closed [] = 0
commas_from opened closed (token ∷ tokens) =
    one_if (is_comma token.kind && eqb opened closed) + commas_from (opened + one_if (is_open token.kind)) (closed + one_if (is_close token.kind)) tokens

-- ---- tokens that aren't supported, by whether a token stands before, and whether it is the word CREATE

abbrev pub is_unsupported_word : Bool → Bool → List ℕ → List Token → Bool
is_unsupported_word filled after_create word after =
    (bytes_eq word (codes "select") && filled)
    || ((bytes_eq word (codes "values") && not filled)
    || ((bytes_eq word (codes "table") && not after_create)
    || ((bytes_eq word (codes "on") && begins_with (codes "conflict") after)
    || is_among (map (λ row. row.now) UNSUPPORTED) word)))

abbrev pub is_unsupported : Bool → Bool → TokenKind → List Token → Bool
is_unsupported filled after_create (t.Word word) after = is_unsupported_word filled after_create word after
is_unsupported filled after_create (t.Sign s.Cast) after = true
is_unsupported filled after_create (t.Sign s.Join) after = true
is_unsupported filled after_create (t.Param n) after = true
is_unsupported filled after_create _ after = false

unfoldable pub holds_unsupported : Bool → Bool → List Token → Bool
holds_unsupported filled after_create [] = false
holds_unsupported filled after_create (token ∷ tokens) = is_unsupported filled after_create token.kind tokens || holds_unsupported true (is_word (codes "create") token.kind) tokens
