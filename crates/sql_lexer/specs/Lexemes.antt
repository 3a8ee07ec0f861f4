-- What each kind of lexeme is: which bytes are the longest spelling of white space, a comment or a token before what comes after,
-- and which fault stands at the front of a text. Bytes stand as their ASCII codes: 34 is a double quote, 36 `$`, 39 a single quote,
-- 42 `*`, 45 `-`, 46 a point and 47 `/`.
use Rattle.std.specs.Prelude.{◌≡◌, ℕ, suc, ◌<◌, ◌≤◌, Bool, true, false, not, ◌&&◌, ◌||◌, if◌then◌else◌, ◌==◌, List, [], ◌∷◌, ◌++◌, length, Option, Some, None, is_some, pos}
use Rattle.sql_tree.specs.declared.token.Sign.{Sign}
use Rattle.sql_tree.specs.declared.token.Sign.TheVariants as s
use Rattle.sql_tree.specs.declared.token.TokenKind.{TokenKind}
use Rattle.sql_tree.specs.declared.token.TokenKind.TheVariants as k
use Rattle.sql_lexer.specs.declared.fault.LexFault.{LexFault}
use Rattle.sql_lexer.specs.declared.fault.LexFault.TheVariants as fault
use Rattle.sql_lexer.specs.Bytes.{is_space, is_in_line, is_digit, begins_word, is_in_word, is_prefix, AllAre, begins, begins_fraction, folded, decimal}

-- ---- comments

-- whether two bytes end a comment, and whether they begin one
abbrev pub is_comment_end : ℕ → ℕ → Bool
is_comment_end b c = b == 42 && c == 47

abbrev pub is_comment_start : ℕ → ℕ → Bool
is_comment_start b c = b == 47 && c == 42

-- The bytes go from inside a comment to its end, where the comment itself stands inside so many others, which they end too.
pub data EndsComments : ℕ → List ℕ → Type 0 where
  ended : EndsComments 0 (42 ∷ 47 ∷ [])
  inner_ended : (n : ℕ) (z : List ℕ) → EndsComments n z → EndsComments (suc n) (42 ∷ 47 ∷ z)
  inner_begun : (n : ℕ) (z : List ℕ) → EndsComments (suc n) z → EndsComments n (47 ∷ 42 ∷ z)
  other : (n b c : ℕ) (z : List ℕ) → is_comment_end b c ≡ false → is_comment_start b c ≡ false → EndsComments n (c ∷ z) → EndsComments n (b ∷ c ∷ z)

-- ---- quotes

-- a text with each quote in it twice
abbrev pub doubled : ℕ → List ℕ → List ℕ
doubled q [] = []
doubled q (b ∷ t) = if b == q then q ∷ q ∷ doubled q t else b ∷ doubled q t

-- what stands after an opening quote: the text, each quote in it twice, and the closing quote
abbrev pub to_quote : ℕ → List ℕ → List ℕ
to_quote q t = doubled q t ++ q ∷ []

-- ---- signs

-- the signs of one byte, but for the point: + - * / % = < > ( ) , ;
abbrev pub sign_of : ℕ → Option Sign
sign_of b =
    if b == 43 then Some s.Plus else (if b == 45 then Some s.Minus else (if b == 42 then Some s.Star else (if b == 47 then Some s.Slash
    else (if b == 37 then Some s.Percent else (if b == 61 then Some s.Eq else (if b == 60 then Some s.Lt else (if b == 62 then Some s.Gt
    else (if b == 40 then Some s.Open else (if b == 41 then Some s.Close else (if b == 44 then Some s.Comma else (if b == 59 then Some s.Semi else None)))))))))))

-- the signs of two bytes: `<>` and `!=`, `<=`, `>=`, `::`, `||`
abbrev pub sign_of_two : ℕ → ℕ → Option Sign
sign_of_two b c =
    if (b == 60 && c == 62) || (b == 33 && c == 61) then Some s.Ne else (if b == 60 && c == 61 then Some s.Le else (if b == 62 && c == 61 then Some s.Ge
    else (if b == 58 && c == 58 then Some s.Cast else (if b == 124 && c == 124 then Some s.Join else None))))

-- whether the two bytes are read together, as a sign or as the start of a comment
abbrev pub is_pair : ℕ → ℕ → Bool
is_pair b c = is_some (sign_of_two b c) || (b == 45 && c == 45) || is_comment_start b c

-- whether a point directly after the token is never the start of a number: after a word, a quoted name and a closing parenthesis
abbrev pub joins : TokenKind → Bool
joins (k.Word w) = true
joins (k.Quoted w) = true
joins (k.Sign s.Close) = true
joins _ = false

-- whether nothing begins with the byte, but perhaps a sign of two bytes: no white space, word, number, quoted part, parameter, point or sign
abbrev pub begins_nothing : ℕ → Bool
begins_nothing b = not (is_space b || begins_word b || is_digit b || b == 34 || b == 39 || b == 36 || b == 46 || is_some (sign_of b))

-- ---- lexemes

abbrev pub most : ℕ
most = 9223372036854775807

-- The bytes are white space or a comment, up to where it ends before what comes after.
pub data IsGap : List ℕ → List ℕ → Type 0 where
  space : (b : ℕ) (bytes after : List ℕ) → is_space b ≡ true → AllAre is_space bytes → begins is_space after ≡ false → IsGap (b ∷ bytes) after
  -- from `--` to before the end of the line
  line : (bytes after : List ℕ) → AllAre is_in_line bytes → begins is_in_line after ≡ false → IsGap (45 ∷ 45 ∷ bytes) after
  -- from `/*` to its `*/`
  comment : (bytes after : List ℕ) → EndsComments 0 bytes → IsGap (47 ∷ 42 ∷ bytes) after

-- The bytes are the longest spelling of the token before what comes after. The Bool says that a name or a closing parenthesis stands
-- directly before.
pub data IsToken : Bool → List ℕ → List ℕ → TokenKind → Type 0 where
  word : (joined : Bool) (b : ℕ) (bytes after : List ℕ)
      → begins_word b ≡ true → AllAre is_in_word bytes → begins is_in_word after ≡ false → length (b ∷ bytes) ≤ 63
      -- a prefix alone stands before no string
      → (bytes ≡ [] → is_prefix b ≡ true → begins (λ c. c == 39) after ≡ false)
      → IsToken joined (b ∷ bytes) after (k.Word (folded (b ∷ bytes)))
  quoted : (joined : Bool) (name after : List ℕ)
      → begins (λ c. c == 34) after ≡ false → 1 ≤ length name → length name ≤ 63
      → IsToken joined (34 ∷ to_quote 34 name) after (k.Quoted name)
  string : (joined : Bool) (text after : List ℕ)
      → begins (λ c. c == 39) after ≡ false
      → IsToken joined (39 ∷ to_quote 39 text) after (k.Str text)
  number : (joined : Bool) (b : ℕ) (bytes after : List ℕ)
      → is_digit b ≡ true → AllAre is_digit bytes → begins is_in_word after ≡ false → begins_fraction after ≡ false
      → decimal (b ∷ bytes) ≤ most
      → IsToken joined (b ∷ bytes) after (k.Number (pos (decimal (b ∷ bytes))))
  -- `$` and one to five digits: only after five another digit may come
  parameter : (joined : Bool) (b : ℕ) (bytes after : List ℕ)
      → is_digit b ≡ true → AllAre is_digit bytes → length (b ∷ bytes) ≤ 5
      → (begins is_digit after ≡ true → length (b ∷ bytes) ≡ 5)
      → IsToken joined (36 ∷ b ∷ bytes) after (k.Param (decimal (b ∷ bytes)))
  sign : (joined : Bool) (b : ℕ) (after : List ℕ) (s : Sign)
      → sign_of b ≡ Some s → begins (is_pair b) after ≡ false
      → IsToken joined (b ∷ []) after (k.Sign s)
  sign_of_two_bytes : (joined : Bool) (b c : ℕ) (after : List ℕ) (s : Sign)
      → sign_of_two b c ≡ Some s
      → IsToken joined (b ∷ c ∷ []) after (k.Sign s)
  point : (joined : Bool) (after : List ℕ)
      → (not joined && begins is_digit after) ≡ false
      → IsToken joined (46 ∷ []) after (k.Sign s.Dot)

-- ---- faults

-- no closing quote ends what stands after an opening one
abbrev pub Unclosed : ℕ → List ℕ → Type 0
Unclosed q z = (t after : List ℕ) → z ≡ to_quote q t ++ after → begins (λ c. c == q) after ≡ false → ⊥

-- no end of a comment stands after its start
abbrev pub UnclosedComment : List ℕ → Type 0
UnclosedComment z = (bytes after : List ℕ) → z ≡ bytes ++ after → EndsComments 0 bytes → ⊥

-- At the place, where the text stands, no token, white space or comment fits, for this reason.
pub data IsFaultAt : Bool → ℕ → List ℕ → LexFault → Type 0 where
  unclosed_comment : (joined : Bool) (at : ℕ) (z : List ℕ) → UnclosedComment z → IsFaultAt joined at (47 ∷ 42 ∷ z) (fault.UnclosedComment at)
  unclosed_string : (joined : Bool) (at : ℕ) (z : List ℕ) → Unclosed 39 z → IsFaultAt joined at (39 ∷ z) (fault.UnclosedString at)
  unclosed_name : (joined : Bool) (at : ℕ) (z : List ℕ) → Unclosed 34 z → IsFaultAt joined at (34 ∷ z) (fault.UnclosedName at)
  empty_name : (joined : Bool) (at : ℕ) (after : List ℕ)
      → begins (λ c. c == 34) after ≡ false
      → IsFaultAt joined at (34 ∷ to_quote 34 [] ++ after) (fault.EmptyName at)
  long_name : (joined : Bool) (at : ℕ) (name after : List ℕ)
      → begins (λ c. c == 34) after ≡ false → 63 < length name
      → IsFaultAt joined at (34 ∷ to_quote 34 name ++ after) (fault.NameTooLong at)
  long_word : (joined : Bool) (at b : ℕ) (bytes after : List ℕ)
      → begins_word b ≡ true → AllAre is_in_word bytes → begins is_in_word after ≡ false → 63 < length (b ∷ bytes)
      → IsFaultAt joined at (b ∷ bytes ++ after) (fault.NameTooLong at)
  prefixed_string : (joined : Bool) (at b : ℕ) (z : List ℕ) → is_prefix b ≡ true → IsFaultAt joined at (b ∷ 39 ∷ z) (fault.Unsupported at)
  -- a number that runs into a word, whatever its size
  junk : (joined : Bool) (at b : ℕ) (bytes after : List ℕ)
      → is_digit b ≡ true → AllAre is_digit bytes → begins is_digit after ≡ false → begins_fraction after ≡ false → begins is_in_word after ≡ true
      → IsFaultAt joined at (b ∷ bytes ++ after) (fault.Junk at)
  -- a number above the greatest, also where a point or an exponent follows
  too_wide : (joined : Bool) (at b : ℕ) (bytes after : List ℕ)
      → is_digit b ≡ true → AllAre is_digit bytes → begins is_digit after ≡ false → (begins is_in_word after ≡ true → begins_fraction after ≡ true)
      → most < decimal (b ∷ bytes)
      → IsFaultAt joined at (b ∷ bytes ++ after) (fault.TooWide at)
  fraction : (joined : Bool) (at b : ℕ) (bytes after : List ℕ)
      → is_digit b ≡ true → AllAre is_digit bytes → begins is_digit after ≡ false → begins_fraction after ≡ true
      → decimal (b ∷ bytes) ≤ most
      → IsFaultAt joined at (b ∷ bytes ++ after) (fault.Unsupported at)
  -- a number that begins with its point
  leading_point : (at b : ℕ) (z : List ℕ) → is_digit b ≡ true → IsFaultAt false at (46 ∷ b ∷ z) (fault.Unsupported at)
  dollar : (joined : Bool) (at : ℕ) (z : List ℕ) → begins is_digit z ≡ false → IsFaultAt joined at (36 ∷ z) (fault.BadCharacter at)
  bad : (joined : Bool) (at b : ℕ) (z : List ℕ) → begins_nothing b ≡ true → begins (is_pair b) z ≡ false → IsFaultAt joined at (b ∷ z) (fault.BadCharacter at)
