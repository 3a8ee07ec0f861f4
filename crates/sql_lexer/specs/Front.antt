-- The piece at the front of a text, as the private functions find it. No public clause speaks of it.
use Rattle.std.specs.Prelude.{◌≡◌, ℕ, ◌+◌, ◌-◌, Bool, true, false, not, ◌&&◌, ◌||◌, if◌then◌else◌, ◌==◌, nat_lt, List, length, take, drop, slice_index, Option, Some, None, Result, Ok, Err, pos}
use Rattle.sql_tree.specs.declared.token.Sign.{Sign}
use Rattle.sql_tree.specs.declared.token.Sign.TheVariants as s
use Rattle.sql_tree.specs.declared.token.TokenKind.TheVariants as k
use Rattle.sql_lexer.specs.declared.fault.LexFault.{LexFault}
use Rattle.sql_lexer.specs.declared.fault.LexFault.TheVariants.{UnclosedString, UnclosedComment, UnclosedName, EmptyName, BadCharacter, Junk, TooWide, NameTooLong, Unsupported, Memory}
use Rattle.sql_lexer.specs.declared.piece.Before.{Before}
use Rattle.sql_lexer.specs.declared.piece.Before.TheVariants as before
use Rattle.sql_lexer.specs.declared.piece.Piece.{Piece}
use Rattle.sql_lexer.specs.declared.piece.Piece.TheVariants.{Gap, Kind}
use Rattle.sql_lexer.specs.declared.scan.Class.TheVariants as class
use Rattle.sql_lexer.specs.Bytes.{is_space, is_digit, begins_word, is_in_word, is_prefix, folded, decimal}
use Rattle.sql_lexer.specs.Lexemes.{sign_of, sign_of_two, most}
use Rattle.sql_lexer.specs.Scan.{past, closing, comment_from, content}

abbrev pub Front : Type 0
Front = Result (Piece × ℕ) LexFault

-- what a function gives, unless memory runs out
abbrev pub Gives : Front → Front → Type 0
Gives read (Ok x) = read ≡ Ok x
Gives read (Err Memory) = Unit {0}
Gives read (Err f) = read ≡ Err f

abbrev pub gap_or : LexFault → Option ℕ → Front
gap_or f None = Err f
gap_or f (Some end) = Ok (Gap, end)

-- whether a name or a closing parenthesis stands directly before
abbrev pub is_joined : Before → Bool
is_joined before.Joined = true
is_joined before.Other = false

unfoldable pub comment_piece : ℕ → List ℕ → Front
comment_piece at z = gap_or (UnclosedComment at) (comment_from 0 false 2 (drop 2 z))

unfoldable pub word : ℕ → List ℕ → Front
word at z =
    let end = past class.Word z 1 in
    if end == 1 && is_prefix (slice_index z 0) && slice_index z 1 == 39 then Err (Unsupported at)
    else (if nat_lt 63 end then Err (NameTooLong at) else Ok (Kind (k.Word (folded (take end z))), end))

-- what stands between the quotes that end there
abbrev pub between : ℕ → List ℕ → ℕ → List ℕ
between quote z end = content quote false (take (end - 2) (drop 1 z))

abbrev pub string_or : ℕ → List ℕ → Option ℕ → Front
string_or at z None = Err (UnclosedString at)
string_or at z (Some end) = Ok (Kind (k.Str (between 39 z end)), end)

unfoldable pub string : ℕ → List ℕ → Front
string at z = string_or at z (closing 39 false 1 (drop 1 z))

abbrev pub name_or : ℕ → List ℕ → Option ℕ → Front
name_or at z None = Err (UnclosedName at)
name_or at z (Some end) =
    let name = between 34 z end in
    if length name == 0 then Err (EmptyName at) else (if nat_lt 63 (length name) then Err (NameTooLong at) else Ok (Kind (k.Quoted name), end))

unfoldable pub quoted : ℕ → List ℕ → Front
quoted at z = name_or at z (closing 34 false 1 (drop 1 z))

abbrev pub is_fraction : ℕ → ℕ → Bool
is_fraction b next = b == 46 || ((b == 101 || b == 69) && is_digit next)

unfoldable pub number : ℕ → List ℕ → Front
number at z =
    let end = past class.Digit z 1 in
    let next = slice_index z end in
    let goes_on = is_fraction next (slice_index z (end + 1)) in
    let n = decimal (take end z) in
    if not goes_on && is_in_word next then Err (Junk at)
    else (if nat_lt most n then Err (TooWide at) else (if goes_on then Err (Unsupported at) else Ok (Kind (k.Number (pos n)), end)))

abbrev pub single_or : ℕ → Option Sign → Front
single_or at None = Err (BadCharacter at)
single_or at (Some sign) = Ok (Kind (k.Sign sign), 1)

abbrev pub double_or : ℕ → ℕ → Option Sign → Front
double_or at b None = single_or at (sign_of b)
double_or at b (Some sign) = Ok (Kind (k.Sign sign), 2)

unfoldable pub sign : ℕ → List ℕ → Front
sign at z = double_or at (slice_index z 0) (sign_of_two (slice_index z 0) (slice_index z 1))

unfoldable pub param : ℕ → List ℕ → Front
param at z =
    let front = take 6 z in
    let end = past class.Digit front 1 in
    if end == 1 then Err (BadCharacter at) else Ok (Kind (k.Param (decimal (take (end - 1) (drop 1 front)))), end)

unfoldable pub point : Bool → ℕ → List ℕ → Front
point joined at z = if not joined && is_digit (slice_index z 1) then Err (Unsupported at) else Ok (Kind (k.Sign s.Dot), 1)

-- which of these stands at the front, by the first byte and the next
abbrev pub chosen : {X : Type 0} → ℕ → ℕ → X → X → X → X → X → X → X → X → X → X → X
chosen b next space line comment word quoted string number param point sign =
    if is_space b then space
    else (if b == 45 && next == 45 then line
    else (if b == 47 && next == 42 then comment
    else (if begins_word b then word
    else (if b == 34 then quoted
    else (if b == 39 then string
    else (if is_digit b then number
    else (if b == 36 then param
    else (if b == 46 then point
    else sign))))))))

unfoldable pub piece : Bool → ℕ → List ℕ → Front
piece joined at z =
    chosen (slice_index z 0) (slice_index z 1) (Ok (Gap, past class.Space z 1)) (Ok (Gap, past class.Line z 2)) (comment_piece at z) (word at z) (quoted at z) (string at z)
    (number at z) (param at z) (point joined at z) (sign at z)
