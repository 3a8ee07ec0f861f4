-- How the private functions find where a run, a quoted part or a comment ends. No public clause speaks of it.
use Rattle.std.specs.Prelude.{◌≡◌, ℕ, ◌+◌, ◌-◌, Bool, true, false, not, ◌&&◌, if◌then◌else◌, ◌==◌, List, [], ◌∷◌, drop, slice_index, Option, Some, None, Result, Ok, Err}
use Rattle.std.specs.List.{prefix_len}
use Rattle.sql_lexer.specs.declared.scan.Class.{Class}
use Rattle.sql_lexer.specs.declared.scan.Class.TheVariants as class
use Rattle.sql_lexer.specs.declared.fault.LexFault.{LexFault}
use Rattle.sql_lexer.specs.declared.fault.LexFault.TheVariants.{Memory}
use Rattle.sql_lexer.specs.Bytes.{is_space, is_in_line, is_digit, begins_word, is_in_word}

abbrev pub is_in : Class → ℕ → Bool
is_in class.Space b = is_space b
is_in class.Line b = is_in_line b
is_in class.Digit b = is_digit b
is_in class.Start b = begins_word b
is_in class.Word b = is_in_word b

-- the first place from `at` on whose byte is not of the class
abbrev pub past : Class → List ℕ → ℕ → ℕ
past c z at = at + prefix_len (is_in c) (drop at z)

-- the place after the closing quote; a doubled quote does not close
abbrev pub closing : ℕ → Bool → ℕ → List ℕ → Option ℕ
closing quote second at [] = None
closing quote true at (b ∷ z) = closing quote false (at + 1) z
closing quote false at (b ∷ z) = if b == quote && not (slice_index z 0 == quote) then Some (at + 1) else closing quote (b == quote) (at + 1) z

-- the place after the end of a comment inside so many others
abbrev pub comment_from : ℕ → Bool → ℕ → List ℕ → Option ℕ
comment_from level second at [] = None
comment_from level true at (b ∷ z) = comment_from level false (at + 1) z
comment_from level false at (b ∷ z) =
    if b == 42 && slice_index z 0 == 47 then (if level == 0 then Some (at + 2) else comment_from (level - 1) true (at + 1) z)
    else (if b == 47 && slice_index z 0 == 42 then comment_from (level + 1) true (at + 1) z else comment_from level false (at + 1) z)

-- each doubled quote as one
abbrev pub content : ℕ → Bool → List ℕ → List ℕ
content quote second [] = []
content quote true (b ∷ z) = content quote false z
content quote false (b ∷ z) = b ∷ content quote (b == quote) z

-- where it failed, memory ran out
abbrev pub IsMemory : {X : Type 0} → Result X LexFault → Type 0
IsMemory (Ok x) = Unit {0}
IsMemory (Err f) = f ≡ Memory
