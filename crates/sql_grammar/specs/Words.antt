-- The words of the grammar, and the marks of tokens.
use Rattle.std.specs.Prelude.{ℕ, if◌then◌else◌, List, [], ◌∷◌, map, flat_map}
use Rattle.std.specs.Str.{bytes_eq}
use Rattle.sql_tree.specs.declared.token.Token.{Token}
use Rattle.sql_tree.specs.declared.token.TokenKind.{TokenKind}
use Rattle.sql_tree.specs.declared.token.TokenKind.TheVariants as t
use Rattle.sql_grammar.specs.declared.mark.Class.{Class}
use Rattle.sql_grammar.specs.declared.mark.Class.TheVariants as c
use Rattle.sql_grammar.specs.declared.mark.Word.TheVariants.{Other}
use Rattle.sql_grammar.specs.declared.mark.Mark.{Mark}
use Rattle.sql_grammar.specs.declared.mark.Mark.TheVariants.{Key, Reserved, Plain, Quoted, Number, Str, Param, Sign}
use Rattle.sql_grammar.specs.declared.words.TheConstants.{WORDS}

-- the class that the first row of the word gives; a word in no row isn't reserved
abbrev pub lookup : List (List ℕ × Class) → List ℕ → Class
lookup [] word = c.Plain Other
lookup (row ∷ rows) word = if bytes_eq row.0 word then row.1 else lookup rows word

-- for each letter from a to z the rows of its words
unfoldable pub letters : List (List (List ℕ × Class))
letters = map (λ words. map (λ row. (row.0.now, row.1)) words.now) WORDS

unfoldable pub rows : List (List ℕ × Class)
rows = flat_map (λ words. words) letters

abbrev pub class : List ℕ → Class
class = lookup rows

abbrev pub mark_of : List ℕ → Class → Mark
mark_of word (c.Key k) = Key k
mark_of word (c.Reserved w) = Reserved w
mark_of word (c.Plain w) = Plain w word

abbrev pub mark : TokenKind → Mark
mark (t.Word word) = mark_of word (class word)
mark (t.Quoted name) = Quoted name
mark (t.Number n) = Number n
mark (t.Str b) = Str b
mark (t.Param n) = Param n
mark (t.Sign s) = Sign s

abbrev pub marks : List Token → List Mark
marks tokens = map (λ token. mark token.kind) tokens
