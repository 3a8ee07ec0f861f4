-- The table of the examples is sound.
use Rattle.std.proofs.Common.{◌≡◌, ℕ, Bool, true, false, List, [], ◌∷◌, length, Some, None, Ok, refl, ap, sym, ◌∙◌, subst, get_or, lit<}
use Rattle.std.specs.Prelude.{◌&&◌, ◌==◌, not, nat_le, codes}
use Rattle.std.specs.List.{list_any, list_all}
use Rattle.std.proofs.lemmas.List.Folds.{list_any_at, list_all_at}
use Rattle.std.proofs.lemmas.Bool.{and_parts, false≢true, leb-true, not-true}
use Rattle.cell_base.specs.declared.sql_type.SqlType.TheVariants.{Bigint}
use Rattle.sql_tree.specs.declared.statement.CreateTable.{CreateTable}
use Rattle.sql_tree.specs.declared.statement.Statement.TheVariants.{Create}
use Rattle.sql_tree.specs.declared.token.Sign.{Sign}
use Rattle.sql_tree.specs.declared.token.Sign.TheVariants as s
use Rattle.sql_tree.specs.declared.token.Token.{Token}
use Rattle.sql_tree.specs.declared.token.TokenKind.{TokenKind}
use Rattle.sql_tree.specs.declared.token.TokenKind.TheVariants as t
use Rattle.cell_base.specs.Texts.{HasNoZero}
use Rattle.sql_grammar.specs.Limited.{IsPlain, IsPlainKind, max_depth, max_rows, max_statements}
use Rattle.sql_grammar.specs.Statements.{name, alias, filter, item, tab, join, next_tabs, next_joins, more_from, from, source, direction, term, order, limit, select, cell, row, columns, insert, assignment, update, delete, work, level, mode, next_mode, modes, beginning, begin, commit, rollback, suffix, dotted, value_word, setting_value, setting_values, assigned, transaction_modes, characteristics, session_setting, set, show, constant_word, constant, check, label, constraint_body, next_constraint, constraints, size, sized, type_name, column, key_list, table_constraint, element, create, control, statement, piece, next_piece, message}
use Rattle.sql_grammar.specs.Steps.{reading, repeat_from}
use Rattle.sql_grammar.specs.Reading as reader
use Rattle.sql_grammar.specs.Words.{letters, rows as word_rows, marks}
use Rattle.sql_grammar.proofs.Messages.{message_sound}
use Rattle.typing_rules.specs.Building.{built, column_of, key_of, checks_of}
use Rattle.sound_table.specs.Sound.{IsSound}
use Rattle.sound_table.specs.Example.{two_columns, TwoColumnsAreSound}

word : List ℕ → ℕ → ℕ → Token
word text start end = record { kind = t.Word text; start = start; end = end }

sign : Sign → ℕ → ℕ → Token
sign mark start end = record { kind = t.Sign mark; start = start; end = end }

abbrev tokens : List Token
tokens =
    word (codes "create") 0 6 ∷ word (codes "table") 7 12 ∷ word (codes "t") 13 14 ∷ sign s.Open 15 16
    ∷ word (codes "k") 16 17 ∷ word (codes "bigint") 18 24 ∷ word (codes "primary") 25 32 ∷ word (codes "key") 33 36 ∷ sign s.Comma 36 37
    ∷ word (codes "v") 38 39 ∷ word (codes "bigint") 40 46 ∷ sign s.Close 46 47 ∷ []

abbrev create_t : CreateTable
create_t = record {
  name = codes "t";
  columns =
      record { name = codes "k"; kind = Bigint; not_null = false; default = None; key = true }
      ∷ record { name = codes "v"; kind = Bigint; not_null = false; default = None; key = false } ∷ [];
  keys = [];
  checks = [];
}

is_built : built create_t ≡ Ok two_columns
unfolding built column_of key_of checks_of
is_built = refl

is_read : reading (message max_depth max_rows max_statements) (marks tokens) ≡ Some (Create create_t ∷ [], [])
unfolding letters word_rows name alias filter item tab join next_tabs next_joins more_from from source direction term order limit select cell row columns insert assignment update delete work level mode next_mode modes beginning begin commit rollback suffix dotted value_word setting_value setting_values assigned transaction_modes characteristics session_setting set show constant_word constant check label constraint_body next_constraint constraints size sized type_name column key_list table_constraint element create control statement piece next_piece message repeat_from reader.name word sign
is_read = refl

-- ---- plain

-- no byte of the text is zero, as a test finds
no_zero : (text : List ℕ) → list_any (λ b. b == 0) text ≡ false → HasNoZero text
no_zero text e at =
    let zero_there : (get_or text at.0 0 == 0) ≡ true = rw at.2 refl in
    let some : list_any (λ b. b == 0) text ≡ true = list_any_at (λ b. b == 0) text at.0 0 at.1 zero_there in
    cc

-- whether a word has at most 63 bytes and has no zero byte; signs are plain, and other tokens aren't looked at
is_plain : TokenKind → Bool
is_plain (t.Word text) = nat_le (length text) 63 && not (list_any (λ b. b == 0) text)
is_plain (t.Sign mark) = true
is_plain _ = false

plain_kind : (kind : TokenKind) → is_plain kind ≡ true → IsPlainKind kind
unfolding is_plain
plain_kind (t.Word text) e =
    let parts = and_parts (nat_le (length text) 63) (not (list_any (λ b. b == 0) text)) e in
    record { fits = leb-true (length text) 63 parts.0; no_zero = no_zero text (not-true (list_any (λ b. b == 0) text) parts.1) }
plain_kind (t.Sign mark) e = tt
plain_kind _ e = absurd (cc)

all_plain : list_all (λ token. is_plain token.kind) tokens ≡ true
unfolding is_plain word sign
all_plain = refl

tokens_plain : IsPlain tokens
tokens_plain token at = plain_kind token.kind (by_test (is_plain token.kind) refl)
  where
    by_test : (test : Bool) → is_plain token.kind ≡ test → is_plain token.kind ≡ true
    by_test true e = e
    by_test false e = absurd (false≢true (sym (list_all_at (λ t. is_plain t.kind) tokens at.0 token at.1 (ap (λ t. is_plain t.kind) at.2 ∙ e)) ∙ all_plain))

-- ---- sound

two_columns_sound : IsSound two_columns
two_columns_sound = record {
  tokens = tokens;
  plain = tokens_plain;
  statements = Create create_t ∷ [];
  read = message_sound max_depth max_rows max_statements (marks tokens) (Create create_t ∷ []) is_read;
  create = create_t;
  among = (0, lit< tt, refl);
  built = is_built;
}

pub sound : TwoColumnsAreSound
sound table e = subst IsSound (sym e) two_columns_sound
