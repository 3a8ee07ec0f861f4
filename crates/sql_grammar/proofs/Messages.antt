-- Messages are read exactly.
use Rattle.std.proofs.Common.{◌≡◌, ℕ, true, List, [], ◌∷◌, Some, refl, ap, sym, ◌∙◌, subst}
use Rattle.std.proofs.lemmas.List.{append-nil}
use Rattle.sql_tree.specs.declared.statement.Statement.{Statement}
use Rattle.sql_grammar.specs.declared.mark.Mark.{Mark}
use Rattle.sql_grammar.specs.Syntax.{spells}
use Rattle.sql_grammar.specs.Steps.{Pattern, the_end, reading, fits}
use Rattle.sql_grammar.specs.Statements.{name, alias, filter, item, tab, join, next_tabs, next_joins, more_from, from, source, direction, term, order, limit, select, cell, row, columns, insert, assignment, update, delete, work, level, mode, next_mode, modes, beginning, begin, commit, rollback, suffix, dotted, value_word, setting_value, setting_values, assigned, transaction_modes, characteristics, session_setting, set, show, constant_word, constant, check, label, constraint_body, next_constraint, constraints, size, sized, type_name, column, key_list, table_constraint, element, create, control, statement, piece, next_piece, message}
use Rattle.sql_grammar.proofs.Taken.{value_of}
use Rattle.sql_grammar.proofs.Rules.{sound}
use Rattle.sql_grammar.proofs.Exactly.{exact}

abbrev at_end : List Pattern
at_end = the_end ∷ []

-- in each place the next mark tells how the message goes on
message_fits : (depth rows statements : ℕ) → fits (message depth rows statements) at_end ≡ true
unfolding name alias filter item tab join next_tabs next_joins more_from from source direction term order limit select cell row columns insert assignment update delete work level mode next_mode modes beginning begin commit rollback suffix dotted value_word setting_value setting_values assigned transaction_modes characteristics session_setting set show constant_word constant check label constraint_body next_constraint constraints size sized type_name column key_list table_constraint element create control statement piece next_piece message
message_fits depth rows statements = refl

pub message_sound : (depth rows statements : ℕ) (ts : List Mark) (xs : List Statement) → reading (message depth rows statements) ts ≡ Some (xs, []) → spells (message depth rows statements) ts xs
message_sound depth rows statements ts xs e =
    let t = sound (message depth rows statements) ts xs [] e in
    let P : List Mark → Type 0 = λ z. spells (message depth rows statements) z xs in
    subst P (sym (t.splits ∙ append-nil t.taken)) t.spelled

pub message_reads : (depth rows statements : ℕ) (ts : List Mark) (xs : List Statement) → spells (message depth rows statements) ts xs → reading (message depth rows statements) ts ≡ Some (xs, [])
message_reads depth rows statements ts xs s =
    ap (λ z. reading (message depth rows statements) z) (sym (append-nil ts)) ∙ exact (message depth rows statements) at_end (message_fits depth rows statements) ts xs s [] refl

-- no list of marks stands for two lists of trees
pub one_message : (depth rows statements : ℕ) (ts : List Mark) (xs ys : List Statement) → spells (message depth rows statements) ts xs → spells (message depth rows statements) ts ys → xs ≡ ys
one_message depth rows statements ts xs ys s t = value_of xs ys [] [] (sym (message_reads depth rows statements ts xs s) ∙ message_reads depth rows statements ts ys t)
