-- Messages are passed over exactly.
use Rattle.std.proofs.Common.{◌≡◌, ℕ, Bool, suc, ◌+◌, ◌*◌, ◌≤◌, true, false, List, [], ◌∷◌, ◌++◌, length, Option, Some, None, refl, ap, sym, ◌∙◌, subst, length-append, arith}
use Rattle.std.specs.Prelude.{nat_le}
use Rattle.std.proofs.lemmas.Bool.{le-leb}
use Rattle.std.proofs.lemmas.List.{append-nil}
use Rattle.sql_tree.specs.declared.token.Sign.TheVariants as s
use Rattle.sql_tree.specs.declared.statement.Statement.{Statement}
use Rattle.sql_tree.specs.declared.expr.Expr.{Expr}
use Rattle.sql_grammar.specs.declared.mark.Mark.{Mark}
use Rattle.sql_grammar.specs.Reading.{front}
use Rattle.sql_grammar.specs.Syntax.{kind, Syntax, repeat, map, spells, Repeats}
use Rattle.sql_grammar.specs.Steps as steps
use Rattle.sql_grammar.specs.Steps.{any}
use Rattle.sql_grammar.specs.Statements.{sign, ◌▹◌, single, listed, name, alias, filter, item, tab, join, next_tabs, next_joins, more_from, from, source, direction, term, order, limit, select, cell, row, columns, insert, assignment, update, delete, work, level, mode, next_mode, modes, beginning, begin, commit, rollback, suffix, dotted, value_word, setting_value, setting_values, assigned, transaction_modes, characteristics, session_setting, set, show, constant_word, constant, check, label, constraint_body, next_constraint, constraints, size, sized, type_name, column, key_list, table_constraint, element, create, control, statement, piece, as_list, next_piece, message}
use Rattle.sql_grammar.proofs.Exactly.{long}
use Rattle.sql_refusal.specs.Forms.{Form, form, clear, goes_on, passes, at, Spelled}
use Rattle.sql_refusal.specs.Wide.{IsUnlimited, IsWide, wide_type, wide_element, wide_create, wide_statement, next_wide_piece, wide_message}
use Rattle.sql_refusal.specs.WideForms.{with_type, wide_form}
use Rattle.sql_refusal.specs.MessageForms.{control_form, statement_form, message_form}
use Rattle.sql_refusal.proofs.Sound.{passes_sound}
use Rattle.sql_refusal.proofs.Exact.{exact}
use Rattle.sql_refusal.proofs.Unrolled.{Within}
use Rattle.sql_refusal.proofs.Rolled.{IsAt}
use Rattle.sql_refusal.proofs.Levels.{begun, filled, at_exact, at_sound}
use Rattle.sql_refusal.proofs.Rules.{formed, Loose, loosened}
use Rattle.sql_refusal.proofs.WideTypes.{message_more, narrow, widen}

-- ---- what is read is no longer than the marks

repeats_few : {A : Type 0} (R : List Mark → List A → Type 0) → ((ts : List Mark) (xs : List A) → R ts xs → length xs ≤ length ts) → {us : List Mark} {ys : List A} → Repeats R us ys → length ys ≤ length us
repeats_few R each Repeats.none = omega arith
repeats_few R each (Repeats.more {ts = ts} {us = us} {xs = xs} {ys = ys} o os) =
    let a = each ts xs o in
    let b = repeats_few R each os in
    omega (arith, length-append ts us, length-append xs ys)

single_few : {A : Type 0} (a : Syntax A) → steps.empty a ≡ false → (ts : List Mark) (xs : List A) → spells (single a) ts xs → length xs ≤ length ts
single_few a some ts xs o = let l = long a ts o.of o.spelled some in let e = ap length o.made in omega arith

after_few : {A : Type 0} (a : Syntax A) → (ts : List Mark) (xs : List A) → spells (sign s.Comma ▹ single a) ts xs → length xs ≤ length ts
after_few a ts xs o =
    let l = long (sign s.Comma ▹ single a) ts xs o refl in
    let e = ap length o.made in
    let f = ap length o.spelled.second.made in
    omega arith

listed_few : {A : Type 0} (a : Syntax A) → steps.empty a ≡ false → (ts : List Mark) (xs : List A) → spells (listed a) ts xs → length xs ≤ length ts
listed_few a some ts xs o =
    let p = o.parts in
    let h = single_few a some p.front o.xs p.first in
    let r = repeats_few (spells (sign s.Comma ▹ single a)) (after_few a) p.second in
    let e = ap length o.all in
    let f = ap length p.splits in
    omega (arith, length-append o.xs o.ys, length-append p.front p.rest)

pub rows_fit : (n depth : ℕ) (ts : List Mark) (xs : List (List (Option Expr))) → length ts ≤ n → spells (listed (row depth)) ts xs → nat_le (length xs) n ≡ true
unfolding row
rows_fit n depth ts xs h o = let l = listed_few (row depth) refl ts xs o in le-leb (length xs) n (omega arith)

one_at_most : (x : Option Statement) → length (as_list x) ≤ 1
one_at_most None = omega arith
one_at_most (Some x) = omega arith

next_few : (depth rows : ℕ) (ts : List Mark) (xs : List Statement) → spells (next_piece depth rows) ts xs → length xs ≤ length ts
unfolding next_piece
next_few depth rows ts xs o =
    let l = long (sign s.Semi ▹ map as_list (piece depth rows)) ts xs o refl in
    let e = ap length o.made in
    let f = ap length o.spelled.second.made in
    let m = one_at_most o.spelled.second.of in
    omega arith

statements_fit : (n depth rows : ℕ) (ts : List Mark) (xs : List Statement) → length ts ≤ n → spells (repeat (map as_list (piece depth rows)) (next_piece depth rows)) ts xs → nat_le (length xs) (suc n) ≡ true
statements_fit n depth rows ts xs h o =
    let p = o.parts in
    let m = one_at_most p.first.of in
    let e = ap length p.first.made in
    let r = repeats_few (spells (next_piece depth rows)) (next_few depth rows) p.second in
    let a = ap length o.all in
    let f = ap length p.splits in
    le-leb (length xs) (suc n) (omega (arith, length-append o.xs o.ys, length-append p.front p.rest))

-- ---- the limits

loose_message : (n : ℕ) → Loose n (message (16 * n) n (suc n))
unfolding name alias filter item tab join next_tabs next_joins more_from from source direction term order limit select cell row columns insert assignment update delete work level mode next_mode modes beginning begin commit rollback suffix dotted value_word setting_value setting_values assigned transaction_modes characteristics session_setting set show constant_word constant check label constraint_body next_constraint constraints size sized type_name column key_list table_constraint element create control statement piece next_piece message
loose_message n = let le : 16 * n ≤ 16 * n = omega arith in assumption (le, rows_fit n (16 * n), statements_fit n (16 * n) n)

loose_wide : (n : ℕ) → Loose n (wide_message (16 * n) n)
unfolding name alias filter item tab join next_tabs next_joins more_from from source direction term order limit select cell row columns insert assignment update delete work level mode next_mode modes beginning begin commit rollback suffix dotted value_word setting_value setting_values assigned transaction_modes characteristics session_setting set show constant_word constant check label constraint_body next_constraint constraints size sized type_name column key_list table_constraint element create control statement piece next_piece message wide_type wide_element wide_create wide_statement next_wide_piece wide_message
loose_wide n = let le : 16 * n ≤ 16 * n = omega arith in assumption (le, rows_fit n (16 * n))

-- ---- the forms

message_is : (depth rows statements : ℕ) → form (message depth rows statements) ≡ message_form false
unfolding name alias filter item tab join next_tabs next_joins more_from from source direction term order limit select cell row columns insert assignment update delete work level mode next_mode modes beginning begin commit rollback suffix dotted value_word setting_value setting_values assigned transaction_modes characteristics session_setting set show constant_word constant check label constraint_body next_constraint constraints size sized type_name column key_list table_constraint element create control statement piece next_piece message control_form statement_form message_form
message_is depth rows statements = refl

wide_is : (depth rows : ℕ) → form (wide_message depth rows) ≡ with_type (form wide_type)
unfolding name alias filter item tab join next_tabs next_joins more_from from source direction term order limit select cell row columns insert assignment update delete work level mode next_mode modes beginning begin commit rollback suffix dotted value_word setting_value setting_values assigned transaction_modes characteristics session_setting set show constant_word constant check label constraint_body next_constraint constraints size sized type_name column key_list table_constraint element create control statement piece next_piece message wide_type wide_element wide_create wide_statement next_wide_piece wide_message with_type
wide_is depth rows = refl

wide_form_is : with_type wide_form ≡ message_form true
unfolding control control_form statement_form message_form with_type
wide_form_is = refl

message_clear : (wide : Bool) → clear (message_form wide) ≡ true
unfolding name alias filter item tab join next_tabs next_joins more_from from source direction term order limit select cell row columns insert assignment update delete work level mode next_mode modes beginning begin commit rollback suffix dotted value_word setting_value setting_values assigned transaction_modes characteristics session_setting set show constant_word constant check label constraint_body next_constraint constraints size sized type_name column key_list table_constraint element create control statement piece next_piece message control_form statement_form message_form wide_form
message_clear true = refl
message_clear false = refl

message_ends : (wide : Bool) → any (goes_on (message_form wide)) (kind None) ≡ false
unfolding name alias filter item tab join next_tabs next_joins more_from from source direction term order limit select cell row columns insert assignment update delete work level mode next_mode modes beginning begin commit rollback suffix dotted value_word setting_value setting_values assigned transaction_modes characteristics session_setting set show constant_word constant check label constraint_body next_constraint constraints size sized type_name column key_list table_constraint element create control statement piece next_piece message control_form statement_form message_form wide_form
message_ends true = refl
message_ends false = refl

-- ---- messages

-- what is passed over as a whole the form spells
whole : (wide : Bool) (room : ℕ) (ts : List Mark) → passes (at room) (message_form wide) ts ≡ Some [] → Spelled IsAt (message_form wide) ts
whole wide room ts e =
    let t = passes_sound IsAt (at room) (at_sound room) (message_form wide) ts [] e in
    let P : List Mark → Type 0 = λ z. Spelled IsAt (message_form wide) z in
    subst P (sym (t.splits ∙ append-nil t.taken)) t.is

passed : (wide : Bool) (n : ℕ) (ts : List Mark) → Spelled (Within n) (message_form wide) ts → passes (at n) (message_form wide) ts ≡ Some []
passed wide n ts s =
    ap (λ z. passes (at n) (message_form wide) z) (sym (append-nil ts))
    ∙ exact (Within n) (begun n) (filled n) (at n) (at_exact n) s (message_clear wide) [] (message_ends wide)

pub to_unlimited : (room : ℕ) (ts : List Mark) → passes (at room) (message_form false) ts ≡ Some [] → IsUnlimited ts
to_unlimited room ts e =
    let n = length ts in
    let P : Form → Type 0 = λ f. Spelled IsAt f ts in
    let le : n ≤ n = omega arith in
    let r = loosened n (message (16 * n) n (suc n)) (loose_message n) ts le (subst P (sym (message_is (16 * n) n (suc n))) (whole false room ts e)) in
    record { depth = 16 * n; rows = n; statements = suc n; trees = r.value; spelled = r.is }

pub from_unlimited : (ts : List Mark) → IsUnlimited ts → passes (at (11 * length ts + 10)) (message_form false) ts ≡ Some []
from_unlimited ts u =
    let n = 11 * length ts + 10 in
    let le : 11 * length ts + 10 ≤ n = omega arith in
    let P : Form → Type 0 = λ f. Spelled (Within n) f ts in
    passed false n ts (subst P (message_is u.depth u.rows u.statements) (formed n (message u.depth u.rows u.statements) ts u.trees u.spelled le))

pub to_wide : (room : ℕ) (ts : List Mark) → passes (at room) (message_form true) ts ≡ Some [] → IsWide ts
to_wide room ts e =
    let n = length ts in
    let P : Form → Type 0 = λ f. Spelled IsAt f ts in
    let le : n ≤ n = omega arith in
    let s = message_more IsAt wide_form (form wide_type) (widen IsAt) ts (subst P (sym wide_form_is) (whole true room ts e)) in
    let r = loosened n (wide_message (16 * n) n) (loose_wide n) ts le (subst P (sym (wide_is (16 * n) n)) s) in
    record { depth = 16 * n; rows = n; value = r.value; spelled = r.is }

pub from_wide : (ts : List Mark) → IsWide ts → passes (at (11 * length ts + 10)) (message_form true) ts ≡ Some []
from_wide ts u =
    let n = 11 * length ts + 10 in
    let le : 11 * length ts + 10 ≤ n = omega arith in
    let P : Form → Type 0 = λ f. Spelled (Within n) f ts in
    let s = message_more (Within n) (form wide_type) wide_form (narrow (Within n)) ts (subst P (wide_is u.depth u.rows) (formed n (wide_message u.depth u.rows) ts u.value u.spelled le)) in
    passed true n ts (subst P wide_form_is s)
