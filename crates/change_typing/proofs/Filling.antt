-- What the slots of a row hold.
use Rattle.std.proofs.Common.{◌≡◌, ℕ, zero, suc, ◌+◌, ◌<◌, ◌==◌, Bool, true, false, cond, List, [], ◌∷◌, length, map, set, get_or, replicate, Option, Some, None, Ok, Err, refl, ap, sym, ◌∙◌, arith}
use Rattle.std.proofs.lemmas.Bool.{eqb-false, eqb-true}
use Rattle.std.proofs.lemmas.List.{length-set, get_or-set_same, get_or-set_other}
use Rattle.sql_tree.specs.declared.table.Column.{Column}
use Rattle.sql_tree.specs.declared.typed_expr.TypedExpr.{TypedExpr}
use Rattle.typing_rules.specs.Outcome.{Outcome, and_then}
use Rattle.typing_rules.specs.Tables.{Target, numbered_from, all_targets, is_among}
use Rattle.typing_rules.specs.Insert.{value_at}
use Rattle.change_typing.specs.Targets.{AreColumns}
use Rattle.change_typing.specs.Rows.{put, value_or, filled}
use Rattle.change_typing.proofs.Numbers.{neither, swapped}

-- the expression that goes to the column of this number
abbrev pub slot : ℕ → List Target → List TypedExpr → Option TypedExpr
slot n [] es = None
slot n (t ∷ ts) [] = None
slot n (t ∷ ts) (e ∷ es) = cond (n == t.number) (Some e) (slot n ts es)

abbrev pub or_else : Option TypedExpr → Option TypedExpr → Option TypedExpr
or_else (Some e) other = Some e
or_else None other = other

pub length-put : (slots : List (Option TypedExpr)) (ts : List Target) (es : List TypedExpr) → length (put slots ts es) ≡ length slots
length-put slots [] es = refl
length-put slots (t ∷ ts) [] = refl
length-put slots (t ∷ ts) (e ∷ es) = length-put (set slots t.number (Some e)) ts es ∙ length-set slots t.number (Some e)

pub put_none : (slots : List (Option TypedExpr)) (ts : List Target) → put slots ts [] ≡ slots
put_none slots [] = refl
put_none slots (t ∷ ts) = refl

slot_none : (n : ℕ) (ts : List Target) (es : List TypedExpr) → is_among n ts ≡ false → slot n ts es ≡ None
slot_none n [] es e = refl
slot_none n (t ∷ ts) [] e = refl
slot_none n (t ∷ ts) (x ∷ es) e =
    let two : ((t.number == n) ≡ false) × (is_among n ts ≡ false) = neither (t.number == n) (is_among n ts) e in
    rw (swapped t.number n two.0) (slot_none n ts es two.1)

put_at : (slots : List (Option TypedExpr)) (ts : List Target) (es : List TypedExpr) (k : ℕ) → AreColumns (length slots) ts → k < length slots
    → get_or (put slots ts es) k None ≡ or_else (slot k ts es) (get_or slots k None)
put_at slots [] es k are within = refl
put_at slots (t ∷ ts) [] k are within = refl
put_at slots (t ∷ ts) (e ∷ es) k are within =
    let same : length (set slots t.number (Some e)) ≡ length slots = length-set slots t.number (Some e) in
    put_at (set slots t.number (Some e)) ts es k (rw same are.1.1) (omega (arith, same)) ∙ here (k == t.number) refl
  where
    here : (b : Bool) → (k == t.number) ≡ b
        → or_else (slot k ts es) (get_or (set slots t.number (Some e)) k None)
        ≡ or_else (cond (k == t.number) (Some e) (slot k ts es)) (get_or slots k None)
    here true is =
        let number : k ≡ t.number = eqb-true k t.number is in
        let none : slot k ts es ≡ None = slot_none k ts es (rw number are.1.0) in
        let now : get_or (set slots t.number (Some e)) k None ≡ Some e =
        ap (λ n. get_or (set slots t.number (Some e)) n None) number ∙ get_or-set_same slots t.number (Some e) None are.0 in
        rw (is, none) now
    here false is =
        let other : get_or (set slots t.number (Some e)) k None ≡ get_or slots k None =
        get_or-set_other slots t.number k (Some e) None (eqb-false k t.number is) in
        rw (is) (ap (or_else (slot k ts es)) other)

empty_at : (n k : ℕ) → get_or (replicate {A = Option TypedExpr} n None) k None ≡ None
empty_at zero k = refl
empty_at (suc n) zero = refl
empty_at (suc n) (suc k) = empty_at n k

pub length-empty : (n : ℕ) → length (replicate {A = Option TypedExpr} n None) ≡ n
length-empty zero = refl
length-empty (suc n) = ap suc (length-empty n)

or_none : (o : Option TypedExpr) → or_else o None ≡ o
or_none (Some e) = refl
or_none None = refl

filling_at : (count : ℕ) (ts : List Target) (es : List TypedExpr) (k : ℕ) → AreColumns count ts → k < count
    → get_or (put (replicate {A = Option TypedExpr} count None) ts es) k None ≡ slot k ts es
filling_at count ts es k are within =
    put_at (replicate {A = Option TypedExpr} count None) ts es k (rw (length-empty count) are) (omega (arith, length-empty count))
    ∙ ap (or_else (slot k ts es)) (empty_at count k) ∙ or_none (slot k ts es)

by_test : (b : Bool) (c : Column) (e : TypedExpr) (o : Option TypedExpr) (rest : TypedExpr) → rest ≡ value_or c o
    → cond b e rest ≡ value_or c (cond b (Some e) o)
by_test true c e o rest h = refl
by_test false c e o rest h = h

value_in_slot : (t : Target) (ts : List Target) (es : List TypedExpr) → value_at t ts es ≡ value_or t.column (slot t.number ts es)
value_in_slot c [] es = refl
value_in_slot c (t ∷ ts) [] = refl
value_in_slot c (t ∷ ts) (e ∷ es) = by_test (c.number == t.number) c.column e (slot c.number ts es) (value_at c ts es) (value_in_slot c ts es)

filled_is : (i : ℕ) (slots : List (Option TypedExpr)) (columns : List Column) (ts : List Target) (es : List TypedExpr)
    → length slots ≡ length columns
    → ((k : ℕ) → k < length columns → get_or slots k None ≡ slot (i + k) ts es)
    → filled slots columns ≡ map (λ c. value_at c ts es) (numbered_from i columns)
filled_is i slots [] ts es many each = refl
filled_is i [] (c ∷ cs) ts es many each = absurd (omega arith)
filled_is i (s ∷ ss) (c ∷ cs) ts es many each =
    let here : s ≡ slot i ts es = each 0 (omega arith) ∙ ap (λ n. slot n ts es) (omega arith) in
    let value : value_or c s ≡ value_at (record { number = i; column = c }) ts es = ap (value_or c) here
    ∙ sym (value_in_slot (record { number = i; column = c }) ts es) in
    let more : filled ss cs ≡ map (λ c. value_at c ts es) (numbered_from (i + 1) cs) =
    filled_is (i + 1) ss cs ts es (omega arith) (λ k h. each (suc k) (omega arith) ∙ ap (λ n. slot n ts es) (omega arith)) in
    ap (λ x. x ∷ filled ss cs) value ∙ ap (λ xs. value_at (record { number = i; column = c }) ts es ∷ xs) more

pub slots_length : (o : Outcome (List TypedExpr)) (count : ℕ) (ts : List Target) (slots : List (Option TypedExpr))
    → and_then o (λ es. Ok (put (replicate {A = Option TypedExpr} count None) ts es)) ≡ Ok slots → length slots ≡ count
slots_length (Err code) count ts slots e = cc
slots_length (Ok es) count ts slots e =
    let is : put (replicate {A = Option TypedExpr} count None) ts es ≡ slots = cc in
    sym (ap length is) ∙ length-put (replicate {A = Option TypedExpr} count None) ts es ∙ length-empty count

-- the row, where its slots are filled
pub row_done : (o : Outcome (List TypedExpr)) (columns : List Column) (ts : List Target) (slots : List (Option TypedExpr)) (row : List TypedExpr)
    → AreColumns (length columns) ts
    → and_then o (λ es. Ok (put (replicate {A = Option TypedExpr} (length columns) None) ts es)) ≡ Ok slots → row ≡ filled slots columns
    → and_then o (λ es. Ok (map (λ c. value_at c ts es) (all_targets columns))) ≡ Ok row
row_done (Err code) columns ts slots row are e is = cc
row_done (Ok es) columns ts slots row are e is =
    let slots_are : slots ≡ put (replicate {A = Option TypedExpr} (length columns) None) ts es = cc in
    let many : length slots ≡ length columns = slots_length (Ok es) (length columns) ts slots e in
    let whole : filled slots columns ≡ map (λ c. value_at c ts es) (all_targets columns) =
    filled_is 0 slots columns ts es many
    (λ k h. ap (λ s. get_or s k None) slots_are ∙ filling_at (length columns) ts es k are h ∙ ap (λ n. slot n ts es) (omega arith)) in
    ap Ok (sym (is ∙ whole))
