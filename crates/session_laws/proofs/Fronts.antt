-- The first tables of a list, and what they say of cells.
use Rattle.std.proofs.Common.{◌≡◌, ℕ, ◌+◌, ◌<◌, ◌≤◌, List, [], ◌++◌, length, take, Option, true, false, refl, sym, ap, subst, ◌∙◌, arith, append_assoc}
use Rattle.std.specs.List.{slice_get}
use Rattle.std.proofs.lemmas.List.{append-nil, length-append, take-append-le, take_all}
use Rattle.std.proofs.lemmas.Option.{slice_get_within}
use Rattle.cell_base.specs.declared.cell.Cell.{Cell}
use Rattle.cell_base.specs.declared.cell.Cell.TheVariants.{Presence, Field}
use Rattle.cell_base.specs.declared.key.Key.{Key}
use Rattle.cell_base.specs.declared.value.Value.{Value}
use Rattle.cell_base.specs.declared.value.Value.TheVariants as value
use Rattle.sql_tree.specs.declared.table.Table.{Table}
use Rattle.statement_course.specs.Course.{Course, scan, touch, write, done}
use Rattle.history_core.proofs.Places.{slice_get-append_left}
use Rattle.statement_laws.specs.WholeRows.{IsField}
use Rattle.statement_laws.specs.RowCourses.{fields_in, shown_after, owed_after, MayAsk, MayWrite, KeepsWhole}
use Rattle.session_laws.specs.Alone.{AreFirst}

pub first_all : (xs : List Table) → AreFirst xs xs
first_all xs = record { more = []; whole = sym (append-nil xs) }

pub first_then : (xs ys zs : List Table) → AreFirst xs ys → AreFirst ys zs → AreFirst xs zs
first_then xs ys zs one other = record {
  more = one.more ++ other.more;
  whole = other.whole ∙ ap (λ (ts : List Table). ts ++ other.more) one.whole ∙ append_assoc xs one.more other.more;
}

pub first_length : (xs ys : List Table) → AreFirst xs ys → length xs ≤ length ys
first_length xs ys first =
    let long : length ys ≡ length xs + length first.more = ap length first.whole ∙ length-append xs first.more in omega arith

pub first_taken : (xs ys : List Table) → AreFirst xs ys → take (length xs) ys ≡ xs
first_taken xs ys first =
    ap (λ (ts : List Table). take (length xs) ts) first.whole ∙ take-append-le (length xs) xs first.more (omega arith) ∙ take_all (length xs) xs (omega arith)

-- they stand at the same places
first_get : (xs ys : List Table) (n : ℕ) → AreFirst xs ys → n < length xs → slice_get ys n ≡ slice_get xs n
first_get xs ys n first within = ap (λ (ts : List Table). slice_get ts n) first.whole ∙ slice_get-append_left xs first.more n within

pub field_first : (xs ys : List Table) (table column : ℕ) → AreFirst xs ys → IsField xs table column → IsField ys table column
field_first xs ys table column first field = record {
  of_table = field.of_table;
  is = first_get xs ys table first (slice_get_within xs table field.of_table field.is) ∙ field.is;
  within = field.within;
  apart = field.apart;
}

pub ask_first : (xs ys : List Table) (shown : List (ℕ × Key)) (cell : Cell) → AreFirst xs ys → MayAsk xs shown cell → MayAsk ys shown cell
ask_first xs ys shown (Presence table key) first may = tt
ask_first xs ys shown (Field table key column) first may = (field_first xs ys table column first may.0, may.1)

-- what may be written over the first tables may be over all, and the same fields are owed then
pub write_first : (xs ys : List Table) (owed : List Cell) (cell : Cell) (v : Value) → AreFirst xs ys → MayWrite xs owed cell v → MayWrite ys owed cell v
write_first xs ys owed (Presence table key) (value.Flag true) first may = (may.0, let h = may.1 in let k = first_length xs ys first in omega arith)
write_first xs ys owed (Presence table key) (value.Flag false) first may = may
write_first xs ys owed (Presence table key) value.Unset first may = may
write_first xs ys owed (Presence table key) value.Null first may = may
write_first xs ys owed (Presence table key) (value.Int n) first may = may
write_first xs ys owed (Presence table key) (value.Wide n) first may = may
write_first xs ys owed (Presence table key) (value.Text text) first may = may
write_first xs ys owed (Field table key column) v first may = may

pub owed_first : (xs ys : List Table) (owed : List Cell) (cell : Cell) (v : Value) → AreFirst xs ys → MayWrite xs owed cell v →
    owed_after xs owed cell v ≡ owed_after ys owed cell v
owed_first xs ys owed (Presence table key) (value.Flag true) first may =
    ap (λ (t : Option Table). fields_in table key t) (sym (first_get xs ys table first may.1))
owed_first xs ys owed (Presence table key) (value.Flag false) first may = refl
owed_first xs ys owed (Presence table key) value.Unset first may = refl
owed_first xs ys owed (Presence table key) value.Null first may = refl
owed_first xs ys owed (Presence table key) (value.Int n) first may = refl
owed_first xs ys owed (Presence table key) (value.Wide n) first may = refl
owed_first xs ys owed (Presence table key) (value.Text text) first may = refl
owed_first xs ys owed (Field table key column) v first may = refl

-- a course that keeps the rows of the first tables whole keeps those of all
pub keeps_first : (xs ys : List Table) (shown : List (ℕ × Key)) (owed : List Cell) (c : Course) → AreFirst xs ys → KeepsWhole xs shown owed c →
    KeepsWhole ys shown owed c
keeps_first xs ys shown owed (scan table rest) first keeps = (keeps.0, λ keys. keeps_first xs ys shown owed (rest keys) first (keeps.1 keys))
keeps_first xs ys shown owed (touch cell rest) first keeps =
    (keeps.0, ask_first xs ys shown cell first keeps.1, λ v. keeps_first xs ys (shown_after shown cell v) owed (rest v) first (keeps.2 v))
keeps_first xs ys shown owed (write cell v rest) first keeps = (
  write_first xs ys owed cell v first keeps.0,
  subst (λ (cells : List Cell). KeepsWhole ys shown cells rest) (owed_first xs ys owed cell v first keeps.0)
      (keeps_first xs ys shown (owed_after xs owed cell v) rest first keeps.1),
)
keeps_first xs ys shown owed (done outcome) first keeps = keeps

-- the first tables, and those that a look shows after them
pub looked : (known before shown rest all : List Table) (n : ℕ) → all ≡ known ++ rest → all ≡ before ++ shown → length before ≡ n → n ≤ length known →
    take n known ++ shown ≡ all
looked known before shown rest all n one other long within =
    let fronts : take n known ≡ before =
    sym (take-append-le n known rest within) ∙ ap (λ (ts : List Table). take n ts) (sym one ∙ other) ∙ take-append-le n before shown (omega (arith, long))
    ∙ take_all n before (omega (arith, long)) in
    ap (λ (ts : List Table). ts ++ shown) fronts ∙ sym other
