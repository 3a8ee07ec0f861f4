-- The verdict on each event: that it keeps to all rules, or the first one that it breaks.
use Rattle.std.proofs.Common.{◌≡◌, ℕ, ◌+◌, ◌<◌, List, Some, length, arith, refl}
use Rattle.cell_base.specs.declared.level.Level.{Level}
use Rattle.cell_base.specs.declared.cell.Cell.{Cell}
use Rattle.cell_base.specs.declared.key.Key.{Key}
use Rattle.cell_base.specs.declared.value.Value.{Value as CellValue}
use Rattle.history_core.specs.declared.event.Event.{Event}
use Rattle.history_core.specs.declared.event.Event.TheVariants as events
use Rattle.history_check.specs.declared.breach.Breach.TheVariants.{Shape, Number, Keys, Own, Source, Value, Count}
use Rattle.history_check.specs.Rules.{right_number, Rule, shape, number, keys, own, source, value, count, rank, Keeps, IsRight, IsInShape, HasCandidates}
use Rattle.history_check.specs.Breaches.{IsBreachOf}

-- the state of the session doesn't allow the event
pub shape_broken : (initial : List (Cell × CellValue)) (before : List Event) (e : Event) → (IsInShape before e → ⊥) → IsBreachOf initial before e (Shape (length before + 1))
shape_broken initial before e broken = record {
  rule = shape;
  broken = broken;
  first = λ other less. absurd (omega arith);
  told = refl;
}

pub open_right : (initial : List (Cell × CellValue)) (before : List Event) (s : ℕ) → Keeps initial before (events.Open s) shape → IsRight initial before (events.Open s)
open_right initial before s is_shape shape = is_shape
open_right initial before s is_shape number = tt
open_right initial before s is_shape keys = tt
open_right initial before s is_shape own = tt
open_right initial before s is_shape source = tt
open_right initial before s is_shape value = tt
open_right initial before s is_shape count = tt

pub close_right : (initial : List (Cell × CellValue)) (before : List Event) (s : ℕ) → Keeps initial before (events.Close s) shape → IsRight initial before (events.Close s)
close_right initial before s is_shape shape = is_shape
close_right initial before s is_shape number = tt
close_right initial before s is_shape keys = tt
close_right initial before s is_shape own = tt
close_right initial before s is_shape source = tt
close_right initial before s is_shape value = tt
close_right initial before s is_shape count = tt

pub define_right : (initial : List (Cell × CellValue)) (before : List Event) (s : ℕ) (name : List ℕ) → Keeps initial before (events.Define s name) shape → IsRight initial before (events.Define s name)
define_right initial before s name is_shape shape = is_shape
define_right initial before s name is_shape number = tt
define_right initial before s name is_shape keys = tt
define_right initial before s name is_shape own = tt
define_right initial before s name is_shape source = tt
define_right initial before s name is_shape value = tt
define_right initial before s name is_shape count = tt

pub begin_right : (initial : List (Cell × CellValue)) (before : List Event) (s : ℕ) (level : Level) → Keeps initial before (events.Begin s level) shape → IsRight initial before (events.Begin s level)
begin_right initial before s level is_shape shape = is_shape
begin_right initial before s level is_shape number = tt
begin_right initial before s level is_shape keys = tt
begin_right initial before s level is_shape own = tt
begin_right initial before s level is_shape source = tt
begin_right initial before s level is_shape value = tt
begin_right initial before s level is_shape count = tt

pub write_right : (initial : List (Cell × CellValue)) (before : List Event) (s : ℕ) (x : Cell) (v : CellValue) → Keeps initial before (events.Write s x v) shape → IsRight initial before (events.Write s x v)
write_right initial before s x v is_shape shape = is_shape
write_right initial before s x v is_shape number = tt
write_right initial before s x v is_shape keys = tt
write_right initial before s x v is_shape own = tt
write_right initial before s x v is_shape source = tt
write_right initial before s x v is_shape value = tt
write_right initial before s x v is_shape count = tt

pub commit_right : (initial : List (Cell × CellValue)) (before : List Event) (s : ℕ) → Keeps initial before (events.Commit s) shape → IsRight initial before (events.Commit s)
commit_right initial before s is_shape shape = is_shape
commit_right initial before s is_shape number = tt
commit_right initial before s is_shape keys = tt
commit_right initial before s is_shape own = tt
commit_right initial before s is_shape source = tt
commit_right initial before s is_shape value = tt
commit_right initial before s is_shape count = tt

pub rollback_right : (initial : List (Cell × CellValue)) (before : List Event) (s : ℕ) → Keeps initial before (events.Rollback s) shape → IsRight initial before (events.Rollback s)
rollback_right initial before s is_shape shape = is_shape
rollback_right initial before s is_shape number = tt
rollback_right initial before s is_shape keys = tt
rollback_right initial before s is_shape own = tt
rollback_right initial before s is_shape source = tt
rollback_right initial before s is_shape value = tt
rollback_right initial before s is_shape count = tt

pub look_right : (initial : List (Cell × CellValue)) (before : List Event) (s : ℕ) (t : ℕ) → Keeps initial before (events.Look s t) shape → Keeps initial before (events.Look s t) number → IsRight initial before (events.Look s t)
look_right initial before s t is_shape is_number shape = is_shape
look_right initial before s t is_shape is_number number = is_number
look_right initial before s t is_shape is_number keys = tt
look_right initial before s t is_shape is_number own = tt
look_right initial before s t is_shape is_number source = tt
look_right initial before s t is_shape is_number value = tt
look_right initial before s t is_shape is_number count = tt

pub look_number_broken :
    (initial : List (Cell × CellValue)) (before : List Event) (s : ℕ) (t : ℕ) → Keeps initial before (events.Look s t) shape →
    (Keeps initial before (events.Look s t) number → ⊥) → (should : ℕ) → right_number before (events.Look s t) ≡ Some should → IsBreachOf initial before (events.Look s t) (Number (length before + 1) should)
look_number_broken initial before s t is_shape broken should is = record {
  rule = number;
  broken = broken;
  first = first;
  told = (should, is, refl);
}
  where
    first : (other : Rule) → rank other < rank number → Keeps initial before (events.Look s t) other
    first shape less = is_shape
    first number less = absurd (omega arith)
    first keys less = absurd (omega arith)
    first own less = absurd (omega arith)
    first source less = absurd (omega arith)
    first value less = absurd (omega arith)
    first count less = absurd (omega arith)

pub show_right : (initial : List (Cell × CellValue)) (before : List Event) (s : ℕ) (m : ℕ) → Keeps initial before (events.Show s m) shape → Keeps initial before (events.Show s m) number → IsRight initial before (events.Show s m)
show_right initial before s m is_shape is_number shape = is_shape
show_right initial before s m is_shape is_number number = is_number
show_right initial before s m is_shape is_number keys = tt
show_right initial before s m is_shape is_number own = tt
show_right initial before s m is_shape is_number source = tt
show_right initial before s m is_shape is_number value = tt
show_right initial before s m is_shape is_number count = tt

pub show_number_broken :
    (initial : List (Cell × CellValue)) (before : List Event) (s : ℕ) (m : ℕ) → Keeps initial before (events.Show s m) shape →
    (Keeps initial before (events.Show s m) number → ⊥) → (should : ℕ) → right_number before (events.Show s m) ≡ Some should → IsBreachOf initial before (events.Show s m) (Number (length before + 1) should)
show_number_broken initial before s m is_shape broken should is = record {
  rule = number;
  broken = broken;
  first = first;
  told = (should, is, refl);
}
  where
    first : (other : Rule) → rank other < rank number → Keeps initial before (events.Show s m) other
    first shape less = is_shape
    first number less = absurd (omega arith)
    first keys less = absurd (omega arith)
    first own less = absurd (omega arith)
    first source less = absurd (omega arith)
    first value less = absurd (omega arith)
    first count less = absurd (omega arith)

pub scan_right : (initial : List (Cell × CellValue)) (before : List Event) (s : ℕ) (t : ℕ) (listed : List Key) → Keeps initial before (events.Scan s t listed) shape → Keeps initial before (events.Scan s t listed) keys → IsRight initial before (events.Scan s t listed)
scan_right initial before s t listed is_shape is_keys shape = is_shape
scan_right initial before s t listed is_shape is_keys number = tt
scan_right initial before s t listed is_shape is_keys keys = is_keys
scan_right initial before s t listed is_shape is_keys own = tt
scan_right initial before s t listed is_shape is_keys source = tt
scan_right initial before s t listed is_shape is_keys value = tt
scan_right initial before s t listed is_shape is_keys count = tt

pub scan_keys_broken :
    (initial : List (Cell × CellValue)) (before : List Event) (s : ℕ) (t : ℕ) (listed : List Key) → Keeps initial before (events.Scan s t listed) shape →
    (Keeps initial before (events.Scan s t listed) keys → ⊥) → IsBreachOf initial before (events.Scan s t listed) (Keys (length before + 1))
scan_keys_broken initial before s t listed is_shape broken = record {
  rule = keys;
  broken = broken;
  first = first;
  told = refl;
}
  where
    first : (other : Rule) → rank other < rank keys → Keeps initial before (events.Scan s t listed) other
    first shape less = is_shape
    first number less = tt
    first keys less = absurd (omega arith)
    first own less = absurd (omega arith)
    first source less = absurd (omega arith)
    first value less = absurd (omega arith)
    first count less = absurd (omega arith)

pub read_right : (initial : List (Cell × CellValue)) (before : List Event) (s : ℕ) (x : Cell) (w : ℕ) (n : ℕ) (u : ℕ) (v : CellValue) → Keeps initial before (events.Read s x w n u v) shape → Keeps initial before (events.Read s x w n u v) own → Keeps initial before (events.Read s x w n u v) source → Keeps initial before (events.Read s x w n u v) value → Keeps initial before (events.Read s x w n u v) count → IsRight initial before (events.Read s x w n u v)
read_right initial before s x w n u v is_shape is_own is_source is_value is_count shape = is_shape
read_right initial before s x w n u v is_shape is_own is_source is_value is_count number = tt
read_right initial before s x w n u v is_shape is_own is_source is_value is_count keys = tt
read_right initial before s x w n u v is_shape is_own is_source is_value is_count own = is_own
read_right initial before s x w n u v is_shape is_own is_source is_value is_count source = is_source
read_right initial before s x w n u v is_shape is_own is_source is_value is_count value = is_value
read_right initial before s x w n u v is_shape is_own is_source is_value is_count count = is_count

pub read_own_broken :
    (initial : List (Cell × CellValue)) (before : List Event) (s : ℕ) (x : Cell) (w : ℕ) (n : ℕ) (u : ℕ) (v : CellValue) → Keeps initial before (events.Read s x w n u v) shape →
    (Keeps initial before (events.Read s x w n u v) own → ⊥) → IsBreachOf initial before (events.Read s x w n u v) (Own (length before + 1))
read_own_broken initial before s x w n u v is_shape broken = record {
  rule = own;
  broken = broken;
  first = first;
  told = refl;
}
  where
    first : (other : Rule) → rank other < rank own → Keeps initial before (events.Read s x w n u v) other
    first shape less = is_shape
    first number less = tt
    first keys less = tt
    first own less = absurd (omega arith)
    first source less = absurd (omega arith)
    first value less = absurd (omega arith)
    first count less = absurd (omega arith)

pub read_source_broken :
    (initial : List (Cell × CellValue)) (before : List Event) (s : ℕ) (x : Cell) (w : ℕ) (n : ℕ) (u : ℕ) (v : CellValue) → Keeps initial before (events.Read s x w n u v) shape → Keeps initial before (events.Read s x w n u v) own →
    (Keeps initial before (events.Read s x w n u v) source → ⊥) → IsBreachOf initial before (events.Read s x w n u v) (Source (length before + 1))
read_source_broken initial before s x w n u v is_shape is_own broken = record {
  rule = source;
  broken = broken;
  first = first;
  told = refl;
}
  where
    first : (other : Rule) → rank other < rank source → Keeps initial before (events.Read s x w n u v) other
    first shape less = is_shape
    first number less = tt
    first keys less = tt
    first own less = is_own
    first source less = absurd (omega arith)
    first value less = absurd (omega arith)
    first count less = absurd (omega arith)

pub read_value_broken :
    (initial : List (Cell × CellValue)) (before : List Event) (s : ℕ) (x : Cell) (w : ℕ) (n : ℕ) (u : ℕ) (v : CellValue) → Keeps initial before (events.Read s x w n u v) shape → Keeps initial before (events.Read s x w n u v) own → Keeps initial before (events.Read s x w n u v) source →
    (Keeps initial before (events.Read s x w n u v) value → ⊥) → IsBreachOf initial before (events.Read s x w n u v) (Value (length before + 1))
read_value_broken initial before s x w n u v is_shape is_own is_source broken = record {
  rule = value;
  broken = broken;
  first = first;
  told = refl;
}
  where
    first : (other : Rule) → rank other < rank value → Keeps initial before (events.Read s x w n u v) other
    first shape less = is_shape
    first number less = tt
    first keys less = tt
    first own less = is_own
    first source less = is_source
    first value less = absurd (omega arith)
    first count less = absurd (omega arith)

pub read_count_broken :
    (initial : List (Cell × CellValue)) (before : List Event) (s : ℕ) (x : Cell) (w : ℕ) (n : ℕ) (u : ℕ) (v : CellValue) → Keeps initial before (events.Read s x w n u v) shape → Keeps initial before (events.Read s x w n u v) own → Keeps initial before (events.Read s x w n u v) source → Keeps initial before (events.Read s x w n u v) value →
    (Keeps initial before (events.Read s x w n u v) count → ⊥) → (should : ℕ) → HasCandidates before x should → IsBreachOf initial before (events.Read s x w n u v) (Count (length before + 1) should)
read_count_broken initial before s x w n u v is_shape is_own is_source is_value broken should is = record {
  rule = count;
  broken = broken;
  first = first;
  told = (should, is, refl);
}
  where
    first : (other : Rule) → rank other < rank count → Keeps initial before (events.Read s x w n u v) other
    first shape less = is_shape
    first number less = tt
    first keys less = tt
    first own less = is_own
    first source less = is_source
    first value less = is_value
    first count less = absurd (omega arith)

pub own_right : (initial : List (Cell × CellValue)) (before : List Event) (s : ℕ) (x : Cell) (v : CellValue) → Keeps initial before (events.Own s x v) shape → Keeps initial before (events.Own s x v) own → Keeps initial before (events.Own s x v) value → IsRight initial before (events.Own s x v)
own_right initial before s x v is_shape is_own is_value shape = is_shape
own_right initial before s x v is_shape is_own is_value number = tt
own_right initial before s x v is_shape is_own is_value keys = tt
own_right initial before s x v is_shape is_own is_value own = is_own
own_right initial before s x v is_shape is_own is_value source = tt
own_right initial before s x v is_shape is_own is_value value = is_value
own_right initial before s x v is_shape is_own is_value count = tt

pub own_own_broken :
    (initial : List (Cell × CellValue)) (before : List Event) (s : ℕ) (x : Cell) (v : CellValue) → Keeps initial before (events.Own s x v) shape →
    (Keeps initial before (events.Own s x v) own → ⊥) → IsBreachOf initial before (events.Own s x v) (Own (length before + 1))
own_own_broken initial before s x v is_shape broken = record {
  rule = own;
  broken = broken;
  first = first;
  told = refl;
}
  where
    first : (other : Rule) → rank other < rank own → Keeps initial before (events.Own s x v) other
    first shape less = is_shape
    first number less = tt
    first keys less = tt
    first own less = absurd (omega arith)
    first source less = absurd (omega arith)
    first value less = absurd (omega arith)
    first count less = absurd (omega arith)

pub own_value_broken :
    (initial : List (Cell × CellValue)) (before : List Event) (s : ℕ) (x : Cell) (v : CellValue) → Keeps initial before (events.Own s x v) shape → Keeps initial before (events.Own s x v) own →
    (Keeps initial before (events.Own s x v) value → ⊥) → IsBreachOf initial before (events.Own s x v) (Value (length before + 1))
own_value_broken initial before s x v is_shape is_own broken = record {
  rule = value;
  broken = broken;
  first = first;
  told = refl;
}
  where
    first : (other : Rule) → rank other < rank value → Keeps initial before (events.Own s x v) other
    first shape less = is_shape
    first number less = tt
    first keys less = tt
    first own less = is_own
    first source less = tt
    first value less = absurd (omega arith)
    first count less = absurd (omega arith)
