-- The parts of a SELECT are of different tables.
use Rattle.std.proofs.Common.{◌≡◌, ◌≢◌, ℕ, ◌==◌, false, List, [], ◌∷◌, Option, Some, None, sym}
use Rattle.std.specs.Prelude.{slice_get}
use Rattle.std.specs.List.{list_any, AllByRecursion}
use Rattle.std.proofs.lemmas.Bool.{cond_both, or_parts, eqb-false}
use Rattle.cell_base.specs.declared.key.Key.{Key}
use Rattle.sql_tree.specs.declared.table.Table.{Table}
use Rattle.statement_course.specs.Reading.{Part, part_before, parts_from}
use Rattle.statement_laws.proofs.MentionsOnce.{IsOnce}
use Rattle.statement_laws.proofs.ReadingOnce.{AreApart}

abbrev IsNew : List ℕ → Part → Type 0
IsNew before part = list_any (λ n. n == part.table) before ≡ false

-- parts of different tables, none of them among those that stand before
pub record ArePicked (before : List ℕ) (parts : List Part) : Type 0 where
  pub new : AllByRecursion (IsNew before) parts
  pub apart : AreApart parts

still_new : (number : ℕ) (before : List ℕ) (parts : List Part) → AllByRecursion (IsNew (number ∷ before)) parts → AllByRecursion (IsNew before) parts
still_new number before [] h = tt
still_new number before (p ∷ ps) h = ((or_parts (number == p.table) (list_any (λ n. n == p.table) before) h.0).1, still_new number before ps h.1)

others_new : (number : ℕ) (before : List ℕ) (parts : List Part) → AllByRecursion (IsNew (number ∷ before)) parts
    → AllByRecursion (λ (p : Part). p.table ≢ number) parts
others_new number before [] h = tt
others_new number before (p ∷ ps) h =
    ((λ e. eqb-false number p.table (or_parts (number == p.table) (list_any (λ n. n == p.table) before) h.0).0 (sym e)), others_new number before ps h.1)

picked_one : (number : ℕ) (found : Option Table) (columns : List ℕ) (point : Option Key) (before : List ℕ) (parts : List Part)
    → list_any (λ n. n == number) before ≡ false → IsOnce columns → ArePicked (number ∷ before) parts
    → ArePicked before (part_before number found columns point parts)
picked_one number None columns point before parts new once others =
    record { new = still_new number before parts others.new; apart = others.apart }
picked_one number (Some table) columns point before parts new once others = record {
  new = (new, still_new number before parts others.new);
  apart = (others_new number before parts others.new, once, others.apart);
}

pub picked : (tables : List Table) (before numbers : List ℕ) (columns : List (List ℕ)) (points : List (Option Key))
    → AllByRecursion IsOnce columns → ArePicked before (parts_from tables before numbers columns points)
picked tables before (number ∷ numbers) (columns ∷ more) (point ∷ points) once =
    cond_both (list_any (λ n. n == number) before) _ _ (ArePicked before)
    (λ _. picked tables before numbers more points once.1)
    (λ new. picked_one number (slice_get tables number) columns point before (parts_from tables (number ∷ before) numbers more points) new once.0
    (picked tables (number ∷ before) numbers more points once.1))
picked tables before _ _ _ once = record { new = tt; apart = tt }
