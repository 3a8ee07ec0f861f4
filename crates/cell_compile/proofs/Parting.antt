-- The parts of a SELECT, entry by entry.
use Rattle.std.proofs.Common.{◌≡◌, ℕ, ◌==◌, false, List, [], ◌∷◌, ◌++◌, Option, Some, None, refl, sym, ap, ◌∙◌, append_assoc}
use Rattle.std.specs.Prelude.{slice_get}
use Rattle.std.specs.List.{list_any}
use Rattle.std.proofs.lemmas.Bool.{cond-false}
use Rattle.cell_base.specs.declared.key.Key.{Key}
use Rattle.sql_tree.specs.declared.table.Table.{Table}
use Rattle.statement_course.specs.Reading.{Part, part_before, parts_from}

part_and_rest : (number : ℕ) (table : Option Table) (columns : List ℕ) (point : Option Key) (rest : List Part)
    → part_before number table columns point rest ≡ part_before number table columns point [] ++ rest
part_and_rest number None columns point rest = refl
part_and_rest number (Some table) columns point rest = refl

-- the table of an entry is none of those before it
entry_new : (tables : List Table) (before numbers : List ℕ) (columns : List (List ℕ)) (points : List (Option Key))
    (number : ℕ) (mentioned : List ℕ) (point : Option Key) (some more all : List Part)
    → list_any (λ n. n == number) before ≡ false
    → more ≡ some ++ part_before number (slice_get tables number) mentioned point []
    → all ≡ more ++ parts_from tables (number ∷ before) numbers columns points
    → all ≡ some ++ parts_from tables before (number ∷ numbers) (mentioned ∷ columns) (point ∷ points)
entry_new tables before numbers columns points number mentioned point some more all new one others =
    let rest = parts_from tables (number ∷ before) numbers columns points in
    let here = part_before number (slice_get tables number) mentioned point [] in
    others ∙ ap (λ (parts : List Part). parts ++ rest) one ∙ append_assoc some here rest
    ∙ ap (λ (parts : List Part). some ++ parts)
    (sym (cond-false _ _ _ new ∙ part_and_rest number (slice_get tables number) mentioned point rest))

pub entry_added : (tables : List Table) (before after numbers others : List ℕ) (columns columns' : List (List ℕ)) (points points' : List (Option Key))
    (number : ℕ) (mentioned : List ℕ) (point : Option Key) (some more all : List Part)
    → numbers ≡ number ∷ others → columns ≡ mentioned ∷ columns' → points ≡ point ∷ points' → after ≡ number ∷ before
    → list_any (λ n. n == number) before ≡ false
    → more ≡ some ++ part_before number (slice_get tables number) mentioned point []
    → all ≡ more ++ parts_from tables after others columns' points'
    → all ≡ some ++ parts_from tables before numbers columns points
entry_added tables before after numbers others columns columns' points points' number mentioned point some more all e f g h new one rest =
    rw (e, f, g)
    (entry_new tables before others columns' points' number mentioned point some more all new one
    (rest ∙ ap (λ (before : List ℕ). more ++ parts_from tables before others columns' points') h))
