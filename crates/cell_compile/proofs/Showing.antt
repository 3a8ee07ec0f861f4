-- The rows of a table are those of its first place in the picture.
use Rattle.std.proofs.Common.{◌≡◌, ℕ, suc, ◌+◌, ◌<◌, true, false, List, ◌∷◌, length, get_or, drop, ap, sym, ◌∙◌, add-one}
use Rattle.std.specs.Prelude.{◌==◌}
use Rattle.std.proofs.Math.Seq.{drop-cons}
use Rattle.std.proofs.lemmas.Bool.{cond-true, cond-false}
use Rattle.row_meaning.specs.declared.picture.TableRows.{TableRows}
use Rattle.row_meaning.specs.Pictures.{shown_of}

begins : (picture : List TableRows) (i : ℕ) (t : TableRows) → i < length picture → t ≡ get_or picture i t → drop i picture ≡ t ∷ drop (i + 1) picture
begins picture i t within is = rw add-one (drop-cons picture i t within ∙ ap (λ (here : TableRows). here ∷ drop (suc i) picture) (sym is))

pub shown_here : (picture : List TableRows) (i number : ℕ) (t : TableRows) → i < length picture → t ≡ get_or picture i t → (t.table == number) ≡ true
    → shown_of number (drop i picture) ≡ t.rows
shown_here picture i number t within is same = ap (shown_of number) (begins picture i t within is) ∙ cond-true _ _ _ same

pub shown_later : (picture : List TableRows) (i number : ℕ) (t : TableRows) → i < length picture → t ≡ get_or picture i t → (t.table == number) ≡ false
    → shown_of number (drop i picture) ≡ shown_of number (drop (i + 1) picture)
shown_later picture i number t within is other = ap (shown_of number) (begins picture i t within is) ∙ cond-false _ _ _ other
