-- A transaction is noted at the cells that it wrote, one after another.
use Rattle.std.proofs.Common.{◌≡◌, ℕ, ◌+◌, ◌<◌, ◌≤◌, List, length, Some, arith, refl, ap, sym, ◌∙◌, subst, inl, inr, ◌⊎◌}
use Rattle.std.specs.List.{Contains, slice_get}
use Rattle.std.proofs.lemmas.Bool.{cases_lt}
use Rattle.std.proofs.lemmas.Option.{slice_get_within}
use Rattle.txn_buffer.proofs.Lists.{at_contains, contains_at}
use Rattle.cell_base.specs.declared.cell.Cell.{Cell}
use Rattle.cell_base.specs.declared.value.Value.{Value}
use Rattle.indexed_history.specs.declared.index.Index.{Index}
use Rattle.cell_writers.specs.declared.writers.CellWriters.{CellWriters}
use Rattle.cell_writers.specs.Writers.{numbers_at, AreAscending, GainsWriter, GainsWrites, IsWritten}

-- the same lists, as an index of a history keeps them
abbrev pub index_of : CellWriters → Index
index_of writers = record { alloc = writers.alloc; lists = writers.lists }

-- so it is after the first so many cells
pub record GainsPart (old : CellWriters) (writes : List (Cell × Value)) (count number : ℕ) (now : CellWriters) : Type 0 where
  pub ascending : AreAscending now
  pub kept : (q : Cell) (other : ℕ) → Contains (numbers_at old q) other → Contains (numbers_at now q) other
  pub noted : (k : ℕ) (entry : Cell × Value) → k < count → slice_get writes k ≡ Some entry → Contains (numbers_at now entry.0) number
  pub sound : (q : Cell) (other : ℕ) → Contains (numbers_at now q) other → Contains (numbers_at old q) other ⊎ (IsWritten writes q × (other ≡ number))

pub gains_start : (old : CellWriters) (writes : List (Cell × Value)) (number : ℕ) → AreAscending old → GainsPart old writes 0 number old
gains_start old writes number rises = record {
  ascending = rises;
  kept = λ q other there. there;
  noted = λ k entry below at. absurd (omega arith);
  sound = λ q other there. inl there;
}

pub gains_more :
    (old : CellWriters) (writes : List (Cell × Value)) (count number : ℕ) (entry : Cell × Value) (mid now : CellWriters) → slice_get writes count ≡ Some entry →
    AreAscending now → GainsWriter mid entry.0 number now → GainsPart old writes count number mid → GainsPart old writes (count + 1) number now
gains_more old writes count number entry mid now at rises gains part = record {
  ascending = rises;
  kept = λ q other there. (gains q other).1 (inl (part.kept q other there));
  noted = λ k last below is. elim (cases_lt k count) [
    | inl before ↦ (gains last.0 number).1 (inl (part.noted k last before is))
    | inr not_before ↦
        let same : k ≡ count = omega arith in
        let both : Some last ≡ Some entry = sym is ∙ ap (λ (i : ℕ). slice_get writes i) same ∙ at in
        let one : last ≡ entry = cc in
        (gains last.0 number).1 (inr (ap (λ (e : Cell × Value). e.0) one, refl))
  ];
  sound = λ q other there. elim ((gains q other).0 there) [
    | inl was ↦ part.sound q other was
    | inr here ↦
        inr ((entry.1, subst (λ (x : Cell). Contains writes (x, entry.1)) (sym here.0) (contains_at writes count entry at)), here.1)
  ];
}

pub gains_end :
    (old : CellWriters) (writes : List (Cell × Value)) (count number : ℕ) (now : CellWriters) → length writes ≤ count → GainsPart old writes count number now →
    GainsWrites old writes number now
gains_end old writes count number now all part q other = (
  λ there. part.sound q other there,
  λ either. elim either [
    | inl was ↦ part.kept q other was
    | inr (written, same) ↦
        let at = at_contains writes (q, written.0) written.1 in
        let within = slice_get_within writes at.0 (q, written.0) at.1 in
        subst (λ (n : ℕ). Contains (numbers_at now q) n) (sym same) (part.noted at.0 (q, written.0) (omega arith) at.1)
  ],
)
