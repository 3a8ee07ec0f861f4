-- A transaction is taken out of the lists of the cells that it wrote, one after another.
use Rattle.std.proofs.Common.{◌≡◌, ◌≢◌, ℕ, ◌+◌, ◌<◌, ◌≤◌, List, length, Some, arith, refl, ap, sym, ◌∙◌, inl, inr}
use Rattle.std.specs.List.{Contains, slice_get}
use Rattle.std.proofs.lemmas.Bool.{cases_lt}
use Rattle.std.proofs.lemmas.Option.{slice_get_within}
use Rattle.txn_buffer.proofs.Lists.{at_contains}
use Rattle.cell_base.specs.declared.cell.Cell.{Cell}
use Rattle.cell_base.specs.declared.value.Value.{Value}
use Rattle.indexed_history.specs.declared.index.Index.{Index}
use Rattle.indexed_history.specs.Index.{numbers_at, AreAscending, LosesWriter, Forgets}

-- so it is after the first so many cells
pub record ForgetsPart (old : Index) (writes : List (Cell × Value)) (count number : ℕ) (now : Index) : Type 0 where
  pub ascending : AreAscending now
  pub fewer : (q : Cell) (other : ℕ) → Contains (numbers_at now q) other → Contains (numbers_at old q) other
  pub others : (q : Cell) (other : ℕ) → other ≢ number → Contains (numbers_at old q) other → Contains (numbers_at now q) other
  pub gone : (k : ℕ) (entry : Cell × Value) → k < count → slice_get writes k ≡ Some entry → Contains (numbers_at now entry.0) number → ⊥

pub forgets_start : (old : Index) (writes : List (Cell × Value)) (number : ℕ) → AreAscending old → ForgetsPart old writes 0 number old
forgets_start old writes number rises = record {
  ascending = rises;
  fewer = λ q other there. there;
  others = λ q other apart there. there;
  gone = λ k entry below at there. absurd (omega arith);
}

pub forgets_more :
    (old : Index) (writes : List (Cell × Value)) (count number : ℕ) (entry : Cell × Value) (mid now : Index) → slice_get writes count ≡ Some entry →
    AreAscending now → LosesWriter mid entry.0 number now → ForgetsPart old writes count number mid → ForgetsPart old writes (count + 1) number now
forgets_more old writes count number entry mid now at rises loses part = record {
  ascending = rises;
  fewer = λ q other there. part.fewer q other ((loses q other).0 there).0;
  others = λ q other apart there. (loses q other).1 (part.others q other apart there, λ both. apart both.1);
  gone = λ k last below is there. elim (cases_lt k count) [
    | inl before ↦ part.gone k last before is ((loses last.0 number).0 there).0
    | inr not_before ↦
        let same : k ≡ count = omega arith in
        let both : Some last ≡ Some entry = sym is ∙ ap (λ (i : ℕ). slice_get writes i) same ∙ at in
        let one : last ≡ entry = cc in
        ((loses last.0 number).0 there).1 (ap (λ (e : Cell × Value). e.0) one, refl)
  ];
}

pub forgets_end :
    (old : Index) (writes : List (Cell × Value)) (count number : ℕ) (now : Index) → length writes ≤ count → ForgetsPart old writes count number now → Forgets old writes number now
forgets_end old writes count number now all part = record {
  ascending = part.ascending;
  fewer = part.fewer;
  others = part.others;
  gone = λ q value written there.
      let at = at_contains writes (q, value) written in
      let within = slice_get_within writes at.0 (q, value) at.1 in
      part.gone at.0 (q, value) (omega arith) at.1 there;
}
