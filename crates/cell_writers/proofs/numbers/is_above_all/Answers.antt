use Rattle.std.proofs.Common.{◌≡◌, ◌-◌, ◌<◌, length, get_or, arith, ap, ℕ, sym, ◌∙◌, inl, inr}
use Rattle.std.proofs.lemmas.Bool.{cases_lt, ltb-true, eqb-true}
use Rattle.indexed_history.proofs.Ascending.{increasing_less}
use Rattle.cell_writers.proofs.numbers.is_above_all.Goals as goal

pub returns-then-is_empty : goal.returns-then-is_empty
returns-then-is_empty c = λ _ k within.
    let none = eqb-true (length c.args.numbers.now) 0 (sym c.is_empty.ensures ∙ c.if-is_empty.true) in absurd (omega arith)

pub returns : goal.returns
returns c = λ above k within.
    let xs = c.args.numbers.now in
    let last : get_or xs (length xs - 1) 0 < c.args.number = ltb-true (get_or xs (length xs - 1) 0) c.args.number above in
    elim (cases_lt k (length xs - 1)) [
      | inl less ↦ let up = increasing_less xs c.requires k (length xs - 1) less (omega arith) in omega arith
      | inr not_less ↦
          let same : k ≡ length xs - 1 = omega arith in
          let value : get_or xs k 0 ≡ get_or xs (length xs - 1) 0 = ap (λ (i : ℕ). get_or xs i 0) same in omega arith
    ]
