use Rattle.std.proofs.Common.{◌∙◌, arith, inl, inr}
use Rattle.std.proofs.lemmas.Bool.{cases_lt, false≢true}
use Rattle.indexed_history.proofs.Ascending.{found_err, get_contained}
use Rattle.cell_writers.proofs.numbers.Numbers.contains.Goals as goal

pub returns-in-Err : goal.returns-in-Err
returns-in-Err c =
    let at = found_err c.args.self.now c.deref.result.now c.args.number c.in-Err._at c.binary_search.result (c.deref.ensures.value ∙ c.self.view_is) c.requires
    c.binary_search.ensures.position c.in-Err.is
    in (
      λ h. absurd (false≢true h),
      λ there.
          let found = get_contained c.args.self.now c.args.number there in
          let is = found.2 in
          absurd (elim (cases_lt found.0 c.in-Err._at) [
            | inl less ↦ let h = at.1 found.0 less in omega arith
            | inr not_less ↦ let h = at.2 found.0 (omega arith) found.1 in omega arith
          ]),
    )
