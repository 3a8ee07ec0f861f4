use Rattle.std.proofs.Common.{ℕ, sym, ◌∙◌, subst, inr}
use Rattle.history_core.specs.Transactions.{HasPending}
use Rattle.indexed_history.proofs.Indexes.{none_found}
use Rattle.valid_writes.proofs.Told.{same_some}
use Rattle.valid_writes.proofs.book.stage_of.Goals as goal

pub returns-in-None-clause-pending : goal.returns-in-None-clause-pending
returns-in-None-clause-pending c = λ s is pending.
    let here : HasPending c.args.history.now.events c.in-Some.session =
    subst (λ (n : ℕ). HasPending c.args.history.now.events n) (same_some s c.in-Some.session (sym is ∙ c.in-Some.is)) pending in
    absurd (none_found c.args.history.now.events c.in-Some.session here.0 c.pending.result c.in-None.is c.pending.ensures here.1)

pub returns-in-None-clause-either : goal.returns-in-None-clause-either
returns-in-None-clause-either c = λ s is. inr (λ pending.
    let here : HasPending c.args.history.now.events c.in-Some.session =
    subst (λ (n : ℕ). HasPending c.args.history.now.events n) (same_some s c.in-Some.session (sym is ∙ c.in-Some.is)) pending in
    none_found c.args.history.now.events c.in-Some.session here.0 c.pending.result c.in-None.is c.pending.ensures here.1)
