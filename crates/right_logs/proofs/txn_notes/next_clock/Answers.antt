use Rattle.std.proofs.Common.{◌≡◌, ℕ, List, get_or, ap, sym, ◌∙◌, subst}
use Rattle.std.proofs.lemmas.Bool.{false≢true}
use Rattle.std.proofs.lemmas.Option.{get_or_from_slice_get}
use Rattle.std.proofs.lemmas.Result.{IfOk-weaker}
use Rattle.right_logs.specs.declared.txn_notes.TxnNote.{TxnNote}
use Rattle.right_logs.specs.Clocks.{Raises}
use Rattle.right_logs.proofs.txn_notes.next_clock.Goals as goal

pub returns-then-not-clocked : goal.returns-then-not-clocked
returns-then-not-clocked c = λ clocks before is. absurd (false≢true (sym c.if-not-clocked.true ∙ clocks))

pub returns : goal.returns
returns c =
    IfOk-weaker c.clock_after.result _ _
    (λ next raises clocks before is.
    let there : get_or c.args.notes.now c.args.last c.index-notes-last.result ≡ before =
    get_or_from_slice_get c.args.notes.now c.args.last before c.index-notes-last.result is
    in
    let read : c.index-notes-last.result ≡ before = c.index-notes-last.is ∙ there in
    let there_clock : (get_or c.args.notes.now c.args.last c.index-notes-last.result).clock.items ≡ before.clock.items = ap (λ (n : TxnNote). n.clock.items) there in
    let read_clock : c.index-notes-last.result.clock.items ≡ before.clock.items = ap (λ (n : TxnNote). n.clock.items) read in
    let value = c.deref.ensures.value in
    let same : c.deref.result.now ≡ before.clock.items = cc in
    subst (λ (xs : List ℕ). Raises c.args.session c.args.last xs next.items) same raises)
    c.clock_after.ensures
