use Rattle.std.proofs.Common.{◌-◌, ℕ, List, get_or, arith, subst, sym}
use Rattle.std.proofs.lemmas.Option.{slice_get-get_or}
use Rattle.history_check.specs.Notes.{ArePendingIn}
use Rattle.right_logs.proofs.TxnLemmas.{those_of}
use Rattle.right_logs.proofs.txns.places_in.Goals as goal

pub returns : goal.returns
returns c = λ events stands.
    let low = c.requires.some in
    let high = c.requires.opened in
    subst (λ (places : List ℕ). ArePendingIn events c.args.session places) (sym c.as_slice.ensures.value)
    (those_of c.args.pending.now c.args.session (c.args.session - 1) (get_or c.args.pending.now (c.args.session - 1) c.index-pending-session.result) (omega arith)
    (slice_get-get_or c.args.pending.now (c.args.session - 1) c.index-pending-session.result (omega arith)) events stands)
