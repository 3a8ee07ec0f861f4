use Rattle.std.proofs.Common.{◌≡◌, ◌+◌, ◌<◌, length, arith, subst}
use Rattle.history_core.specs.declared.txn.Seen.{Seen}
use Rattle.history_core.specs.declared.txn.Seen.TheVariants.{Read as SeenRead}
use Rattle.history_core.specs.Events.{begun}
use Rattle.history_core.proofs.Prefixes.{sound_of}
use Rattle.history_core.proofs.Offers.{writer_bounded}
use Rattle.history_core.proofs.Next.{pending_bounded}
use Rattle.axiom_base.specs.Sights.{IsTrialIn, AreGathered, IsFirstBelow}
use Rattle.axiom_base.proofs.Views.{trial_second, trial_whole}
use Rattle.axiom_base.proofs.trial.trial_by.Goals as goal

pub targets-requires-clause-reader : goal.targets-requires-clause-reader
targets-requires-clause-reader c = pending_bounded c.args.history.now.events c.args.reader c.requires.pending.0 c.requires.pending.1

pub add_pairs-requires-clause-reader : goal.add_pairs-requires-clause-reader
add_pairs-requires-clause-reader c = pending_bounded c.args.history.now.events c.args.reader c.requires.pending.0 c.requires.pending.1

pub add_pairs-requires-clause-reached : goal.add_pairs-requires-clause-reached
add_pairs-requires-clause-reached c = λ second is.
    let events = c.args.history.now.events in
    let small : c.args.source < begun events + 1 = writer_bounded events c.args.source c.args.cell.now c.requires.writes in
    rw c.deref.ensures.value ((c.in_ok-seconds.ensures.exact second).1
    (trial_second events (sound_of c.args.history.now.initial events c.events-events.ensures.formed.formed) c.args.reader
    (SeenRead c.next_number.result c.in_ok-copy.field-0 c.args.source) c.args.before.now.since.items c.args.after.now.since.items
    (pending_bounded events c.args.reader c.requires.pending.0 c.requires.pending.1) (omega arith) c.loop-first.first second is))

pub returns : goal.returns
returns c = λ level sight sight_with.
    let events = c.args.history.now.events in
    let small : c.args.source < begun events + 1 = writer_bounded events c.args.source c.args.cell.now c.requires.writes in
    let number = c.begun-first-end.ensures.number in
    let same : SeenRead c.next_number.result c.in_ok-copy.field-0 c.args.source ≡ SeenRead (length events + 1) c.args.cell.now c.args.source =
    cc (c.next_number.ensures, c.in_ok-copy.ensures) in
    trial_whole level events c.args.reader c.args.cell.now c.args.source c.loop-first.first c.args.before.now.since.items c.args.after.now.since.items
    c.loop-first.edges.items small (omega arith)
    (subst (λ (y : Seen). AreGathered (IsTrialIn events c.args.reader y c.args.before.now.since.items c.args.after.now.since.items) (IsFirstBelow c.loop-first.first)
    c.loop-first.edges.items) same c.loop-first.invariant)
    sight sight_with
