use Rattle.std.proofs.Common.{◌≡◌, ◌+◌, Some, None, slice_get, length, replicate, Option, ℕ, refl, sym, subst, arith}
use Rattle.std.proofs.lemmas.Option.{slice_get_read}
use Rattle.history_core.specs.Events.{begun}
use Rattle.history_core.proofs.Prefixes.{sound_of}
use Rattle.txn_buffer.proofs.Lists.{contains_at}
use Rattle.axiom_rc.proofs.Reading.{AreNotes, notes_none, notes_more, notes_whole, source_bounded}
use Rattle.axiom_rc.proofs.sight.Goals as goal

pub loop-seen-init : goal.loop-seen-init
loop-seen-init c =
    let number = c.begun.ensures.number in
    let size : c.begun.result + 1 ≡ begun c.args.history.now.events + 1 = omega arith in
    rw c.in_ok-since.ensures
    (subst (λ (n : ℕ). AreNotes (begun c.args.history.now.events + 1) c.as_slice-seen-items.result.now 0 (replicate {A = Option ℕ} n None)) (sym size)
    (notes_none (begun c.args.history.now.events + 1) c.as_slice-seen-items.result.now))

pub note-requires : goal.note-requires
note-requires c =
    let events = c.args.history.now.events in
    let at : slice_get c.as_slice-seen-items.result.now c.loop-seen.seen-index ≡ Some c.seen-item.result =
    slice_get_read c.as_slice-seen-items.result.now (length c.as_slice-seen-items.result.now) c.loop-seen.seen-index c.seen-item.result refl c.loop-seen-test.true c.seen-item.is in
    let here : slice_get c.txn.result.now.seen c.loop-seen.seen-index ≡ Some c.seen-item.result = rw c.as_slice-seen-items.ensures at at in
    let size = c.loop-seen.invariant.size_is in
    let small = source_bounded events (sound_of c.args.history.now.initial events c.events-events.ensures.formed.formed) c.args.reader c.txn.result.now c.seen-item.result
    c.txn.ensures (contains_at c.txn.result.now.seen c.loop-seen.seen-index c.seen-item.result here) in
    omega arith

pub loop-seen-preserved : goal.loop-seen-preserved
loop-seen-preserved c =
    let at : slice_get c.as_slice-seen-items.result.now c.loop-seen.seen-index ≡ Some c.seen-item.result =
    slice_get_read c.as_slice-seen-items.result.now (length c.as_slice-seen-items.result.now) c.loop-seen.seen-index c.seen-item.result refl c.loop-seen-test.true c.seen-item.is in
    notes_more (begun c.args.history.now.events + 1) c.as_slice-seen-items.result.now c.loop-seen.seen-index c.seen-item.result c.loop-seen.since.items
    c.note.new.since.items at c.note.ensures c.loop-seen.invariant

pub returns : goal.returns
returns c =
    notes_whole c.args.history.now.events c.args.reader c.loop-seen.seen-index c.txn.result.now c.loop-seen.since.items c.txn.ensures
    (rw c.as_slice-seen-items.ensures at c.loop-seen-test.false) (rw c.as_slice-seen-items.ensures at c.loop-seen.invariant)
