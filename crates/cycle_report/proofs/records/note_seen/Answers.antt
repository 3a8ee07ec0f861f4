use Rattle.std.proofs.Common.{sym, ◌∙◌}
use Rattle.std.proofs.lemmas.Result.{on_ok_weaker}
use Rattle.cycle_report.proofs.PastSteps.{sound_from}
use Rattle.order_test.proofs.RecordLemmas.{txns_seen}
use Rattle.cycle_report.proofs.records.note_seen.Goals as goal

pub returns : goal.returns
returns c =
    on_ok_weaker c.see.result
    (λ changes. txns_seen c.args.before.now (sound_from c.args.before.now c.requires.settled) c.args.event.now c.record_place-at.result c.in-Some.seen
    c.args.txns.now.items c.see.new.txns.items c.requires.txns c.record_place-at.ensures.pending (sym c.in_ok-seen.ensures ∙ c.in-Some.is) changes)
    c.see.ensures
