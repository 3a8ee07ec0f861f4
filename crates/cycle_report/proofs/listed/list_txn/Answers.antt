use Rattle.std.proofs.Common.{sym, ◌∙◌}
use Rattle.std.proofs.lemmas.Bool.{false≢true}
use Rattle.std.proofs.lemmas.Result.{on_ok_weaker}
use Rattle.cycle_report.proofs.ListLemmas.{list_skip, list_note}
use Rattle.cycle_report.proofs.listed.list_txn.Goals as goal

pub note_writes-requires : goal.note_writes-requires
note_writes-requires c = record { ascending = c.requires.writers.ascending }

pub returns-then-not-is_committed : goal.returns-then-not-is_committed
returns-then-not-is_committed c =
    list_skip c.args._txns.now c.args.at c.args.txn.now c.args.writers.now c.requires.is
    (λ state. false≢true (sym c.if-not-is_committed.true ∙ c.is_committed.ensures.1 state)) c.requires.writers

pub returns : goal.returns
returns c =
    on_ok_weaker c.note_writes.result
    (λ gains. list_note c.args._txns.now c.args.at c.args.number c.args.txn.now c.writes.result.now c.args.writers.now c.note_writes.new.writers c.requires.is
    c.requires.number c.writes.ensures.items c.note_writes.ensures.ascending gains c.requires.writers)
    c.note_writes.ensures.ok
