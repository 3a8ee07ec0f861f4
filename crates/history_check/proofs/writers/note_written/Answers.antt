use Rattle.std.proofs.lemmas.Result.{on_ok_weaker}
use Rattle.history_check.proofs.ScanLemmas.{written_stay, written_write}
use Rattle.history_check.proofs.writers.note_written.Goals as goal

pub returns-in-Write : goal.returns-in-Write
returns-in-Write c =
    on_ok_weaker c.note_key.result
    (λ kept. rw c.in-Write.is (written_write c.args.before.now _ _ _ c.args.keys.now c.note_key.new.keys c.requires c.note_key.ensures.kept kept))
    c.note_key.ensures.noted

pub returns-in_default : goal.returns-in_default
returns-in_default c = written_stay c.args.before.now c.args.event.now c.args.keys.now c.in_default.not-Write c.requires
