use Rattle.std.proofs.Common.{refl}
use Rattle.right_logs.proofs.txn_notes.add_txn.Goals as goal

pub next_clock-requires : goal.next_clock-requires
next_clock-requires c = rw c.deref.ensures.value c.requires

pub returns : goal.returns
returns c =
    record {
      note = _;
      adds = c.in_ok-push.ensures.items;
      session_is = refl;
      level_is = refl;
      clock = rw c.deref.ensures.value at c.in_ok-clock.ensures;
    }
