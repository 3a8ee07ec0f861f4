use Rattle.std.proofs.Common.{◌≡◌, ◌+◌, ◌-◌, ◌<◌, length, arith}
use Rattle.history_core.proofs.Numbers.{txn_read}
use Rattle.history_core.proofs.kept.txn_of.Goals as goal

pub returns : goal.returns
returns c =
    let some = c.requires.some in
    let begun = c.requires.begun in
    let count = c.requires.kept.txns.count in
    let number : c.args.number - 1 + 1 ≡ c.args.number = omega arith in
    let within : c.args.number - 1 < length c.args.kept.now.txns.items = omega arith in
    txn_read c.args.kept.now.events.items c.args.kept.now.txns.items c.requires.kept.txns (c.args.number - 1) c.args.number c.index.result.now number within c.index.ensures
