use Rattle.std.proofs.Common.{arith}
use Rattle.std.proofs.lemmas.List.Sums.{count_by-le-length}
use Rattle.history_core.specs.Events.{is_begin}
use Rattle.cycle_report.proofs.owners.next_number.Goals as goal

pub overflow_add-result : goal.overflow_add-result
overflow_add-result c =
    let h = count_by-le-length is_begin c.args.before.now in
    let n = c.requires.count in let f = c.requires.few in omega arith
