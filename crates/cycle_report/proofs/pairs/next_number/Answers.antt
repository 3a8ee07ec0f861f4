use Rattle.std.proofs.Common.{◌≡◌, length, take, arith}
use Rattle.std.proofs.lemmas.List.{length-take-le}
use Rattle.std.proofs.lemmas.List.Sums.{count_by-le-length}
use Rattle.history_core.specs.Events.{is_begin}
use Rattle.cycle_report.proofs.pairs.next_number.Goals as goal

pub overflow_add-result : goal.overflow_add-result
overflow_add-result c =
    let p = c.requires.place in
    let long : length (take c.args.place c.args.events.now) ≡ c.args.place = length-take-le c.args.place c.args.events.now (omega arith) in
    let h = count_by-le-length is_begin (take c.args.place c.args.events.now) in
    let n = c.requires.count in let f = c.requires.few in omega arith
