use Rattle.std.proofs.Common.{List, ℕ, ◌+◌, length, arith, ap, sym, subst}
use Rattle.std.proofs.lemmas.List.Sums.{count_by-le-length}
use Rattle.history_core.specs.Events.{is_begin}
use Rattle.history_check.specs.Rules.{HasCandidates}
use Rattle.history_check.proofs.Committed.{candidates_of, writers_few}
use Rattle.history_check.proofs.sources.count_writers.Goals as goal

pub overflow_cast-result : goal.overflow_cast-result
overflow_cast-result c =
    let few = writers_few c.args.before.now c.args.cell.now c.args.note.now c.requires.note in
    let begun_few = count_by-le-length is_begin c.args.before.now in
    let bound = c.requires.few in
    let same = ap (λ (ns : List ℕ). length ns) c.as_slice-later.ensures in
    omega arith

pub overflow_add-result : goal.overflow_add-result
overflow_add-result c =
    let few = writers_few c.args.before.now c.args.cell.now c.args.note.now c.requires.note in
    let begun_few = count_by-le-length is_begin c.args.before.now in
    let bound = c.requires.few in
    let same = ap (λ (ns : List ℕ). length ns) c.as_slice-later.ensures in
    omega arith

pub returns : goal.returns
returns c =
    subst (λ (numbers : List ℕ). HasCandidates c.args.before.now c.args.cell.now (length numbers + 1)) (sym c.as_slice-later.ensures)
    (candidates_of c.args.before.now c.args.cell.now c.args.note.now c.requires.note)
