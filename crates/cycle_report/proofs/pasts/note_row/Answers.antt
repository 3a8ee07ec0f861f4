use Rattle.std.proofs.Common.{arith}
use Rattle.std.proofs.lemmas.Result.{on_ok_weaker}
use Rattle.cycle_report.proofs.PastSteps.{sound_from, other_rows, begin_rows, read_rows}
use Rattle.order_test.proofs.Taken.{last_bounded, source_bounded, source_apart}
use Rattle.order_test.proofs.Owners.{owner_pending}
use Rattle.cycle_report.proofs.pasts.note_row.Goals as goal

pub begin_row-requires-clause-last : goal.begin_row-requires-clause-last
begin_row-requires-clause-last c = let h = last_bounded c.args.before.now _ c.args.last c.requires.last in let n = c.requires.rows.count in omega arith

pub read_row-requires-clause-reader : goal.read_row-requires-clause-reader
read_row-requires-clause-reader c = let h = last_bounded c.args.before.now _ c.args.last c.requires.last in let n = c.requires.rows.count in omega arith

pub read_row-requires-clause-source : goal.read_row-requires-clause-source
read_row-requires-clause-source c =
    let h = source_bounded c.args.before.now c.in-Read.source (rw c.in-Read.is at c.requires.comes.source) in let n = c.requires.rows.count in omega arith

pub returns-in-Begin : goal.returns-in-Begin
returns-in-Begin c =
    on_ok_weaker c.begin_row.result
    (λ adds. rw c.in-Begin.is (begin_rows c.args.before.now (sound_from c.args.before.now c.requires.comes.settled) c.in-Begin.session c.args.last c.in-Begin.level c.args.width
    c.args.rows.now.items c.begin_row.new.rows.items (rw c.in-Begin.is at c.requires.last) (rw c.in-Begin.is at c.requires.within) c.requires.rows adds))
    c.begin_row.ensures

pub read_row-requires-clause-apart : goal.read_row-requires-clause-apart
read_row-requires-clause-apart c =
    let sound = sound_from c.args.before.now c.requires.comes.settled in
    let source = rw c.in-Read.is at c.requires.comes.source in
    let pending = owner_pending c.args.before.now sound c.in-Read.session c.args.last (rw c.in-Read.is at c.requires.comes.reader) (rw c.in-Read.is at c.requires.last) in
    source_apart c.args.before.now c.args.last c.in-Read.session c.in-Read.source pending source

pub returns-in-Read : goal.returns-in-Read
returns-in-Read c =
    let sound = sound_from c.args.before.now c.requires.comes.settled in
    let source = rw c.in-Read.is at c.requires.comes.source in
    let pending = owner_pending c.args.before.now sound c.in-Read.session c.args.last (rw c.in-Read.is at c.requires.comes.reader) (rw c.in-Read.is at c.requires.last) in
    rw c.in-Read.is (read_rows c.args.before.now sound c.in-Read.session c.args.last c.in-Read.cell c.in-Read.source c.in-Read.count c.in-Read.word c.in-Read.value pending
    (source_apart c.args.before.now c.args.last c.in-Read.session c.in-Read.source pending source)
    (source_bounded c.args.before.now c.in-Read.source source) c.args.width c.args.rows.now.items c.read_row.new.rows.items c.requires.rows c.read_row.ensures)

pub returns-in-Open : goal.returns-in-Open
returns-in-Open c = rw c.in-Open.is (other_rows c.args.before.now _ c.args.width c.args.rows.now.items tt c.requires.rows)

pub returns-in-Close : goal.returns-in-Close
returns-in-Close c = rw c.in-Close.is (other_rows c.args.before.now _ c.args.width c.args.rows.now.items tt c.requires.rows)

pub returns-in-Define : goal.returns-in-Define
returns-in-Define c = rw c.in-Define.is (other_rows c.args.before.now _ c.args.width c.args.rows.now.items tt c.requires.rows)

pub returns-in-Look : goal.returns-in-Look
returns-in-Look c = rw c.in-Look.is (other_rows c.args.before.now _ c.args.width c.args.rows.now.items tt c.requires.rows)

pub returns-in-Scan : goal.returns-in-Scan
returns-in-Scan c = rw c.in-Scan.is (other_rows c.args.before.now _ c.args.width c.args.rows.now.items tt c.requires.rows)

pub returns-in-Own : goal.returns-in-Own
returns-in-Own c = rw c.in-Own.is (other_rows c.args.before.now _ c.args.width c.args.rows.now.items tt c.requires.rows)

pub returns-in-Write : goal.returns-in-Write
returns-in-Write c = rw c.in-Write.is (other_rows c.args.before.now _ c.args.width c.args.rows.now.items tt c.requires.rows)

pub returns-in-Commit : goal.returns-in-Commit
returns-in-Commit c = rw c.in-Commit.is (other_rows c.args.before.now _ c.args.width c.args.rows.now.items tt c.requires.rows)

pub returns-in-Rollback : goal.returns-in-Rollback
returns-in-Rollback c = rw c.in-Rollback.is (other_rows c.args.before.now _ c.args.width c.args.rows.now.items tt c.requires.rows)

pub returns-in-Show : goal.returns-in-Show
returns-in-Show c = rw c.in-Show.is (other_rows c.args.before.now _ c.args.width c.args.rows.now.items tt c.requires.rows)
