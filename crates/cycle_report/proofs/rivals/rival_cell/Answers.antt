use Rattle.order_test.proofs.RivalLemmas.{read_rival, read_no_rival, scan_rival, scan_no_rival, some_weaker, none_weaker, some_both}
use Rattle.cycle_report.proofs.rivals.rival_cell.Goals as goal

pub returns-in-Read-clause-some : goal.returns-in-Read-clause-some
returns-in-Read-clause-some c =
    rw c.in-Read.is (some_both _ _ _ c.written.result
    (λ cell same has. read_rival c.in-Read.session c.in-Read.cell c.in-Read.source c.in-Read.count c.in-Read.word c.in-Read.value c.args.writer.now.buffer.writes cell.now same has)
    c.written.ensures.same c.written.ensures.some)

pub returns-in-Read-clause-none : goal.returns-in-Read-clause-none
returns-in-Read-clause-none c =
    rw c.in-Read.is (none_weaker _ _ c.written.result
    (λ absent cell. read_no_rival c.in-Read.session c.in-Read.cell c.in-Read.source c.in-Read.count c.in-Read.word c.in-Read.value c.args.writer.now.buffer.writes absent cell)
    c.written.ensures.none)

pub returns-in-Scan-clause-some : goal.returns-in-Scan-clause-some
returns-in-Scan-clause-some c =
    let some = rw (c.as_slice.ensures, c.writes.ensures.items) at c.first_unlisted.ensures.some in
    rw c.in-Scan.is (some_weaker _ _ c.first_unlisted.result
    (λ cell first. scan_rival c.in-Scan.session c.in-Scan.table c.in-Scan.keys c.args.writer.now.buffer.writes cell.now first)
    some)

pub returns-in-Scan-clause-none : goal.returns-in-Scan-clause-none
returns-in-Scan-clause-none c =
    let none = rw (c.as_slice.ensures, c.writes.ensures.items) at c.first_unlisted.ensures.none in
    rw c.in-Scan.is (none_weaker _ _ c.first_unlisted.result
    (λ unlisted cell. scan_no_rival c.in-Scan.session c.in-Scan.table c.in-Scan.keys c.args.writer.now.buffer.writes unlisted cell)
    none)
