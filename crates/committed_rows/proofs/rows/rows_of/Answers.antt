use Rattle.committed_rows.proofs.Gathered.{ascending_entries, gather_next, gather_over, gather_end}
use Rattle.committed_rows.proofs.rows.rows_of.Goals as goal

pub loop-cell-preserved-in-Continue-1 : goal.loop-cell-preserved-in-Continue-1
loop-cell-preserved-in-Continue-1 c =
    gather_next c.args.newest.now.values.entries c.loop-cell.cells.items c.loop-cell.newest.values.entries c.pop_first.new.self.entries c.push.new.self.items
    c.as_slice.result.now c.in-Some.cell c.in-Some.value c.is_there.result (ascending_entries c.args.newest.now.values c.len.ensures.ordered)
    c.loop-cell.invariant c.in-Some.ensures.removal c.as_slice.ensures.value c.is_there.ensures c.if-is_there.true c.in_ok-push.ensures.items

pub loop-cell-preserved-else-is_there : goal.loop-cell-preserved-else-is_there
loop-cell-preserved-else-is_there c =
    gather_over c.args.newest.now.values.entries c.loop-cell.cells.items c.loop-cell.newest.values.entries c.pop_first.new.self.entries
    c.as_slice.result.now c.in-Some.cell c.in-Some.value c.is_there.result (ascending_entries c.args.newest.now.values c.len.ensures.ordered)
    c.loop-cell.invariant c.in-Some.ensures.removal c.as_slice.ensures.value c.is_there.ensures c.if-is_there.false

pub loop-cell-preserved-else-is_there-2 : goal.loop-cell-preserved-else-is_there-2
loop-cell-preserved-else-is_there-2 c =
    gather_over c.args.newest.now.values.entries c.loop-cell.cells.items c.loop-cell.newest.values.entries c.pop_first.new.self.entries
    c.as_slice.result.now c.in-Some.cell c.in-Some.value c.is_there.result (ascending_entries c.args.newest.now.values c.len.ensures.ordered)
    c.loop-cell.invariant c.in-Some.ensures.removal c.as_slice.ensures.value c.is_there.ensures c.if-is_there.false

pub loop-cell-preserved-else-is_there-3 : goal.loop-cell-preserved-else-is_there-3
loop-cell-preserved-else-is_there-3 c =
    gather_over c.args.newest.now.values.entries c.loop-cell.cells.items c.loop-cell.newest.values.entries c.pop_first.new.self.entries
    c.as_slice.result.now c.in-Some.cell c.in-Some.value c.is_there.result (ascending_entries c.args.newest.now.values c.len.ensures.ordered)
    c.loop-cell.invariant c.in-Some.ensures.removal c.as_slice.ensures.value c.is_there.ensures c.if-is_there.false

pub loop-cell-preserved : goal.loop-cell-preserved
loop-cell-preserved c =
    gather_over c.args.newest.now.values.entries c.loop-cell.cells.items c.loop-cell.newest.values.entries c.pop_first.new.self.entries
    c.as_slice.result.now c.in-Some.cell c.in-Some.value c.is_there.result (ascending_entries c.args.newest.now.values c.len.ensures.ordered)
    c.loop-cell.invariant c.in-Some.ensures.removal c.as_slice.ensures.value c.is_there.ensures c.if-is_there.false

pub returns-clause-rows : goal.returns-clause-rows
returns-clause-rows c =
    gather_end c.args.newest.now.values.entries c.loop-cell.cells.items c.loop-cell.newest.values.entries c.pop_first.result c.loop-cell.invariant
    c.pop_first.ensures.variant c.in_default.not-Some
