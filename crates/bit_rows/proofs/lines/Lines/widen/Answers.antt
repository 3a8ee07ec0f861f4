use Rattle.std.proofs.Common.{◌≡◌, ◌*◌, ◌≤◌, ◌∙◌, arith, length, sym}
use Rattle.std.specs.Prelude.{vec_capacity}
use Rattle.bit_rows.specs.Segments.{AreCopied}
use Rattle.bit_rows.proofs.Growth.{lines_widened, rows_widened, shares_few, times_le}
use Rattle.bit_rows.proofs.lines.Lines.widen.Goals as goal

pub copy_segments-requires-clause-capacity : goal.copy_segments-requires-clause-capacity
copy_segments-requires-clause-capacity c =
    let lines = c.args.self.now in
    let few = shares_few lines.lines.items in
    let taken = c.requires.holds.taken in
    let most = c.requires.lines in
    let step : lines.segments * c.wider-more.result ≤ c.args.lines * c.wider-more.result =
    times_le lines.segments c.args.lines c.wider-more.result (omega arith) in
    let room = c.in_ok-pool.ensures.capacity in
    omega arith

pub returns-clause-rows : goal.returns-clause-rows
returns-clause-rows c =
    let lines = c.args.self.now in
    let copied : AreCopied lines.segments lines.room c.wider-more.result lines.pool.items c.copy_segments.new.wider.items =
    rw c.deref.ensures.value at c.copy_segments.ensures.copied in
    rows_widened lines.pool.items c.copy_segments.new.wider.items lines.lines.items lines.segments lines.room c.wider-more.result
    (vec_capacity lines.pool) c.requires.holds copied

pub returns-clause-holds : goal.returns-clause-holds
returns-clause-holds c =
    let lines = c.args.self.now in
    let wider = c.copy_segments.new.wider in
    let more = c.wider-more.result in
    let long : length wider.items ≡ lines.segments * more = sym wider.ok.0 ∙ c.copy_segments.ensures.len in
    let step : length lines.lines.items * more ≤ c.args.lines * more = times_le (length lines.lines.items) c.args.lines more c.requires.lines in
    let copied : AreCopied lines.segments lines.room more lines.pool.items wider.items =
    rw c.deref.ensures.value at c.copy_segments.ensures.copied in
    let room = c.in_ok-pool.ensures.capacity in
    let kept = c.copy_segments.ensures.capacity in
    lines_widened lines.lines.items lines.pool.items wider.items lines.segments lines.room more (vec_capacity lines.pool)
    (vec_capacity wider) c.requires.holds c.wider-more.ensures.kept c.wider-more.ensures.blocks c.wider-more.ensures.size long (omega arith)
    (rows_widened lines.pool.items wider.items lines.lines.items lines.segments lines.room more (vec_capacity lines.pool) c.requires.holds
    copied)
