use Rattle.std.proofs.Common.{◌≡◌, ◌+◌, ◌*◌, ◌∙◌, [], ℕ, List, ap, arith, length, set, subst, sym}
use Rattle.std.specs.Prelude.{vec_capacity}
use Rattle.std.specs.Vec.{with_items}
use Rattle.std.proofs.lemmas.List.{with_items_is}
use Rattle.bit_rows.specs.Runs.{numbers_of}
use Rattle.bit_rows.specs.Segments.{JoinsSegment}
use Rattle.bit_rows.specs.Matrix.{JoinsAt}
use Rattle.bit_rows.specs.Lines.{rows_in, rows_of}
use Rattle.bit_rows.specs.declared.line.Line.{Line}
use Rattle.bit_rows.specs.declared.line.Line.TheVariants.{InWords}
use Rattle.bit_rows.proofs.Growth.{room_left, shares_fewer, taken_lines, taken_rows}
use Rattle.bit_rows.proofs.lines.Lines.take_segment.Goals as goal

pub lengthen-requires : goal.lengthen-requires
lengthen-requires c =
    let lines = c.args.self.now in
    let left =
    room_left lines.lines.items lines.pool.items lines.segments lines.room (vec_capacity lines.pool) c.args.target c.args.run
    c.requires.holds c.requires.target c.requires.run in
    let size = lines.pool.ok.0 in
    omega arith

pub fill_segment-requires-clause-within : goal.fill_segment-requires-clause-within
fill_segment-requires-clause-within c n inside = c.requires.holds.below c.args.target c.args.run n c.requires.run inside

pub returns-clause-joined : goal.returns-clause-joined
returns-clause-joined c =
    let lines = c.args.self.now in
    let longer = c.lengthen.new.pool in
    let words : List ℕ = c.fill_segment.new.pool in
    let joins : JoinsSegment (lines.segments * lines.room) lines.room (numbers_of c.args.run.first c.args.run.end) longer.items words =
    rw c.deref_mut.ensures.value at c.fill_segment.ensures in
    let size : length words ≡ length longer.items = joins.changed.size in
    let items : (with_items longer words).items ≡ words = with_items_is longer words (size ∙ sym longer.ok.0) in
    let more = c.lengthen.ensures.len in
    let was = lines.pool.ok.0 in
    let now = longer.ok.0 in
    let long : length (with_items longer words).items ≡ length lines.pool.items + lines.room =
    ap length items ∙ size ∙ (let sum : length longer.items ≡ length lines.pool.items + lines.room = omega arith in sum) in
    let pool : List ℕ = (with_items longer words).items in
    let set_lines : List Line = set lines.lines.items c.args.target (InWords lines.segments c.args.end) in
    let rows : JoinsAt c.args.target [] (rows_of lines) (rows_in pool lines.room set_lines) =
    subst (λ (ws : List ℕ). JoinsAt c.args.target [] (rows_of lines) (rows_in ws lines.room set_lines)) (sym items)
    (taken_rows lines.pool.items longer.items words lines.segments lines.room (vec_capacity lines.pool) c.args.target c.args.end c.args.run
    lines.lines.items c.requires.target c.requires.holds c.requires.run c.lengthen.ensures.items joins) in
    record {
      holds =
          taken_lines lines.pool.items pool lines.segments lines.room (vec_capacity lines.pool) (vec_capacity longer) c.args.target c.args.end
          c.args.run lines.lines.items c.requires.target c.requires.holds c.requires.run long c.lengthen.ensures.capacity c.requires.end rows;
      rows = rows;
    }

pub overflow_add-self : goal.overflow_add-self
overflow_add-self c =
    let lines = c.args.self.now in
    let fewer = shares_fewer lines.lines.items c.args.target c.args.run c.requires.target c.requires.run in
    let taken = c.requires.holds.taken in
    let few = c.requires.holds.few in
    let size = c.requires.holds.size in
    omega arith
