use Rattle.std.proofs.Common.{◌*◌, ℕ, List}
use Rattle.bit_rows.specs.Segments.{ClearsSegment}
use Rattle.bit_rows.proofs.RowLines.{pool_cleared}
use Rattle.bit_rows.proofs.lines.Lines.clear_words.Goals as goal

pub returns : goal.returns
returns c =
    let lines = c.args.self.now in
    let words : List ℕ = c.clear_segment.new.pool in
    let clears : ClearsSegment (c.args.segment * lines.room) lines.room lines.pool.items words =
    rw c.deref_mut.ensures.value at (rw c.place-place.ensures.place at c.clear_segment.ensures) in
    pool_cleared c.args.target c.args.segment c.args.end words lines c.requires.holds c.requires.words clears
