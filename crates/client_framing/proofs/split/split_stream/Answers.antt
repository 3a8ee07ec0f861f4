use Rattle.std.proofs.Common.{◌≡◌, ℕ, ◌+◌, ◌<◌, List, ◌++◌, length, take, sym, ◌∙◌, ap, arith}
use Rattle.std.specs.Prelude.{flat_map}
use Rattle.std.proofs.lemmas.List.{take_all}
use Rattle.client_framing.proofs.Splits.{splits_nothing, splits_fed, pieces_more, is_read_so, is_read_only}
use Rattle.client_framing.proofs.split.split_stream.Goals as goal

pub loop-piece-init : goal.loop-piece-init
loop-piece-init c =
    let h = splits_nothing c.new-frames.result c.new-frames.ensures in
    record { splits = rw c.new-messages.ensures h.0; ends = h.1 }

pub loop-piece-preserved : goal.loop-piece-preserved
loop-piece-preserved c =
    let at = c.loop-piece in
    let lt : at.piece-index < length c.args.pieces.now = omega arith in
    let so_far = flat_map (λ (piece : List ℕ). piece) (take at.piece-index c.args.pieces.now) in
    let joined : flat_map (λ (piece : List ℕ). piece) (take (at.piece-index + 1) c.args.pieces.now) ≡ so_far ++ c.as_slice.result.now =
    pieces_more c.args.pieces.now at.piece-index c.piece-item.result lt c.piece-item.is ∙ ap (λ (x : List ℕ). so_far ++ x) (sym c.as_slice.ensures) in
    record {
      splits = rw joined (c.in_ok-fault.ensures.splits (so_far ++ c.as_slice.result.now) (splits_fed so_far c.as_slice.result.now at.messages at.frames c.feed.new.self at.invariant.splits c.in_ok-feed.ensures.ok));
      ends = c.in_ok-fault.ensures.ends;
    }

pub returns-clause-stream : goal.returns-clause-stream
returns-clause-stream c =
    let at = c.loop-piece in
    let all = take_all at.piece-index c.args.pieces.now (omega arith) in
    (at.frames.rest, is_read_so _ at.messages at.frames at.fault (rw all at at.invariant.splits) at.invariant.ends, sym c.rest.ensures)

pub returns-clause-rest : goal.returns-clause-rest
returns-clause-rest c =
    let at = c.loop-piece in
    let all = take_all at.piece-index c.args.pieces.now (omega arith) in
    (at.frames.rest, (rw all at at.invariant.splits).takes, sym c.rest.ensures)

pub returns-clause-only : goal.returns-clause-only
returns-clause-only c = λ other is read.
    let at = c.loop-piece in
    let all = take_all at.piece-index c.args.pieces.now (omega arith) in
    (at.frames.rest, is_read_only _ at.messages at.frames at.fault other (rw all at at.invariant.splits) at.invariant.ends is read, sym c.rest.ensures)
