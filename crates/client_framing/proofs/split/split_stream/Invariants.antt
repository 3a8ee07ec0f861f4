use Rattle.std.proofs.Common.{ℕ, List, take}
use Rattle.std.specs.Prelude.{flat_map}
use Rattle.client_framing.specs.Reading.{SplitsInto, EndsWith}
use Rattle.client_framing.proofs.split.split_stream.Given as goal

abbrev pub invariant-loop-piece : goal.invariant-loop-piece
invariant-loop-piece l = record {
  splits : SplitsInto (flat_map (λ (piece : List ℕ). piece) (take l.piece-index l.pieces)) l.messages l.frames;
  ends : EndsWith l.frames l.fault;
}
