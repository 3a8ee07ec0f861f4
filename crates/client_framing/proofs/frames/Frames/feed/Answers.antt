use Rattle.std.proofs.Common.{arith, length-append}
use Rattle.client_framing.proofs.Streams.{kept_stays}
use Rattle.client_framing.proofs.frames.Frames.feed.Goals as goal

pub invariant_of-self-2 : goal.invariant_of-self-2
invariant_of-self-2 c =
    rw c.in_ok-extend_from_slice.ensures.items
    (rw length-append (omega (arith, c.self.invariant.0)), kept_stays _ c.self.inside.bytes.items c.args.piece.now c.self.inside.start c.self.inside.fault c.self.invariant.0 c.self.invariant.1)
