use Rattle.std.proofs.Common.{ℕ, List, length}
use Rattle.client_framing.specs.Reading.{SplitsInto}
use Rattle.client_framing.proofs.split.take_messages.Given as goal

abbrev pub invariant-loop-message : goal.invariant-loop-message
invariant-loop-message l = (stream : List ℕ) → SplitsInto stream l.fn.messages l.fn.frames → SplitsInto stream l.messages l.frames

abbrev pub decreases-loop-message : goal.decreases-loop-message
decreases-loop-message l = length l.frames.rest
