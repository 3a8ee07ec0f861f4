use Rattle.client_framing.proofs.Splits.{splits_more}
use Rattle.client_framing.proofs.Streams.{takes_bytes}
use Rattle.client_framing.proofs.split.take_messages.Goals as goal

pub loop-message-smaller : goal.loop-message-smaller
loop-message-smaller c = takes_bytes c.loop-message.frames.started c.loop-message.frames.rest c.next.new.self.rest c.in-Ok-Some.message (rw c.in-Ok-Some.field-0-is at c.in-Ok-Some.ensures.front)

pub loop-message-preserved : goal.loop-message-preserved
loop-message-preserved c = λ stream s.
    rw c.in_ok-push-in-Ok-Some.ensures.ok
    (splits_more stream c.loop-message.messages c.in-Ok-Some.message c.loop-message.frames c.next.new.self (c.loop-message.invariant stream s) (rw c.in-Ok-Some.field-0-is at c.in-Ok-Some.ensures.front)
    (rw c.in-Ok-Some.field-0-is at c.in-Ok-Some.ensures.started))
