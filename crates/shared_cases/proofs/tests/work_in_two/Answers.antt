use denote.Param.Send.{sendable}
use denote.Param.SendFields.{declared_send}
use Rattle.history_core.proofs.fault.BookFault.TheSendSync as fault
use Rattle.shared_book.proofs.Sending.{book_send, pass_send}
use Rattle.shared_cases.proofs.tests.work_in_two.Goals as goal

pub join-one-requires-send-F : goal.join-one-requires-send-F
join-one-requires-send-F g c κs within = let shared = c.type_bounds.sync-R in search (sendable, declared_send, book_send) depth 20

pub join-one-requires-send-A : goal.join-one-requires-send-A
join-one-requires-send-A g c κs within = search (sendable, pass_send, fault.the_send) depth 20
