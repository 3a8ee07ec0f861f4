use Rattle.std.proofs.Common.{ap, Err}
use Rattle.block_machine.specs.Messages.{no_text}
use Rattle.block_machine.proofs.reading.read_message.Goals as goal

pub returns-in-Err-NotUtf8-clause-message : goal.returns-in-Err-NotUtf8-clause-message
returns-in-Err-NotUtf8-clause-message c = no_text (c.in-Err-NotUtf8.ensures.not_utf8.0 (ap Err c.in-Err-NotUtf8.field-0-is))
