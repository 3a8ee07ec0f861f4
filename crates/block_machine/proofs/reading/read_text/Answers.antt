use Rattle.block_machine.specs.Messages.{reads}
use Rattle.block_machine.proofs.Sounds.{fault_message, fault_sound, statements_sound}
use Rattle.block_machine.proofs.reading.read_text.Goals as goal

pub returns-in-Ok-clause-message : goal.returns-in-Ok-clause-message
returns-in-Ok-clause-message c = reads c.in-Ok.found c.requires.utf8 c.in-Ok.ensures.found

pub returns-in-Ok-clause-sound : goal.returns-in-Ok-clause-sound
returns-in-Ok-clause-sound c = λ no_zero. statements_sound c.args.text.now c.in-Ok.found no_zero c.in-Ok.ensures.found

pub returns-in-Err-clause-message : goal.returns-in-Err-clause-message
returns-in-Err-clause-message c = fault_message c.args.text.now c.in-Err.fault c.unread.result c.requires.utf8 c.in-Err.ensures.fault c.unread.ensures.unread c.unread.ensures.other

pub returns-in-Err-clause-sound : goal.returns-in-Err-clause-sound
returns-in-Err-clause-sound c = λ no_zero. fault_sound c.in-Err.fault c.unread.result c.unread.ensures.unread
