use Rattle.std.proofs.Common.{refl}
use Rattle.setup_client.proofs.Walks.{text_ends, text_goes_on}
use Rattle.setup_client.proofs.errors.text_at.Goals as goal

pub returns-in-Some : goal.returns-in-Some
returns-in-Some c = text_ends c.args.bytes.now c.in-Some.text.now c.in-Some.field-0-1.now c.in-Some.ensures.some c.in-Some.ensures.no_zero

pub returns-in-None : goal.returns-in-None
returns-in-None c = text_goes_on c.args.bytes.now (c.in-None.ensures.none refl)
