use Rattle.committed_rows.proofs.Steps.{closes}
use Rattle.committed_rows.proofs.start.close.Goals as goal

pub returns : goal.returns
returns c = closes c.args.seat.now c.close.new.self c.requires c.close.ensures.stays c.close.ensures.adds c.close.ensures.legal
