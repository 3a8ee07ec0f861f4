use Rattle.program_laws.proofs.ServesToEnds.{serves, runs}
use Rattle.program_laws.proofs.completeness.servers_are_complete.Goals as goal

pub returns : goal.returns
returns c = record { serve = serves; program = runs }
