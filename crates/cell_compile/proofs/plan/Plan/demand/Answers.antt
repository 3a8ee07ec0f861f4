-- What is still to come begins with the demand.
use Rattle.std.proofs.Common.{sym}
use Rattle.cell_compile.specs.Plans.{rest_of}
use Rattle.cell_compile.proofs.Demanding.{demanded_first}
use Rattle.cell_compile.proofs.plan.Plan.demand.Goals as goal

pub returns : goal.returns
unfolding rest_of
returns c = sym (demanded_first c.args.self.now.demand c.args.self.now.next)
