use Rattle.link_traits.proofs.Objects.{sink_is_here}
use Rattle.link_traits.proofs.laws.output_is_here.Goals as goal

pub returns : goal.returns
returns c = sink_is_here
