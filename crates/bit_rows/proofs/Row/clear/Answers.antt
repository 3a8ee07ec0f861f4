use Rattle.std.proofs.Common.{ap, ◌∙◌}
use Rattle.bit_rows.specs.Members.{members}
use Rattle.bit_rows.proofs.Marks.{members-empty}
use Rattle.bit_rows.proofs.Row.clear.Goals as goal

pub returns : goal.returns
returns c = ap members c.truncate.ensures.items ∙ members-empty
