-- The first column of the name is the same of those that are left.
use Rattle.std.proofs.Common.{◌≡◌, drop}
use Rattle.typing_rules.specs.Select.{output_named}
use Rattle.select_typing.specs.Outputs.{outputs}
use Rattle.select_typing.proofs.output.output_named.Given as goal

abbrev pub invariant-loop-output : goal.invariant-loop-output
invariant-loop-output l = output_named l.name (outputs (drop l.output-index l.all)) ≡ output_named l.name (outputs l.all)
