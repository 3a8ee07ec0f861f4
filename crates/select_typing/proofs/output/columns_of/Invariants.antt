-- The fields and the values so far, and what is left.
use Rattle.std.proofs.Common.{◌≡◌, ◌++◌, map}
use Rattle.std.specs.Vec.Iter.{into_iter_items}
use Rattle.typing_rules.specs.Select.{Output, field_of}
use Rattle.select_typing.specs.Outputs.{outputs}
use Rattle.select_typing.proofs.output.columns_of.Given as goal

abbrev pub invariant-loop-output : goal.invariant-loop-output
invariant-loop-output l = record {
  fields : l.fields ++ map field_of (outputs (into_iter_items l.output-iterator)) ≡ map field_of (outputs l.fn.all);
  items : l.items ++ map (λ (o : Output). o.expr) (outputs (into_iter_items l.output-iterator)) ≡ map (λ (o : Output). o.expr) (outputs l.fn.all);
}
