use Rattle.std.proofs.Common.{refl}
use Rattle.cell_base.specs.declared.value.Value.TheVariants as values
use Rattle.right_logs.specs.declared.noted_values.NotedValue.TheVariants as notes
use Rattle.right_logs.proofs.NotedLemmas.{apart_push, gains_note}
use Rattle.right_logs.proofs.noted_values.NotedValues.push_unset.Goals as goal

pub invariant_of-self-2 : goal.invariant_of-self-2
invariant_of-self-2 c =
    apart_push c.self.inside.apart.items c.self.inside.notes.items c.push.new.self.items notes.Unset (rw c.packed_unset.ensures at c.in_ok-push.ensures.items) refl c.self.invariant

pub returns : goal.returns
returns c =
    gains_note c.self.inside.apart.items c.self.inside.notes.items c.push.new.self.items notes.Unset values.Unset c.args.self.now (rw c.packed_unset.ensures at c.in_ok-push.ensures.items) refl c.self.view_is
