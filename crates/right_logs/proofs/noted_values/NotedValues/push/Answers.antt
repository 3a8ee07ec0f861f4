use Rattle.std.proofs.Common.{◌≡◌, List, [], ◌∷◌, ◌++◌, OnOk, subst}
use Rattle.cell_base.specs.declared.value.Value.{Value}
use Rattle.right_logs.specs.NotedValues.{values_in}
use Rattle.right_logs.proofs.NotedLemmas.{notes_few}
use Rattle.right_logs.proofs.noted_values.NotedValues.push.Goals as goal

pub note_value-requires-clause-few : goal.note_value-requires-clause-few
note_value-requires-clause-few c = notes_few c.self.inside.apart.items c.self.inside.notes.items c.args.self.now c.self.view_is c.requires

pub returns : goal.returns
returns c =
    subst (λ (vs : List Value). OnOk c.note_value.result (values_in c.note_value.new.apart.items c.note_value.new.notes.items ≡ vs ++ c.args.value.now ∷ []))
    c.self.view_is c.note_value.ensures.ok
