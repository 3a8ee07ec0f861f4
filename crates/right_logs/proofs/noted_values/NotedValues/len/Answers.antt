use Rattle.std.proofs.Common.{◌∙◌}
use Rattle.right_logs.proofs.NotedLemmas.{notes_count}
use Rattle.right_logs.proofs.noted_values.NotedValues.len.Goals as goal

pub returns : goal.returns
returns c = c.len.ensures ∙ (c.self.inside.notes.ok.0 ∙ notes_count c.self.inside.apart.items c.self.inside.notes.items c.args.self.now c.self.view_is)
