use Rattle.right_logs.proofs.NotedLemmas.{shown_at}
use Rattle.right_logs.proofs.noted_values.NotedValues.holds.Goals as goal

pub returns : goal.returns
returns c = λ same.
    shown_at c.self.inside.apart.items c.deref.result.now c.self.inside.notes.items c.deref-2.result.now c.args.self.now c.args.place c.args.value.now
    c.deref.ensures.value c.deref-2.ensures.value c.self.view_is (c.stands_at.ensures same)
