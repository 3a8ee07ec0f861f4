use Rattle.std.proofs.Common.{refl}
use Rattle.right_logs.specs.NotedValues.{values_in}
use Rattle.right_logs.proofs.NotedLemmas.{apart_push, gains_note, compact_low, compact_means}
use Rattle.right_logs.proofs.noted_values.note_value.Goals as goal

pub returns-in_ok-push-in-Some-clause-held : goal.returns-in_ok-push-in-Some-clause-held
returns-in_ok-push-in-Some-clause-held c =
    apart_push c.args.apart.now.items c.args.notes.now.items c.push.new.self.items c.in-Some.note c.in_ok-push-in-Some.ensures.items
    (compact_low c.args.value.now c.in-Some.note c.in-Some.ensures) c.requires.held

pub returns-in_ok-push-in-Some-clause-ok : goal.returns-in_ok-push-in-Some-clause-ok
returns-in_ok-push-in-Some-clause-ok c =
    gains_note c.args.apart.now.items c.args.notes.now.items c.push.new.self.items c.in-Some.note c.args.value.now (values_in c.args.apart.now.items c.args.notes.now.items)
    c.in_ok-push-in-Some.ensures.items (compact_means c.args.apart.now.items c.args.value.now c.in-Some.note c.in-Some.ensures) refl
