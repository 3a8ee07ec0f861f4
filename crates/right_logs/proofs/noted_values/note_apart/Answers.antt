use Rattle.std.proofs.Common.{◌≡◌, ◌+◌, ◌<◌, ◌≤◌, length, arith, ap, ◌∙◌}
use Rattle.std.proofs.lemmas.List.{length_push}
use Rattle.right_logs.specs.declared.noted_values.NotedValue.TheVariants as notes
use Rattle.right_logs.proofs.NotedLemmas.{keeps_apart, apart_after, apart_still, values_after}
use Rattle.right_logs.proofs.noted_values.note_apart.Goals as goal

-- no more values are kept apart than there are notes
pub overflow_cast-number : goal.overflow_cast-number
overflow_cast-number c =
    let count : c.len-number.result ≡ length c.args.apart.now.items = c.len-number.ensures ∙ c.args.apart.now.ok.0 in
    let most : length c.args.apart.now.items ≤ length c.args.notes.now.items = c.requires.held.few in
    let bound : length c.args.notes.now.items < 2147483644 = c.requires.few in
    omega arith

pub put_number-requires-clause-within : goal.put_number-requires-clause-within
put_number-requires-clause-within c =
    let at : c.len-last.result ≡ length c.args.notes.now.items = c.len-last.ensures ∙ c.args.notes.now.ok.0 in
    let long : length c.push.new.self.items ≡ length c.args.notes.now.items + 1 =
    ap length (rw c.packed_unset.ensures at c.in_ok-push.ensures.items) ∙ length_push c.args.notes.now.items notes.Unset in
    omega arith

pub put_number-requires-clause-few : goal.put_number-requires-clause-few
put_number-requires-clause-few c =
    let count : c.len-number.result ≡ length c.args.apart.now.items = c.len-number.ensures ∙ c.args.apart.now.ok.0 in
    let most : length c.args.apart.now.items ≤ length c.args.notes.now.items = c.requires.held.few in
    let bound : length c.args.notes.now.items < 2147483644 = c.requires.few in
    omega arith

pub returns-in_err-keep_apart-clause-held : goal.returns-in_err-keep_apart-clause-held
returns-in_err-keep_apart-clause-held c =
    apart_still c.args.apart.now.items c.keep_apart.new.apart.items c.args.notes.now.items c.push.new.self.items c.in_err-keep_apart.ensures.err (rw c.packed_unset.ensures at c.in_ok-push.ensures.items)
    c.requires.held

pub returns-clause-held : goal.returns-clause-held
returns-clause-held c =
    apart_after c.args.apart.now.items c.args.notes.now.items c.args.value.now c.keep_apart.new.apart.items c.put_number.new.notes.items
    (keeps_apart c.args.apart.now.items c.args.notes.now.items c.args.value.now c.keep_apart.new.apart.items c.push.new.self.items c.put_number.new.notes.items
    c.len-last.result c.len-number.result (c.len-number.ensures ∙ c.args.apart.now.ok.0) (c.len-last.ensures ∙ c.args.notes.now.ok.0) (rw c.packed_unset.ensures at c.in_ok-push.ensures.items)
    c.in_ok-keep_apart.ensures.ok c.put_number.ensures) c.requires.held

pub returns-clause-ok : goal.returns-clause-ok
returns-clause-ok c =
    values_after c.args.apart.now.items c.args.notes.now.items c.args.value.now c.keep_apart.new.apart.items c.put_number.new.notes.items
    (keeps_apart c.args.apart.now.items c.args.notes.now.items c.args.value.now c.keep_apart.new.apart.items c.push.new.self.items c.put_number.new.notes.items
    c.len-last.result c.len-number.result (c.len-number.ensures ∙ c.args.apart.now.ok.0) (c.len-last.ensures ∙ c.args.notes.now.ok.0) (rw c.packed_unset.ensures at c.in_ok-push.ensures.items)
    c.in_ok-keep_apart.ensures.ok c.put_number.ensures) c.requires.held
