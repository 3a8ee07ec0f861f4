use Rattle.std.proofs.Common.{◌≡◌, rules, ◌∙◌, ap, sym, [], ◌++◌, IfSome}
use Rattle.turn_notes.specs.Numbered.{numbered}
use Rattle.turn_notes.proofs.NoteLemmas.{some_is, numbers_differ, first_notes, second_notes}
use Rattle.turn_notes.proofs.writers.two_writers.Goals as goal

pub returns : goal.returns
returns g c =
    let one = c.join-first.result.0 in let two = c.join-first.result.1 in
    let first : IfSome one.1 (λ by. one.0.own ≡ numbered by c.args.count) = search rules in
    let second : IfSome two.1 (λ by. two.0.own ≡ numbered by c.args.count) = search rules in
    let kept : one.0.kept ≡ [] = search rules in
    let a = c.in_ok-a.field-0 in let b = c.in_ok-b.field-0 in
    let own : one.0.own ≡ numbered a c.args.count = some_is one.1 (λ by. one.0.own ≡ numbered by c.args.count) a c.in_ok-a.was first in
    let own' : two.0.own ≡ numbered b c.args.count = some_is two.1 (λ by. two.0.own ≡ numbered by c.args.count) b c.in_ok-b.was second in
    let start : c.in_ok-lock.lock.start ≡ c.args.notes.notes.items = search rules in let closed = c.close-notes.ensures in
    record {
      start = (closed.added, ap (λ l. l ++ closed.added) (sym start) ∙ sym closed.list);
      numbers = numbers_differ a b c.args.count one.0 two.0 c.join.new.into c.requires own own' c.join.ensures;
      first = first_notes a b c.args.count one.0 two.0 c.join.new.into c.requires own own' c.join.ensures c.in_ok-lock.lock c.close-notes.result.notes.items kept c.close-notes.ensures;
      second = second_notes a b c.args.count one.0 two.0 c.join.new.into c.requires own own' c.join.ensures c.in_ok-lock.lock c.close-notes.result.notes.items kept c.close-notes.ensures;
    }
