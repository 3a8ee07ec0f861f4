use Rattle.std.proofs.Common.{◌≡◌, List, [], length, map, vec_len, refl, sym, ◌∙◌, ap, subst, arith}
use Rattle.std.specs.Prelude.{Some}
use Rattle.std.proofs.lemmas.List.{append-nil, nil_from_length}
use Rattle.std.proofs.lemmas.List.Elements.{All-pop}
use Rattle.turn_lock.specs.Passes.{PassValue, Joined}
use Rattle.turn_lock.proofs.Keys.{prefix_trans}
use Rattle.doors.specs.Passage.{Passage}
use Rattle.shared_book.specs.declared.entry.Entry.{Entry}
use Rattle.shared_book.specs.Entries.{event_lists, key_of, entries_of, chronicle_of}
use Rattle.shared_book.specs.Fronts.{IsFrontOf}
use Rattle.serve_command.specs.Parts.{AreParts}
use Rattle.serve_command.specs.Manning.{MayLeave}
use Rattle.serve_command.proofs.Leaving.{left_one_more, none_left_over}
use Rattle.serve_command.proofs.manning.leave.Goals as goal

pub loop-worker-init : goal.loop-worker-init
loop-worker-init g c =
    let many : vec_len c.args.workers.now ≡ length c.args.workers.now.items = c.args.workers.now.ok.0 in
    let none : length c.args.doors.now.items ≡ 0 = ap length c.requires.none in
    record {
      left = λ level begun history start seed accept opened legal goes new kept unused ended. (
        [],
        opened,
        [],
        refl,
        subst (λ (l : List Passage). AreParts level begun history seed accept 0 [] [] l) (sym (ap (map g.D.Door.passage) c.requires.none)) tt,
        ended,
        sym (append-nil (event_lists c.args.pass.now)),
        refl,
      );
      lock = c.requires.lock;
      parts = refl;
      workers = c.requires.workers;
      capacity = omega (arith, many, none, c.requires.capacity);
    }

pub into_pass-requires : goal.into_pass-requires
into_pass-requires g c =
    (All-pop (MayLeave c.args.shared.now) _ _ (Some c.in-Some.worker) c.in-Some.ensures.items c.loop-worker.invariant.workers).1.no_session

pub loop-worker-preserved : goal.loop-worker-preserved
loop-worker-preserved g c =
    let is = c.loop-worker.invariant in
    let popped = All-pop (MayLeave c.args.shared.now) _ _ (Some c.in-Some.worker) c.in-Some.ensures.items is.workers in
    let may = popped.1 in
    let workers_old : vec_len c.loop-worker.workers ≡ length c.loop-worker.workers.items = c.loop-worker.workers.ok.0 in
    let workers_new : vec_len c.pop.new.self ≡ length c.pop.new.self.items = c.pop.new.self.ok.0 in
    let doors_old : vec_len c.loop-worker.doors ≡ length c.loop-worker.doors.items = c.loop-worker.doors.ok.0 in
    let doors_new : vec_len c.push_reserved.new.self ≡ length c.push_reserved.new.self.items = c.push_reserved.new.self.ok.0 in
    let from_is : c.into_pass.result ≡ c.in-Some.worker.book.pass = c.into_pass.ensures in
    let from_parts : c.into_pass.result.parts ≡ 1 = ap (λ (p : PassValue Entry). p.parts) from_is ∙ may.parts in
    record {
      left = λ level begun history start seed accept opened legal goes new kept unused ended.
          let earlier = prefix_trans c.loop-worker.pass.seen c.join.new.into.seen (entries_of history) c.join.ensures.joined.begins_with_both.0 goes in
          let before = is.left level begun history start seed accept opened legal earlier new kept unused ended in
          let saw = subst (λ (p : PassValue Entry). IsFrontOf (chronicle_of p.seen) history) from_is (c.join.ensures.fronts history legal goes).1 in
          left_one_more g.D.Door.passage level begun history start seed accept opened c.loop-worker.doors.items c.push_reserved.new.self.items
          c.loop-worker.workers.items c.pop.new.self.items c.in-Some.worker c.args.pass.now c.loop-worker.pass c.join.new.into c.loop-worker.fault
          c.worse-fault.result new kept unused saw c.in-Some.ensures.items c.push_reserved.ensures.items
          (subst (λ (p : PassValue Entry). Joined key_of c.loop-worker.pass p c.join.new.into) from_is c.join.ensures.joined) c.worse-fault.ensures before;
      lock = c.join.ensures.joined.lock ∙ is.lock;
      parts = omega (arith, is.parts, c.join.ensures.joined.parts, from_parts, workers_old, workers_new, c.in-Some.ensures.len);
      workers = popped.0;
      capacity = omega (
        arith,
        is.capacity,
        workers_old,
        workers_new,
        doors_old,
        doors_new,
        c.in-Some.ensures.len,
        c.push_reserved.ensures.len,
        c.push_reserved.ensures.capacity,
      );
    }

pub returns-clause-left : goal.returns-clause-left
returns-clause-left g c = λ level begun history start seed accept opened legal goes new kept unused ended.
    let many : vec_len c.loop-worker.workers ≡ length c.loop-worker.workers.items = c.loop-worker.workers.ok.0 in
    let none : c.loop-worker.workers.items ≡ [] = nil_from_length c.loop-worker.workers.items (omega (arith, many, c.in_default.ensures.cases.0)) in
    let (gone, rest, parts, whole, are, left, lists, fault) = c.loop-worker.invariant.left level begun history start seed accept opened legal goes new kept unused ended in (
      parts,
      none_left_over g.D.Door.passage level begun history start seed accept opened gone rest parts (map g.D.Door.passage c.loop-worker.doors.items)
          c.loop-worker.workers.items whole none left are,
      lists,
      fault,
    )
