use denote.Param.Send.{sendable}
use denote.Param.SendFields.{declared_send}
use Rattle.std.proofs.Common.{◌≡◌, ◌++◌, List, [], length, map, vec_len, refl, sym, ◌∙◌, ap, subst}
use Rattle.std.specs.Prelude.{All, ◌+◌, ◌≤◌, vec_capacity}
use Rattle.std.proofs.lemmas.List.Elements.{All-map}
use Rattle.history_core.specs.declared.event.Event.{Event}
use Rattle.history_core.specs.Chronicle.{Chronicle}
use Rattle.history_book.specs.Book.{no_session}
use Rattle.turn_lock.specs.Passes.{LockValue, PassValue, split_off}
use Rattle.doors.specs.Passage.{IsUnused}
use Rattle.doors.specs.Network.{doors_returned}
use Rattle.door_workers.specs.Visits.{events_of_visits}
use Rattle.shared_book.specs.declared.entry.Entry.{Entry}
use Rattle.shared_book.specs.Entries.{chronicle_of, event_lists}
use Rattle.door_workers.specs.Workers.{IsReady}
use Rattle.door_workers.specs.Pairs.{EachPair}
use Rattle.shared_book.proofs.Sending.{book_send}
use Rattle.serve_command.specs.Parts.{Part}
use Rattle.serve_command.specs.Manning.{HaveEnded, MayLeave}
use Rattle.serve_command.proofs.Ended.{are_ready, have_room, ended, may_all_leave, WorkedTo, post}
use Rattle.serve_command.proofs.Fronts.{written_back, length_of_map}
use Rattle.serve_command.proofs.command.run.Goals as goal

pub serve_doors-requires-send-B : goal.serve_doors-requires-send-B
serve_doors-requires-send-B g c κs within = let shared = c.type_bounds.sync-R in search (sendable, declared_send, book_send) depth 20

pub serve_doors-requires-clause-ready : goal.serve_doors-requires-clause-ready
serve_doors-requires-clause-ready g c κs within =
    subst (λ workers. All (λ worker. IsReady (post g.N.Door.Door.passage c.args.options.now.level (split_off c.args.pass.now) c.args.options.now.seed
    c.args.options.now.accept worker)) workers) (sym c.deref_mut.ensures.value)
    (are_ready g.N.Door.Door.passage c.args.options.now.level (split_off c.args.pass.now) c.args.options.now.seed c.args.options.now.accept 0
    c.in-Ok.doors.items c.man.new.workers.items c.in-Ok.ensures.unused c.man.ensures.manned)

pub serve_doors-requires-clause-room : goal.serve_doors-requires-clause-room
serve_doors-requires-clause-room g c κs within =
    subst (λ workers. All (λ worker. vec_len worker.served + worker.accept ≤ vec_capacity worker.served) workers) (sym c.deref_mut.ensures.value)
    (have_room g.N.Door.Door.passage c.args.options.now.level (split_off c.args.pass.now) c.args.options.now.seed c.args.options.now.accept 0
    c.in-Ok.doors.items c.man.new.workers.items c.man.ensures.manned)

pub leave-fault-requires-clause-workers : goal.leave-fault-requires-clause-workers
leave-fault-requires-clause-workers g c κs within =
    let pairs = subst (λ workers. EachPair (WorkedTo g.N.Door.Door.passage c.args.options.now.level (split_off c.args.pass.now) c.args.options.now.seed
    c.args.options.now.accept) workers c.serve_doors.new.workers) c.deref_mut.ensures.value c.serve_doors.ensures in
    let have = ended g.N.Door.Door.passage c.args.options.now.level (split_off c.args.pass.now) c.args.options.now.seed c.args.options.now.accept 0
    c.in-Ok.doors.items c.man.new.workers.items c.serve_doors.new.workers c.man.ensures.manned pairs in
    let many : vec_len c.man.new.workers ≡ length c.man.new.workers.items = c.man.new.workers.ok.0 in
    let lock : c.args.pass.now.lock ≡ c.args.shared.now = ap (λ (p : PassValue Entry). p.lock) c.requires.pass in
    subst (λ workers. All (MayLeave c.args.shared.now) workers)
    (sym (written_back c.man.new.workers.items c.serve_doors.new.workers c.man.new.workers.len pairs.0 many))
    (subst (λ (l : LockValue Entry). All (MayLeave l) c.serve_doors.new.workers) lock
    (may_all_leave g.N.Door.Door.passage c.args.options.now.level (split_off c.args.pass.now) c.args.options.now.seed c.args.options.now.accept 0
    (map g.N.Door.Door.passage c.in-Ok.doors.items) c.serve_doors.new.workers refl have))

pub returns-clause-ok : goal.returns-clause-ok
returns-clause-ok g c = λ history legal goes.
    let start = split_off c.args.pass.now in
    let opened = map g.N.Door.Door.passage c.in-Ok.doors.items in
    let pairs = subst (λ workers. EachPair (WorkedTo g.N.Door.Door.passage c.args.options.now.level start c.args.options.now.seed
    c.args.options.now.accept) workers c.serve_doors.new.workers) c.deref_mut.ensures.value c.serve_doors.ensures in
    let have = ended g.N.Door.Door.passage c.args.options.now.level start c.args.options.now.seed c.args.options.now.accept 0
    c.in-Ok.doors.items c.man.new.workers.items c.serve_doors.new.workers c.man.ensures.manned pairs in
    let many : vec_len c.man.new.workers ≡ length c.man.new.workers.items = c.man.new.workers.ok.0 in
    let back = subst (λ workers. HaveEnded g.N.Door.Door.passage c.args.options.now.level start c.args.options.now.seed c.args.options.now.accept 0 opened workers)
    (sym (written_back c.man.new.workers.items c.serve_doors.new.workers c.man.new.workers.len pairs.0 many)) have in
    let unused : All IsUnused opened = All-map IsUnused g.N.Door.Door.passage c.in-Ok.doors.items c.in-Ok.ensures.unused in
    let begun = ap (λ (p : PassValue Entry). chronicle_of p.seen) c.requires.pass in
    let left = c.leave-fault.ensures.left c.args.options.now.level (chronicle_of c.args.shared.now.start) history start c.args.options.now.seed
    c.args.options.now.accept opened legal goes
    (ap (λ (h : Chronicle). record { seen = h; own = []; state = no_session }) begun) refl unused back in
    let whats : Part → List Event = λ part. events_of_visits part.visits in
    let before = ap (λ (p : PassValue Entry). event_lists p) c.man.ensures.pass ∙ ap (λ (p : PassValue Entry). event_lists p) c.requires.pass in
    record {
      opened = opened;
      returned = map g.N.Door.Door.passage c.leave-fault.new.doors.items;
      parts = left.0;
      doors = record {
        number = length_of_map g.N.Door.Door.passage c.in-Ok.doors.items ∙ c.in-Ok.ensures.number;
        unused = unused;
        told = c.in-Ok.ensures.told;
        next = (g.N.Network.networked c.doors.new.self).to_open;
        network = c.doors_back.ensures ∙ ap (doors_returned (map g.N.Door.Door.passage c.leave-fault.new.doors.items)) c.in-Ok.ensures.ok;
      };
      are_parts = left.1;
      lists_are = left.2 ∙ ap (λ (l : List (List Event)). l ++ map whats left.0) before;
      fault_is = left.3;
    }
