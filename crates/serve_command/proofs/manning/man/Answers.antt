use Rattle.std.proofs.Common.{◌≡◌, ◌-◌, ◌≤◌, ◌++◌, ◌∷◌, ℕ, suc, [], length, drop, vec_len, vec_capacity, refl, sym, ◌∙◌, ap, subst, arith}
use Rattle.std.specs.Prelude.{Some}
use Rattle.std.proofs.lemmas.List.{append-nil, append_assoc, nil_from_length}
use Rattle.std.proofs.lemmas.List.Elements.{All-pop}
use Rattle.turn_lock.specs.Passes.{PassValue, split_off}
use Rattle.choice_stream.specs.Seeds.{stream_front}
use Rattle.shared_book.specs.declared.entry.Entry.{Entry}
use Rattle.shared_book.specs.Books.{fresh_book}
use Rattle.serve_command.specs.Manning.{AreManned}
use Rattle.serve_command.proofs.Fronts.{drop_all, drop_one_more}
use Rattle.serve_command.proofs.manning.man.Goals as goal

pub loop-door-init : goal.loop-door-init
loop-door-init g c =
    let doors = c.args.doors.now.items in
    let no_workers : length c.args.workers.now.items ≡ 0 = ap length c.requires.none in
    let many_doors : vec_len c.args.doors.now ≡ length doors = c.args.doors.now.ok.0 in
    let many_rooms : vec_len c.args.rooms.now ≡ length c.args.rooms.now.items = c.args.rooms.now.ok.0 in
    record {
      whole = sym (ap (λ l. doors ++ l) (drop_all doors) ∙ append-nil doors);
      manned = subst (λ ds. AreManned (split_off c.args.pass.now) c.args.options.now.seed c.args.options.now.accept (length doors) ds c.args.workers.now.items)
          (sym (drop_all doors)) c.requires.none;
      pass = refl;
      parts = omega (arith, no_workers);
      left = omega (arith, c.requires.parts, many_doors);
      number = omega (arith, no_workers);
      rooms = omega (arith, c.requires.number, many_doors, many_rooms);
      empty = c.requires.empty;
      room = c.requires.room;
      capacity = omega (arith, no_workers, c.requires.capacity, many_doors);
      doors_capacity = refl;
    }

pub unreachable-requires : goal.unreachable-requires
unreachable-requires g c =
    let many_doors : vec_len c.loop-door.doors ≡ length c.loop-door.doors.items = c.loop-door.doors.ok.0 in
    let many_rooms : vec_len c.loop-door.rooms ≡ length c.loop-door.rooms.items = c.loop-door.rooms.ok.0 in
    omega (arith, c.loop-door.invariant.rooms, many_doors, many_rooms, c.in-Some.ensures.len, c.in_default-pop.ensures.cases.0)

pub split-requires-clause-lock : goal.split-requires-clause-lock
split-requires-clause-lock g c = ap (λ (p : PassValue Entry). p.lock) c.loop-door.invariant.pass ∙ c.requires.lock

pub split-requires-clause-parts : goal.split-requires-clause-parts
split-requires-clause-parts g c =
    let many_doors : vec_len c.loop-door.doors ≡ length c.loop-door.doors.items = c.loop-door.doors.ok.0 in
    omega (arith, many_doors, c.loop-door.invariant.left, c.in-Some.ensures.len)

pub book-requires : goal.book-requires
book-requires g c = record {
  lock = ap (λ (p : PassValue Entry). p.lock) c.split.ensures.new ∙ ap (λ (p : PassValue Entry). p.lock) c.loop-door.invariant.pass ∙ c.requires.lock;
}

pub push_reserved-requires : goal.push_reserved-requires
push_reserved-requires g c =
    let many_doors : vec_len c.loop-door.doors ≡ length c.loop-door.doors.items = c.loop-door.doors.ok.0 in
    let many_workers : vec_len c.loop-door.workers ≡ length c.loop-door.workers.items = c.loop-door.workers.ok.0 in
    omega (arith, many_doors, many_workers, c.loop-door.invariant.capacity, c.in-Some.ensures.len)

pub loop-door-preserved : goal.loop-door-preserved
loop-door-preserved g c =
    let is = c.loop-door.invariant in
    let front = c.pop.new.self.items in
    let gone = drop (length c.loop-door.doors.items) c.args.doors.now.items in
    let items = c.in-Some.ensures.items in
    let many_old : vec_len c.loop-door.doors ≡ length c.loop-door.doors.items = c.loop-door.doors.ok.0 in
    let many_front : vec_len c.pop.new.self ≡ length front = c.pop.new.self.ok.0 in
    let one_less : length c.loop-door.doors.items ≡ suc (length front) = omega (arith, many_old, many_front, c.in-Some.ensures.len) in
    let whole_is = is.whole ∙ ap (λ l. l ++ gone) items in
    let cut : drop (length front) c.args.doors.now.items ≡ c.in-Some.door ∷ gone = drop_one_more c.args.doors.now.items front gone c.in-Some.door whole_is in
    let rooms_old : vec_len c.loop-door.rooms ≡ length c.loop-door.rooms.items = c.loop-door.rooms.ok.0 in
    let rooms_new : vec_len c.pop-in-Some.new.self ≡ length c.pop-in-Some.new.self.items = c.pop-in-Some.new.self.ok.0 in
    let workers_old : vec_len c.loop-door.workers ≡ length c.loop-door.workers.items = c.loop-door.workers.ok.0 in
    let workers_new : vec_len c.push_reserved.new.self ≡ length c.push_reserved.new.self.items = c.push_reserved.new.self.ok.0 in
    let empties = All-pop (λ room. vec_len room ≡ 0) _ _ (Some c.in-Some-pop.served) c.in-Some-pop.ensures.items is.empty in
    let roomy = All-pop (λ room. c.args.options.now.accept ≤ vec_capacity room) _ _ (Some c.in-Some-pop.served) c.in-Some-pop.ensures.items is.room in
    let none : vec_len c.in-Some-pop.served ≡ 0 = empties.1 in
    let none_served : vec_len c.in-Some-pop.served ≡ length c.in-Some-pop.served.items = c.in-Some-pop.served.ok.0 in
    let enough : c.args.options.now.accept ≤ vec_capacity c.in-Some-pop.served = roomy.1 in
    let split = c.split.ensures.old in
    let split_parts : c.split.new.pass.parts ≡ c.loop-door.pass.parts - 1 = ap (λ (p : PassValue Entry). p.parts) split in
    record {
      whole = whole_is ∙ append_assoc front (c.in-Some.door ∷ []) gone ∙ ap (λ l. front ++ l) (sym cut);
      manned = subst (λ ds. AreManned (split_off c.args.pass.now) c.args.options.now.seed c.args.options.now.accept (length front) ds
          c.push_reserved.new.self.items) (sym cut) (
            c.loop-door.workers.items,
            _,
            c.push_reserved.ensures.items,
            record {
              book = c.book.ensures.is ∙ ap fresh_book (c.split.ensures.new ∙ ap (λ (p : PassValue Entry). split_off p) is.pass);
              door_is = refl;
              words = c.new.ensures ∙ ap (stream_front c.args.options.now.seed) (c.len-stream.ensures ∙ many_front);
              accept_is = refl;
              served = nil_from_length c.in-Some-pop.served.items (sym none_served ∙ none);
              room = omega (arith, none, enough);
              fault = refl;
            },
            subst (λ (n : ℕ). AreManned (split_off c.args.pass.now) c.args.options.now.seed c.args.options.now.accept n gone c.loop-door.workers.items)
                one_less is.manned,
          );
      pass = split ∙ ap (λ (p : PassValue Entry). record p { parts = c.loop-door.pass.parts - 1 }) is.pass
          ∙ ap (λ (n : ℕ). record c.args.pass.now { parts = n }) (sym split_parts);
      parts = omega (arith, is.parts, is.left, split_parts, workers_old, workers_new, c.push_reserved.ensures.len);
      left = omega (arith, is.left, one_less, split_parts);
      number = omega (arith, is.number, one_less, workers_old, workers_new, c.push_reserved.ensures.len);
      rooms = omega (arith, is.rooms, one_less, rooms_old, rooms_new, c.in-Some-pop.ensures.len);
      empty = empties.0;
      room = roomy.0;
      capacity = omega (arith, is.capacity, one_less, workers_old, workers_new, c.push_reserved.ensures.len, c.push_reserved.ensures.capacity);
      doors_capacity = c.in-Some.ensures.capacity ∙ is.doors_capacity;
    }

-- the doors are all gone
pub returns-clause-manned : goal.returns-clause-manned
returns-clause-manned g c =
    let many : vec_len c.loop-door.doors ≡ length c.loop-door.doors.items = c.loop-door.doors.ok.0 in
    let none : length c.loop-door.doors.items ≡ 0 = omega (arith, many, c.in_default.ensures.len, c.in_default.ensures.cases.0) in
    subst (λ (n : ℕ). AreManned (split_off c.args.pass.now) c.args.options.now.seed c.args.options.now.accept n (drop n c.args.doors.now.items)
    c.loop-door.workers.items) none c.loop-door.invariant.manned

pub returns-clause-pass : goal.returns-clause-pass
returns-clause-pass g c = c.loop-door.invariant.pass

pub returns-clause-parts : goal.returns-clause-parts
returns-clause-parts g c =
    let many : vec_len c.loop-door.doors ≡ length c.loop-door.doors.items = c.loop-door.doors.ok.0 in
    let first : vec_len c.args.doors.now ≡ length c.args.doors.now.items = c.args.doors.now.ok.0 in
    omega (arith, many, first, c.in_default.ensures.cases.0, c.loop-door.invariant.parts, c.loop-door.invariant.number)

pub returns-clause-number : goal.returns-clause-number
returns-clause-number g c =
    let many : vec_len c.loop-door.doors ≡ length c.loop-door.doors.items = c.loop-door.doors.ok.0 in
    let first : vec_len c.args.doors.now ≡ length c.args.doors.now.items = c.args.doors.now.ok.0 in
    let workers : vec_len c.loop-door.workers ≡ length c.loop-door.workers.items = c.loop-door.workers.ok.0 in
    omega (arith, many, first, workers, c.in_default.ensures.cases.0, c.loop-door.invariant.number)

pub returns-clause-capacity : goal.returns-clause-capacity
returns-clause-capacity g c = c.in_default.ensures.capacity ∙ c.loop-door.invariant.doors_capacity
