use Rattle.std.proofs.Common.{◌≡◌, ◌≤◌, length, vec_len, vec_capacity, ap, arith}
use Rattle.std.proofs.lemmas.List.Elements.{All-push, All-nil, All-same}
use Rattle.serve_command.proofs.manning.rooms.Goals as goal

pub loop-init : goal.loop-init
loop-init c = record {
  number = ap (λ l. length l) c.in_ok-rooms.ensures.items;
  empty = All-same (λ room. vec_len room ≡ 0) _ _ c.in_ok-rooms.ensures.items (All-nil (λ room. vec_len room ≡ 0));
  room = All-same (λ room. c.args.accept ≤ vec_capacity room) _ _ c.in_ok-rooms.ensures.items (All-nil (λ room. c.args.accept ≤ vec_capacity room));
}

pub loop-preserved : goal.loop-preserved
loop-preserved c =
    let pushed = c.in_ok-push.ensures.items in
    record {
      number = omega (arith, c.loop.invariant.number, c.in_ok-push.ensures.len);
      empty = All-same (λ room. vec_len room ≡ 0) _ _ pushed
          (All-push (λ room. vec_len room ≡ 0) _ _ c.loop.invariant.empty c.in_ok-with_capacity.ensures.len);
      room = All-same (λ room. c.args.accept ≤ vec_capacity room) _ _ pushed
          (All-push (λ room. c.args.accept ≤ vec_capacity room) _ _ c.loop.invariant.room c.in_ok-with_capacity.ensures.capacity);
    }

pub returns-clause-number : goal.returns-clause-number
returns-clause-number c = omega (arith, c.loop.invariant.number, c.loop-test.false, c.loop.auto.counter-end)

pub returns-clause-empty : goal.returns-clause-empty
returns-clause-empty c = c.loop.invariant.empty

pub returns-clause-room : goal.returns-clause-room
returns-clause-room c = c.loop.invariant.room
