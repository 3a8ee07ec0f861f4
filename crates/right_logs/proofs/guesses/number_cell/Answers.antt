use Rattle.std.proofs.Common.{refl, inl}
use Rattle.right_logs.proofs.guesses.number_cell.Goals as goal

pub returns-then-is_number_of : goal.returns-then-is_number_of
returns-then-is_number_of c = record {
  is = c.is_number_of.ensures c.if-is_number_of.true;
  pushed = c.in_ok-push.ensures.items;
  adds = inl (refl, refl);
}
