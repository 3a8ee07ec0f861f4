use Rattle.wide_check.proofs.PieceLemmas.{not_true, not_false}
use Rattle.wide_check.proofs.pieces.is_unkept.Goals as goal

pub returns : goal.returns
returns c = record {
  unkept = λ h kept. not_true c.event_is_kept.result h (c.event_is_kept.ensures.1 kept);
  kept = λ h. c.event_is_kept.ensures.0 (not_false c.event_is_kept.result h);
}
