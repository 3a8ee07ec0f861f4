use Rattle.std.proofs.Common.{refl}
use Rattle.std.proofs.lemmas.Bool.{false≢true}
use Rattle.history_check.proofs.KeyLemmas.{found_key, missed_key}
use Rattle.history_check.proofs.keys.contains_key.Goals as goal

pub returns-in-Ok : goal.returns-in-Ok
returns-in-Ok c = (λ h. found_key c.args.keys.now c.args.key.now c.in-Ok._at c.in-Ok.ensures.bound c.in-Ok.ensures.ok, λ there. refl)

pub returns-in-Err : goal.returns-in-Err
returns-in-Err c = (
  λ h. absurd (false≢true h),
  λ there. absurd (missed_key c.args.keys.now c.args.key.now c.in-Err._at c.requires c.in-Err.ensures.position there),
)
