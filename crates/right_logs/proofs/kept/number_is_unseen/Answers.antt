use Rattle.std.proofs.Common.{length, refl, arith}
use Rattle.std.proofs.lemmas.Option.{slice_get_read}
use Rattle.right_logs.proofs.kept.number_is_unseen.Goals as goal

pub returns : goal.returns
returns c = λ h. (
  c.index.result.now,
  (
    slice_get_read c.args.pass.now.txns.items (length c.args.pass.now.txns.items) c.args.number c.index.result.now refl (omega arith) c.index.ensures,
    c.is_unseen.ensures h,
  ),
)
