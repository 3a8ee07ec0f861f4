use Rattle.std.proofs.Common.{◌∙◌}
use Rattle.log_file.proofs.CutLog.{cut_log}
use Rattle.log_file.proofs.file.write_log.Goals as goal

pub returns-in-Ok-clause-err : goal.returns-in-Ok-clause-err
returns-in-Ok-clause-err g c =
    let told = c.in-Ok.ensures in
    cut_log c.args.path.now c.args.store.now told.0 c.deref.result.now c.write_file.result _ _ told.1 told.3 (c.deref.ensures.value ∙ told.2) c.write_file.ensures.err
