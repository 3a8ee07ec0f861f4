use Rattle.std.proofs.Common.{subst}
use Rattle.history_log.specs.declared.log_fault.LogFault.{LogFault}
use Rattle.history_log.specs.Faults.{HasFault}
use Rattle.check_command.proofs.judge_verdict.fault_judged.Goals as goal

pub fault_line-requires : goal.fault_line-requires
fault_line-requires c = λ is. subst (λ (fault : LogFault). HasFault c.args.bytes.now fault) is c.requires
