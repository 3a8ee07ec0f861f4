use Rattle.program_laws.proofs.WholeStart.{whole_start}
use Rattle.program_laws.proofs.ServedRows.{served_whole}
use Rattle.program_laws.proofs.serving.serve_is_whole.Goals as goal

pub returns : goal.returns
returns c options host_first host_before start before code after host_after starts served =
    served_whole options.level start served.history options.seed options.accept served.opened served.parts served.returned served.are_parts
    served.one_history (whole_start options.setup options.level host_first start host_before starts)
