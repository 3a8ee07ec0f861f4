use Rattle.program_laws.proofs.OneEach.{are_sessions}
use Rattle.program_laws.proofs.serving.served_links_are_sessions.Goals as goal

pub returns : goal.returns
returns c options start before host_before code after host_after served =
    are_sessions options.level start served.history options.seed options.accept served.opened served.parts served.returned served.are_parts
    served.one_history
