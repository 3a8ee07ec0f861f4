use Rattle.std.proofs.Common.{arith}
use Rattle.history_core.proofs.Numbers.{opened_bounds}
use Rattle.history_core.proofs.kept.session_index.Goals as goal

pub overflow_sub-result : goal.overflow_sub-result
overflow_sub-result c =
    let h = opened_bounds c.args.kept.now.initial c.args.kept.now.events.items c.requires.kept.formed.formed c.args.session c.requires.opened in omega arith

pub returns-clause-number : goal.returns-clause-number
returns-clause-number c =
    let h = opened_bounds c.args.kept.now.initial c.args.kept.now.events.items c.requires.kept.formed.formed c.args.session c.requires.opened in omega arith

pub returns-clause-within : goal.returns-clause-within
returns-clause-within c =
    let h = opened_bounds c.args.kept.now.initial c.args.kept.now.events.items c.requires.kept.formed.formed c.args.session c.requires.opened in
    let n = c.requires.kept.sessions.count in omega arith
