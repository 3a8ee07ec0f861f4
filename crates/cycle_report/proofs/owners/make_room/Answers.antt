use Rattle.std.proofs.Common.{◌+◌}
use Rattle.std.proofs.lemmas.Result.{on_ok_weaker}
use Rattle.order_test.proofs.GlanceLemmas.{last_widened, room_widened}
use Rattle.cycle_report.proofs.owners.make_room.Goals as goal

pub returns-clause-last : goal.returns-clause-last
returns-clause-last c =
    on_ok_weaker c.widen.result
    (λ is. last_widened c.args.before.now (c.session_of-session.result + 1) c.args.last.now.items c.widen.new.last.items is c.requires) c.widen.ensures

pub returns-clause-within : goal.returns-clause-within
returns-clause-within c =
    on_ok_weaker c.widen.result
    (λ is. room_widened c.args.event.now c.session_of-session.result c.args.last.now.items c.widen.new.last.items c.session_of-session.ensures is) c.widen.ensures
