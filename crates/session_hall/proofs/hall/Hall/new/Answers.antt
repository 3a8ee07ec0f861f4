use Rattle.std.proofs.Common.{◌≡◌, List, [], Some, ap, subst, ◌∙◌}
use Rattle.history_core.specs.Chronicle.{Chronicle, IsLegalChronicle}
use Rattle.valid_writes.specs.Beginnings.{empty_history}
use Rattle.session_hall.specs.Accounts.{nothing}
use Rattle.session_hall.proofs.Opening.{hall_new}
use Rattle.session_hall.proofs.hall.Hall.new.Goals as goal

pub returns-clause-stands : goal.returns-clause-stands
returns-clause-stands c =
    let is : c.in_ok-store.store ≡ empty_history c.args.level =
    c.in_ok-store.ensures ∙ ap (λ (rows : List _). record { level = c.args.level; initial = rows; events = []; tables = [] }) c.empty.ensures in
    hall_new c.args.level c.args.clients.items _ (ap (λ (h : Chronicle). Some h) is) (subst IsLegalChronicle is c.history.ensures.legal) c.in_ok-seats_for.ensures

pub returns-clause-hall : goal.returns-clause-hall
returns-clause-hall c = (c.args.level, empty_history c.args.level, c.args.clients.items, (λ k. nothing), returns-clause-stands c)

pub returns-clause-range : goal.returns-clause-range
returns-clause-range c = (returns-clause-stands c).count
