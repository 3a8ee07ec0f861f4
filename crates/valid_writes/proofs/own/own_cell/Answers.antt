use Rattle.std.proofs.Common.{refl, sym, subst}
use Rattle.cell_base.specs.declared.cell.Cell.{Cell}
use Rattle.history_core.specs.declared.event.Event.TheVariants.{Own}
use Rattle.history_core.specs.Chronicle.{Chronicle}
use Rattle.history_core.specs.Legal.{Follows}
use Rattle.valid_writes.proofs.Standing.{desk_plain, quiet_own}
use Rattle.valid_writes.proofs.own.own_cell.Goals as goal

pub append-requires-clause-follows : goal.append-requires-clause-follows
append-requires-clause-follows c =
    subst (λ (x : Cell). Follows c.args.desk.now.store.history.initial c.args.desk.now.store.history.events (Own c.args.desk.now.session x c.in-Ok.value)) (sym c.in-Ok-copy-2.ensures)
    (subst (λ (h : Chronicle). Follows h.initial h.events (Own c.args.desk.now.session c.args.cell.now c.in-Ok.value)) c.history.ensures c.in-Ok.ensures)

pub returns-in-Ok-append-clause-kept : goal.returns-in-Ok-append-clause-kept
returns-in-Ok-append-clause-kept c =
    desk_plain c.args.desk.now (record { store = c.append.new.store; given = c.args.desk.now.given; from = c.args.desk.now.from; session = c.args.desk.now.session; stage = c.args.desk.now.stage }) _
    (quiet_own c.args.desk.now.session c.in-Ok-copy-2.read c.in-Ok.value).plain c.requires.kept c.append.ensures.kept
    (record { history = c.in-Ok-append.ensures.ok; given = refl; from = refl; session = refl; stands = refl })
