use Rattle.forced_rows.specs.Stars.{AreStarsOf}
use Rattle.std.proofs.Common.{refl, sym, subst}
use Rattle.cell_base.specs.declared.cell.Cell.{Cell}
use Rattle.history_core.specs.declared.event.Event.TheVariants.{Read}
use Rattle.history_core.specs.Chronicle.{Chronicle}
use Rattle.history_core.specs.Relations.{WritesValue}
use Rattle.history_core.specs.Legal.{Follows, IsOffered}
use Rattle.valid_writes.specs.declared.desk.Stage.TheVariants.{Pending}
use Rattle.valid_writes.proofs.Standing.{desk_plain, quiet_read, read_follows, at_stage}
use Rattle.valid_writes.proofs.reading.read_cell.Goals as goal

pub append_read-requires-clause-follows : goal.append_read-requires-clause-follows
append_read-requires-clause-follows c =
    subst (λ (x : Cell). Follows c.args.desk.now.store.history.initial c.args.desk.now.store.history.events (Read c.args.desk.now.session x c.in-Ok.chosen.choice.source c.in-Ok.chosen.choice.count c.args.word c.in-Ok-value_of.value))
    (sym c.in-Ok-copy-2.ensures)
    (read_follows c.args.desk.now.store.history c.args.desk.now.session c.args.desk.now.stage c.args.cell.now c.in-Ok.chosen.choice.source c.in-Ok.chosen.choice.count c.args.word
    c.in-Ok-value_of.value c.requires.kept.served c.requires.pending c.requires.unwritten c.requires.defined
    (subst (λ (h : Chronicle). WritesValue h.initial h.events c.in-Ok.chosen.choice.source c.args.cell.now c.in-Ok-value_of.value) c.history.ensures c.in-Ok-value_of.ensures))

pub append_read-requires-clause-offered : goal.append_read-requires-clause-offered
append_read-requires-clause-offered c =
    subst (λ (x : Cell). IsOffered c.args.desk.now.store.history.events
    (Read c.args.desk.now.session x c.in-Ok.chosen.choice.source c.in-Ok.chosen.choice.count c.args.word c.in-Ok-value_of.value))
    (sym c.in-Ok-copy-2.ensures) (c.in-Ok.ensures.choice.offered c.in-Ok-value_of.value)

pub returns-in-Ok-append_read-clause-kept : goal.returns-in-Ok-append_read-clause-kept
returns-in-Ok-append_read-clause-kept c =
    desk_plain c.args.desk.now (record { store = c.append_read.new.store; given = c.args.desk.now.given; from = c.args.desk.now.from; session = c.args.desk.now.session; stage = c.args.desk.now.stage }) _
    (quiet_read c.args.desk.now.session c.in-Ok-copy-2.read c.in-Ok.chosen.choice.source c.in-Ok.chosen.choice.count c.args.word c.in-Ok-value_of.value).plain c.requires.kept
    c.append_read.ensures.kept (record { history = c.in-Ok-append_read.ensures.ok; given = refl; from = refl; session = refl; stands = refl })

pub append_read-requires-clause-stars : goal.append_read-requires-clause-stars
append_read-requires-clause-stars c =
    subst (λ (x : Cell). AreStarsOf c.args.desk.now.store.history.events c.args.desk.now.session x c.in-Ok.chosen.choice.source c.in-Ok.chosen.stars) (sym c.in-Ok-copy-2.ensures)
    c.in-Ok.ensures.stars

pub choose_with_stars-requires-clause-pending : goal.choose_with_stars-requires-clause-pending
choose_with_stars-requires-clause-pending c = (at_stage c.args.desk.now.store.history c.args.desk.now.session c.args.desk.now.stage Pending c.requires.pending c.requires.kept.served).stands.1
