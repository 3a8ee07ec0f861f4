use Rattle.std.proofs.Common.{[], ◌∷◌, ◌++◌, sym, subst}
use Rattle.history_core.specs.declared.event.Event.{Event}
use Rattle.indexed_history.specs.Index.{IsIndex}
use Rattle.indexed_history.proofs.Indexes.{indexed_end}
use Rattle.indexed_history.proofs.pushes.forget_ended.Goals as goal

pub returns-in-Rollback : goal.returns-in-Rollback
returns-in-Rollback c =
    subst (λ (e : Event). IsIndex (c.args.history.now.events ++ e ∷ []) c.forget_pending.new.index) (sym c.in-Rollback.is) c.forget_pending.ensures

pub returns-in_default : goal.returns-in_default
returns-in_default c = indexed_end c.args.history.now.events c.args.event.now c.args.index.now c.requires.end c.in_default.not-Rollback c.requires.indexed
