-- What starts after a setup is what was begun after it.
use Rattle.std.proofs.Common.{◌≡◌, ◌⊎◌, inl, inr, subst}
use Rattle.std.specs.Prelude.{Option, Some, None, IfSome, IfNone, Result, Ok, Err, IfOk, IfErr}
use Rattle.cell_base.specs.declared.level.Level.{Level}
use Rattle.cell_base.specs.declared.memory.Memory.{Memory}
use Rattle.history_core.specs.Chronicle.{Chronicle}
use Rattle.committed_rows.specs.Start.{StartsAfter, HasNoRoom}
use Rattle.serve_command.specs.declared.start.StartFault.{StartFault}
use Rattle.serve_command.specs.declared.start.StartFault.TheVariants as faults
use Rattle.serve_command.proofs.start.store_after.Goals as goal

starts : (level : Level) (setup : Chronicle) (begun : Result (Option Chronicle) Memory) (result : Result Chronicle StartFault) →
    IfOk begun (λ found. IfSome found (λ store. StartsAfter level setup store)) → IfOk result (λ made. begun ≡ Ok (Some made)) →
    IfOk result (λ store. StartsAfter level setup store)
starts level setup begun (Ok made) some is =
    subst (λ (answer : Result (Option Chronicle) Memory). IfOk answer (λ found. IfSome found (λ store. StartsAfter level setup store))) is some
starts level setup begun (Err e) some is = tt

refused : (level : Level) (setup : Chronicle) (begun : Result (Option Chronicle) Memory) (result : Result Chronicle StartFault) →
    IfOk begun (λ found. IfNone found (HasNoRoom level setup)) →
    IfErr result (λ e. ((e ≡ faults.Heavy) × (begun ≡ Ok None)) ⊎ (e ≡ faults.Memory)) →
    IfErr result (λ e. ((e ≡ faults.Heavy) × HasNoRoom level setup) ⊎ (e ≡ faults.Memory))
refused level setup begun (Ok made) none why = tt
refused level setup begun (Err e) none why = elim why [
  | inl both ↦
      inl (
        both.0,
        subst (λ (answer : Result (Option Chronicle) Memory). IfOk answer (λ found. IfNone found (HasNoRoom level setup))) both.1 none,
      )
  | inr memory ↦ inr memory
]

pub returns-clause-ok : goal.returns-clause-ok
returns-clause-ok c =
    subst (λ (setup : Chronicle). IfOk c.with_room.result (λ store. StartsAfter c.args.level setup store)) c.history.ensures.is
    (starts c.args.level c.history.result.now c.start_after-begun.result c.with_room.result c.start_after-begun.ensures.some c.with_room.ensures.ok)

pub returns-clause-err : goal.returns-clause-err
returns-clause-err c =
    subst (λ (setup : Chronicle). IfErr c.with_room.result (λ e. ((e ≡ faults.Heavy) × HasNoRoom c.args.level setup) ⊎ (e ≡ faults.Memory)))
    c.history.ensures.is
    (refused c.args.level c.history.result.now c.start_after-begun.result c.with_room.result c.start_after-begun.ensures.none c.with_room.ensures.err)
