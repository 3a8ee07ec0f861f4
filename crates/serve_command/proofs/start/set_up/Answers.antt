-- The store that starts after the setup of a text, with the file that the text was read of.
use Rattle.std.proofs.Common.{◌≡◌, ◌⊎◌, ℕ, List, inl, inr, sym, subst}
use Rattle.std.specs.Prelude.{Some, Result, Ok, Err, IfOk, IfErr}
use Rattle.cell_base.specs.declared.level.Level.{Level}
use Rattle.link_traits.specs.Host.{Hosted}
use Rattle.history_core.specs.Chronicle.{Chronicle}
use Rattle.host_calls.specs.Reading.{FileRead}
use Rattle.setup_client.specs.Client.{most_text}
use Rattle.setup_session.specs.Setups.{SetsUp}
use Rattle.committed_rows.specs.Start.{StartsAfter, HasNoRoom}
use Rattle.serve_command.specs.Starting.{StartsBy, Unstarted}
use Rattle.serve_command.specs.declared.start.StartFault.{StartFault}
use Rattle.serve_command.specs.declared.start.StartFault.TheVariants as faults
use Rattle.serve_command.proofs.start.set_up.Goals as goal

starts : (path : List ℕ) (level : Level) (before after : Hosted) (text : List ℕ) (setup : Chronicle) (result : Result Chronicle StartFault) →
    FileRead path most_text text before after → SetsUp text setup → IfOk result (λ store. StartsAfter level setup store) →
    IfOk result (λ store. StartsBy (Some path) level before store after)
starts path level before after text setup (Ok store) read sets_up starts_after =
    record { text = text; setup = setup; read = read; sets_up = sets_up; starts = starts_after }
starts path level before after text setup (Err e) read sets_up starts_after = tt

unstarted : (path : List ℕ) (level : Level) (before after : Hosted) (text : List ℕ) (setup : Chronicle) (result : Result Chronicle StartFault) →
    FileRead path most_text text before after → SetsUp text setup →
    IfErr result (λ e. ((e ≡ faults.Heavy) × HasNoRoom level setup) ⊎ (e ≡ faults.Memory)) →
    IfErr result (λ e. Unstarted (Some path) level before e after)
unstarted path level before after text setup (Ok store) read sets_up why = tt
unstarted path level before after text setup (Err e) read sets_up why = elim why [
  | inl heavy ↦
      subst (λ (fault : StartFault). Unstarted (Some path) level before fault after) (sym heavy.0)
      (record { text = text; setup = setup; read = read; sets_up = sets_up; no_room = heavy.1 })
  | inr memory ↦ subst (λ (fault : StartFault). Unstarted (Some path) level before fault after) (sym memory) (text, read)
]

pub returns-clause-ok : goal.returns-clause-ok
returns-clause-ok g c =
    starts c.args.path.now c.args.level _ _ c.in_ok-text.text.items c.in_ok-setup.setup c.store_after.result c.in_ok-text.ensures.ok
    (subst (λ (text : List ℕ). SetsUp text c.in_ok-setup.setup) c.deref.ensures.value c.in_ok-setup.ensures.ok) c.store_after.ensures.ok

pub returns-clause-err : goal.returns-clause-err
returns-clause-err g c =
    unstarted c.args.path.now c.args.level _ _ c.in_ok-text.text.items c.in_ok-setup.setup c.store_after.result c.in_ok-text.ensures.ok
    (subst (λ (text : List ℕ). SetsUp text c.in_ok-setup.setup) c.deref.ensures.value c.in_ok-setup.ensures.ok) c.store_after.ensures.err
