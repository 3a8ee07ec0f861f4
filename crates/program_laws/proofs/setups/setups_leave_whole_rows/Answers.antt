use Rattle.std.proofs.Common.{[], ◌∷◌, ◌++◌, refl}
use Rattle.history_core.specs.declared.event.Event.TheVariants.{Open, Close}
use Rattle.committed_rows.specs.Start.{definitions}
use Rattle.program_laws.proofs.Setup.{setup_whole}
use Rattle.program_laws.proofs.setups.setups_leave_whole_rows.Goals as goal

pub returns : goal.returns
returns c = record {
  whole = setup_whole;
  weight = λ text level setup cells sets none are.
      none
      (record { level = level; initial = cells; events = Open 1 ∷ (definitions setup.tables ++ Close 1 ∷ []); tables = setup.tables })
      (record { level = refl; rows = are; whole = setup_whole text setup cells sets are; tables = refl; events = refl });
}
