-- What a server starts from: no row and no event, or what a setup left.
use Rattle.std.specs.Prelude.{◌≡◌, ℕ, List, Option, None, Some}
use Rattle.cell_base.specs.declared.level.Level.{Level}
use Rattle.link_traits.specs.Host.{Hosted}
use Rattle.history_core.specs.Chronicle.{Chronicle}
use Rattle.host_calls.specs.Reading.{FileRead, Unread}
use Rattle.host_calls.specs.declared.reading.FileFault.TheVariants as files
use Rattle.setup_client.specs.Client.{most_text}
use Rattle.setup_session.specs.Setups.{SetsUp, FailsSetup}
use Rattle.setup_session.specs.declared.fault.SetupFault.{SetupFault}
use Rattle.setup_session.specs.declared.fault.SetupFault.TheVariants as setups
use Rattle.committed_rows.specs.Start.{StartsAfter, HasNoRoom}
use Rattle.valid_writes.specs.Beginnings.{empty_history}
use Rattle.serve_command.specs.declared.start.StartFault.{StartFault}
use Rattle.serve_command.specs.declared.start.StartFault.TheVariants as faults

-- The file of the path was read to its end, its text was run by a session of its own, and the history starts after what that session left.
pub record SetUp (path : List ℕ) (level : Level) (before : Hosted) (start : Chronicle) (after : Hosted) : Type 0 where
  pub text : List ℕ
  pub setup : Chronicle
  pub read : FileRead path most_text text before after
  pub sets_up : SetsUp text setup
  pub starts : StartsAfter level setup start

-- what a server starts from: without a setup the empty history, and nothing is done in the host
abbrev pub StartsBy : Option (List ℕ) → Level → Hosted → Chronicle → Hosted → Type 0
StartsBy None level before start after = (start ≡ empty_history level) × (after ≡ before)
StartsBy (Some path) level before start after = SetUp path level before start after

-- the file of the path was read, and the setup of its text failed
pub record SetupFailed (path : List ℕ) (fault : SetupFault) (before after : Hosted) : Type 0 where
  pub text : List ℕ
  pub read : FileRead path most_text text before after
  pub fails : FailsSetup text fault

-- the file of the path was read, its text was run, and whatever would start after what that left has no room
pub record TooHeavy (path : List ℕ) (level : Level) (before after : Hosted) : Type 0 where
  pub text : List ℕ
  pub setup : Chronicle
  pub read : FileRead path most_text text before after
  pub sets_up : SetsUp text setup
  pub no_room : HasNoRoom level setup

-- the file of the path was read
abbrev pub OnlyRead : List ℕ → Hosted → Hosted → Type 0
OnlyRead path before after = (text : List ℕ) × FileRead path most_text text before after

-- Why a server didn't start, given the path of its setup, where there is one.
abbrev pub Unstarted : Option (List ℕ) → Level → Hosted → StartFault → Hosted → Type 0
Unstarted None level before (faults.File fault) after = ⊥
Unstarted None level before (faults.Setup fault) after = ⊥
Unstarted None level before faults.Heavy after = ⊥
Unstarted None level before faults.Memory after = after ≡ before
Unstarted (Some path) level before (faults.File fault) after = Unread path fault before after
Unstarted (Some path) level before (faults.Setup fault) after = SetupFailed path fault before after
Unstarted (Some path) level before faults.Heavy after = TooHeavy path level before after
Unstarted (Some path) level before faults.Memory after = OnlyRead path before after

-- the status of a server that didn't start
abbrev pub status_of_start : StartFault → ℕ
status_of_start (faults.File files.Open) = 6
status_of_start (faults.File files.Read) = 3
status_of_start (faults.File files.Memory) = 5
status_of_start (faults.Setup setups.TooLong) = 1
status_of_start (faults.Setup (setups.Statement fault)) = 1
status_of_start (faults.Setup setups.Unfinished) = 1
status_of_start (faults.Setup (setups.Ended end)) = 1
status_of_start (faults.Setup setups.Memory) = 5
status_of_start faults.Heavy = 1
status_of_start faults.Memory = 5
