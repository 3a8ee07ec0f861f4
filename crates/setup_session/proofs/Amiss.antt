-- A setup that failed, by its cause.
use Rattle.std.proofs.Common.{◌≤◌, ℕ, List, length}
use Rattle.history_core.specs.Chronicle.{Chronicle}
use Rattle.session_core.specs.declared.served.Served.{Served}
use Rattle.setup_client.specs.Client.{most_text}
use Rattle.setup_session.specs.declared.fault.SetupFault.{SetupFault}
use Rattle.setup_session.specs.declared.fault.SetupFault.TheVariants as faults
use Rattle.setup_session.specs.Setups.{Ran, IsCause, FailsSetup}

pub amiss : (text : List ℕ) (outcome : Served) (told : List ℕ) (history : Chronicle) (fault : SetupFault) → length text ≤ most_text →
    Ran text outcome told history → IsCause outcome told fault → FailsSetup text fault
amiss text outcome told history faults.TooLong few ran cause = absurd cause
amiss text outcome told history (faults.Statement error) few ran cause =
    record { few = few; outcome = outcome; told = told; history = history; ran = ran; cause = cause }
amiss text outcome told history faults.Unfinished few ran cause =
    record { few = few; outcome = outcome; told = told; history = history; ran = ran; cause = cause }
amiss text outcome told history (faults.Ended end) few ran cause =
    record { few = few; outcome = outcome; told = told; history = history; ran = ran; cause = cause }
amiss text outcome told history faults.Memory few ran cause = few
