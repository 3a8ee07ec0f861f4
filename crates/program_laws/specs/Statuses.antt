-- Why the program answers a status.
use Rattle.std.specs.Prelude.{◌≡◌, ◌≤◌, ◌<◌, ℕ, Bool, List, [], ◌∷◌, ◌++◌, Contains, Some}
use Rattle.cell_base.specs.declared.level.Level.{Level}
use Rattle.link_traits.specs.Faults.{Rose}
use Rattle.link_traits.specs.Traffic.{Sight}
use Rattle.link_traits.specs.Host.{Hosted, HostCall, Returned, standard_link_called, open_file_called, make_file_called, link_returned, file_returned, new_file_returned}
use Rattle.doors.specs.Passage.{Passage}
use Rattle.doors.specs.Network.{Networked}
use Rattle.block_machine.specs.declared.end.End.{End}
use Rattle.block_machine.specs.declared.end.End.TheVariants as ends
use Rattle.check_command.specs.Verdict.{IsVerdict}
use Rattle.check_command.specs.JudgeVerdict.{IsJudgeVerdict}
use Rattle.command_line.specs.Commands.{IsPipe, IsServe, IsCheck, IsJudge, IsNoCommand}
use Rattle.command_line.specs.declared.serve.ServeOptions.{ServeOptions}
use Rattle.monkey_server.specs.Program.{Piped, Does}
use Rattle.program_laws.specs.Checking.{HasPrinted}

-- the host handed an object out by this call, in this run, and had it back so
pub record Lent (before after : Hosted) (call : HostCall) (object : Returned) : Type 0 where
  pub early : List HostCall
  pub late : List HostCall
  pub calls : after.calls ≡ before.calls ++ (early ++ call ∷ late)
  pub early_back : List Returned
  pub late_back : List Returned
  pub back : after.back ≡ before.back ++ (early_back ++ object ∷ late_back)

-- a read of the standard link, or of a file, was counted as failed
pub data ReadFailed (before after : Hosted) : Type 0 where
  link_read : (given back : Sight) → Lent before after (standard_link_called (Some given)) (link_returned back) → Rose given.read_faults back.read_faults
      → ReadFailed before after
  file_read : (path : List ℕ) (given back : Sight) → Lent before after (open_file_called path (Some given)) (file_returned back)
      → Rose given.read_faults back.read_faults → ReadFailed before after

-- a write to the standard link, to the file of a log, or to the output was counted as failed
pub data WriteFailed (before after : Hosted) : Type 0 where
  link_write : (given back : Sight) → Lent before after (standard_link_called (Some given)) (link_returned back) → Rose given.write_faults back.write_faults
      → WriteFailed before after
  log_write : (path : List ℕ) (given back : Sight) → Lent before after (make_file_called path (Some given)) (new_file_returned back)
      → Rose given.write_faults back.write_faults → WriteFailed before after
  out_write : (old new : Sight) → before.out ≡ Some old → after.out ≡ Some new → Rose old.write_faults new.write_faults → WriteFailed before after

-- a call of the host or of the network was counted as failed, or a door counted that it accepted no further link
pub data CallFailed (network left : Networked) (before after : Hosted) : Type 0 where
  no_link : Rose before.faults.link after.faults.link → CallFailed network left before after
  no_file : Rose before.faults.open_file after.faults.open_file → CallFailed network left before after
  no_new_file : Rose before.faults.make_file after.faults.make_file → CallFailed network left before after
  no_network : Rose network.faults left.faults → CallFailed network left before after
  no_accept : (doors : List Passage) (door : Passage) → left.back ≡ network.back ++ doors ∷ [] → Contains doors door → 0 < door.faults
      → CallFailed network left before after

-- an end for which the client is to blame
abbrev pub IsClientsFault : End → Type 0
IsClientsFault ends.Cut = Unit {0}
IsClientsFault (ends.Protocol fault) = Unit {0}
IsClientsFault (ends.Refused state) = Unit {0}
IsClientsFault ends.Spent = Unit {0}
IsClientsFault _ = ⊥

-- What came in is to blame: the session of `pipe` ended by its client's fault; or the line of a breach or of a fault of a text was printed, or what a
-- judge says of a history that meets no level; or a setup was asked for.
pub data InputFailed (args : List (List ℕ)) (before : Hosted) (code : ℕ) (after : Hosted) : Type 0 where
  bad_session : (level : Level) (words : List ℕ) → IsPipe args level words → (p : Piped level words before code after) → IsClientsFault p.outcome.end
      → InputFailed args before code after
  bad_text : (path bytes line : List ℕ) (wide : Bool) → IsCheck args path wide → IsVerdict bytes line 1 → HasPrinted line before after
      → InputFailed args before code after
  bad_history : (path bytes lines : List ℕ) → IsJudge args path → IsJudgeVerdict bytes lines 1 → HasPrinted lines before after → InputFailed args before code after
  with_setup : (options : ServeOptions) (path : List ℕ) → IsServe args options → options.setup ≡ Some path → InputFailed args before code after

-- The status is at most 6. It is 1 only where what came in is to blame, 2 only for words that are no command, 3 and 4 only where a read or a write
-- was counted as failed, and 6 only where a call of the host or the network was, or a door counted a failed accept.
pub record HasItsCause (args : List (List ℕ)) (network : Networked) (before : Hosted) (code : ℕ) (left : Networked) (after : Hosted) : Type 0 where
  pub one : code ≡ 1 → InputFailed args before code after
  pub two : code ≡ 2 → IsNoCommand args
  pub three : code ≡ 3 → ReadFailed before after
  pub four : code ≡ 4 → WriteFailed before after
  pub six : code ≡ 6 → CallFailed network left before after
  pub most : code ≤ 6

-- so it is of each run of the program
abbrev pub StatusesHaveCauses : Type 0
StatusesHaveCauses =
    (args : List (List ℕ)) (network : Networked) (before : Hosted) (code : ℕ) (left : Networked) (after : Hosted)
    → Does args network before code left after → HasItsCause args network before code left after
