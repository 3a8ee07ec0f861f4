-- What the commands `pipe` and `serve` answer where no fault is counted.
use Rattle.std.specs.Prelude.{◌≡◌, ◌⊎◌, ◌<◌, ℕ, List, [], ◌∷◌, ◌++◌, Contains, Some}
use Rattle.cell_base.specs.declared.level.Level.{Level}
use Rattle.link_traits.specs.Faults.{Rose}
use Rattle.link_traits.specs.Traffic.{Sight}
use Rattle.link_traits.specs.Host.{Hosted, open_file_called, make_file_called, link_returned, file_returned, new_file_returned}
use Rattle.doors.specs.Passage.{Passage}
use Rattle.doors.specs.Network.{Networked}
use Rattle.block_machine.specs.declared.end.End.{End}
use Rattle.command_line.specs.Commands.{IsPipe, IsServe}
use Rattle.command_line.specs.declared.serve.ServeOptions.{ServeOptions}
use Rattle.monkey_server.specs.Program.{Piped, Does}
use Rattle.serve_command.specs.Serving.{Serves}
use Rattle.session_laws.specs.Streams.{IsWholeStream}
use Rattle.session_laws.specs.Sessions.{IsUndisturbed, IsSentWhole}

-- ---- pipe

-- Over a link that told its bytes and counted no fault, where these are all that a client has to say: all that its session was told was written;
-- the status is 0, and the session ended as it was to, or it is 5.
abbrev pub PipedAreComplete : Type 0
PipedAreComplete =
    (level : Level) (words : List ℕ) (before : Hosted) (code : ℕ) (after : Hosted) (end : End) (bytes : List ℕ)
    → (p : Piped level words before code after) → IsWholeStream end bytes → IsUndisturbed bytes p.given p.returned
    → IsSentWhole p.serves.account p.given p.returned × (((code ≡ 0) × (p.outcome.end ≡ end)) ⊎ (code ≡ 5))

-- The host didn't count that it gave no link. The link that came back, if one did, had told these bytes, and counted no fault.
pub record PipesUndisturbed (bytes : List ℕ) (next : Sight) (before after : Hosted) : Type 0 where
  pub gives : ¬ (Rose before.faults.link after.faults.link)
  pub link : (back : Sight) → after.back ≡ before.back ++ link_returned back ∷ [] → IsUndisturbed bytes next back

-- A run of the program with the words `pipe LEVEL WORDS`, in a host that tells beforehand a link whose bytes are all that a client has to say:
-- where no fault is counted, the status is 0 or 5.
abbrev pub PipesAreComplete : Type 0
PipesAreComplete =
    (args : List (List ℕ)) (level : Level) (words : List ℕ) (network left : Networked) (before : Hosted) (code : ℕ) (after : Hosted) (next : Sight)
    (end : End) (bytes : List ℕ)
    → IsPipe args level words → Does args network before code left after → before.next_link ≡ Some next → IsWholeStream end bytes
    → PipesUndisturbed bytes next before after → (code ≡ 0) ⊎ (code ≡ 5)

-- ---- serve

-- A fault was counted while a server ran, by the network, by one of its doors, by the host, by a file that the host gave, or by its output.
pub data CountsFault (before after : Networked) (host_before host_after : Hosted) : Type 0 where
  -- no doors were opened
  unopened : Rose before.faults after.faults → CountsFault before after host_before host_after
  -- a door accepted no further link
  unaccepted : (doors : List Passage) (door : Passage) → after.back ≡ before.back ++ doors ∷ [] → Contains doors door → 0 < door.faults
      → CountsFault before after host_before host_after
  -- the file of the setup wasn't opened, or wasn't read
  no_setup : Rose host_before.faults.open_file host_after.faults.open_file → CountsFault before after host_before host_after
  unread : (path : List ℕ) (given back : Sight) → Contains host_after.calls (open_file_called path (Some given))
      → Contains host_after.back (file_returned back) → Rose given.read_faults back.read_faults → CountsFault before after host_before host_after
  -- the file of the log wasn't made, or wasn't written
  no_log : Rose host_before.faults.make_file host_after.faults.make_file → CountsFault before after host_before host_after
  unwritten : (path : List ℕ) (given back : Sight) → Contains host_after.calls (make_file_called path (Some given))
      → Contains host_after.back (new_file_returned back) → Rose given.write_faults back.write_faults → CountsFault before after host_before host_after
  -- the line wasn't printed
  unprinted : (old new : Sight) → host_before.out ≡ Some old → host_after.out ≡ Some new → Rose old.write_faults new.write_faults
      → CountsFault before after host_before host_after

-- the setup that was asked for is at fault
abbrev pub BlamesSetup : ServeOptions → ℕ → Type 0
BlamesSetup options code = (path : List ℕ) × (options.setup ≡ Some path) × (code ≡ 1)

-- the status is 0 or 5; or a fault was counted; or the setup is at fault
abbrev pub AnswersWell : ServeOptions → Networked → Hosted → ℕ → Networked → Hosted → Type 0
AnswersWell options before host_before code after host_after =
    ((code ≡ 0) ⊎ (code ≡ 5)) ⊎ (CountsFault before after host_before host_after ⊎ BlamesSetup options code)

-- so `serve` answers
abbrev pub ServersAreComplete : Type 0
ServersAreComplete =
    (options : ServeOptions) (before : Networked) (host_before : Hosted) (code : ℕ) (after : Networked) (host_after : Hosted)
    → Serves options before host_before code after host_after → AnswersWell options before host_before code after host_after

-- and so does the program with the words `serve` and its options
abbrev pub ServeRunsAreComplete : Type 0
ServeRunsAreComplete =
    (args : List (List ℕ)) (options : ServeOptions) (before : Networked) (host_before : Hosted) (code : ℕ) (after : Networked) (host_after : Hosted)
    → IsServe args options → Does args before host_before code after host_after → AnswersWell options before host_before code after host_after
