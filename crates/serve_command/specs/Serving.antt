-- What the command `serve` does with its host and its network.
use Rattle.std.specs.Prelude.{◌≡◌, ◌⊎◌, ℕ, List, [], ◌∷◌, length, take, map, All, Option, None, Some, IfSome}
use Rattle.link_traits.specs.declared.host.HostFault.{HostFault}
use Rattle.link_traits.specs.declared.host.HostFault.TheVariants as faults
use Rattle.link_traits.specs.Host.{Hosted}
use Rattle.history_core.specs.declared.event.Event.{Event}
use Rattle.history_core.specs.Chronicle.{Chronicle}
use Rattle.log_file.specs.Logging.{LogsAndPrints}
use Rattle.doors.specs.Passage.{Passage, IsUnused}
use Rattle.doors.specs.Network.{Networked, doors_opened, doors_returned, open_failed}
use Rattle.door_workers.specs.Visits.{events_of_visits}
use Rattle.shared_book.specs.Finish.{Finished}
use Rattle.serve_command.specs.Starting.{StartsBy, Unstarted, status_of_start}
use Rattle.serve_command.specs.Parts.{Part, AreParts, records_of, worst_of}
use Rattle.serve_command.specs.Line.{served_line}
use Rattle.serve_command.specs.declared.start.StartFault.{StartFault}
use Rattle.command_line.specs.declared.serve.ServeOptions.{ServeOptions}

-- the status of a server: a worker's fault stands before what came of the log and of the line
abbrev pub status_of : Option HostFault → ℕ → ℕ
status_of None code = code
status_of (Some faults.Memory) code = 5
status_of (Some faults.Failed) code = 6

-- The doors were opened at the address, one for each worker, and came back.
pub record Opened (options : ServeOptions) (before : Networked) (opened returned : List Passage) (after : Networked) : Type 0 where
  pub number : length opened ≡ options.workers
  pub unused : All IsUnused opened
  pub told : IfSome before.to_open (λ next. opened ≡ take options.workers next)
  pub next : Option (List Passage)
  pub network : after ≡ doors_returned returned (doors_opened options.listen opened next before)

-- The log of the history was written, where one was asked for, or not, for a fault that the status tells, and the line was printed; or memory
-- ran out before, and nothing was.
abbrev pub Ends : ServeOptions → Chronicle → Hosted → ℕ → Hosted → Type 0
Ends options history before code after =
    LogsAndPrints options.log history (served_line history.events) before code after ⊎ ((code ≡ 5) × (after ≡ before))

-- The doors were opened, the workers served the links that came in by them, from this start of the history on, these lists of events came of
-- their passes, the first of which made none, and the doors were given back.
pub record Ran (options : ServeOptions) (start history : Chronicle) (before : Networked) (lists : List (List Event)) (fault : Option HostFault)
    (after : Networked) : Type 0 where
  pub opened : List Passage
  pub returned : List Passage
  pub parts : List Part
  pub doors : Opened options before opened returned after
  pub are_parts : AreParts options.level start history options.seed options.accept 0 opened parts returned
  pub lists_are : lists ≡ [] ∷ map (λ part. events_of_visits part.visits) parts
  pub fault_is : fault ≡ worst_of parts

-- The workers served the links of their doors over one history, which is legal and goes on from the one that the server starts from. What each
-- worker's book saw is a front of this history. The records of the links hold all events that came to it: of each session that has an event in a record, the history has just that record's events, in
-- their order, and no session stands in two records.
pub record Served (options : ServeOptions) (start : Chronicle) (before : Networked) (host_before : Hosted) (code : ℕ) (after : Networked)
    (host_after : Hosted) : Type 0 where
  pub opened : List Passage
  pub returned : List Passage
  pub parts : List Part
  pub history : Chronicle
  pub doors : Opened options before opened returned after
  pub are_parts : AreParts options.level start history options.seed options.accept 0 opened parts returned
  pub one_history : Finished start (records_of parts) history
  pub end_code : ℕ
  pub ends : Ends options history host_before end_code host_after
  pub code_is : code ≡ status_of (worst_of parts) end_code

-- the server didn't start, and opened no door
pub record StoodBack (options : ServeOptions) (before : Networked) (host_before : Hosted) (code : ℕ) (after : Networked) (host_after : Hosted) :
    Type 0 where
  pub fault : StartFault
  pub unstarted : Unstarted options.setup options.level host_before fault host_after
  pub code_is : code ≡ status_of_start fault
  pub network : after ≡ before

-- Given the history that the server starts from: memory ran out before a door was opened; or the network opened none, and counted that; or the
-- links that came in were served.
abbrev pub GoesOn : ServeOptions → Chronicle → Networked → Hosted → ℕ → Networked → Hosted → Type 0
GoesOn options start before host_before code after host_after =
    ((code ≡ 5) × (after ≡ before) × (host_after ≡ host_before))
    ⊎ (((code ≡ 6) × (after ≡ open_failed options.listen options.workers before) × (host_after ≡ host_before))
    ⊎ Served options start before host_before code after host_after)

-- The server had what it starts from, and went on.
pub record Started (options : ServeOptions) (before : Networked) (host_before : Hosted) (code : ℕ) (after : Networked) (host_after : Hosted) :
    Type 0 where
  pub start : Chronicle
  pub between : Hosted
  pub starts : StartsBy options.setup options.level host_before start between
  pub goes_on : GoesOn options start before between code after host_after

-- `serve`: it had nothing to start from, and opened no door; or it started, and went on
abbrev pub Serves : ServeOptions → Networked → Hosted → ℕ → Networked → Hosted → Type 0
Serves options before host_before code after host_after =
    StoodBack options before host_before code after host_after ⊎ Started options before host_before code after host_after
