-- What the program does in a host.
use Rattle.std.specs.Prelude.{◌≡◌, ℕ, List, [], ◌∷◌, ◌++◌, codes, None, Some, IfSome, Bool, true, false, ◌⊎◌}
use Rattle.cell_base.specs.declared.level.Level.{Level}
use Rattle.link_traits.specs.Traffic.{Sight}
use Rattle.link_traits.specs.Host.{Hosted, standard_link_called, link_returned, call_failed, link_failed}
use Rattle.history_core.specs.Chronicle.{IsLegalChronicle}
use Rattle.history_book.specs.Book.{Past, no_session}
use Rattle.block_machine.specs.declared.end.End.{End}
use Rattle.block_machine.specs.declared.end.End.TheVariants as ends
use Rattle.session_core.specs.declared.served.Served.{Served}
use Rattle.session_core.specs.Record.{events_of}
use Rattle.session_core.specs.Serve.{scene_of, Account, Serves}
use Rattle.choice_stream.specs.Choices.{DrawsFirst}
use Rattle.host_calls.specs.Printing.{Printed}
use Rattle.check_command.specs.Checks.{Checks}
use Rattle.check_command.specs.Judges.{Judges}
use Rattle.sim_command.specs.Simulations.{Simulates}
use Rattle.command_line.specs.Commands.{IsCommandLine}
use Rattle.command_help.specs.Texts.{help_of, version_line}
use Rattle.command_line.specs.declared.reading.CommandLine.{CommandLine}
use Rattle.command_line.specs.declared.reading.CommandLine.TheVariants as lines
use Rattle.doors.specs.Network.{Networked, stop_sent, stop_failed}
use Rattle.serve_command.specs.Serving.{Serves as Serving}

abbrev pub usage_line : List ℕ
usage_line =
    codes "usage: monkeydb pipe LEVEL WORDS | serve [OPTIONS] | check [--wide] PATH | sim LEVEL SEED SESSIONS QUERIES | stop [ADDRESS] | judge PATH" ++ 10 ∷ []

-- the past of a book at a level that has no row at first and no event
abbrev pub no_past : Level → Past
no_past level = record { seen = record { level = level; initial = []; events = []; tables = [] }; own = []; state = no_session }

-- A session was served at a level over a link, from no history to a legal one whose events are the session's alone. Its reads drew these
-- words in order, and then 0.
pub record ServesAlone (level : Level) (words : List ℕ) (before : Sight) (outcome : Served) (after : Sight) : Type 0 where
  pub past : Past
  pub rest : List ℕ
  pub account : Account
  pub serves : Serves DrawsFirst level (scene_of (no_past level) words before) outcome (scene_of past rest after) account
  pub level_is : past.seen.level ≡ level
  pub initial : past.seen.initial ≡ []
  pub legal : IsLegalChronicle past.seen
  pub events : past.seen.events ≡ events_of account.entries
  pub closed : past.state ≡ no_session

-- the status of an end. A lack of memory stands before it.
abbrev pub status_of : End → Bool → ℕ
status_of end true = 5
status_of ends.Terminated false = 0
status_of ends.Closed false = 0
status_of ends.Cancelled false = 0
status_of ends.ReadFault false = 3
status_of ends.WriteFault false = 4
status_of ends.Memory false = 5
status_of _ false = 1

-- memory ran out, and no object of the host went out
abbrev pub Untouched : Hosted → ℕ → Hosted → Type 0
Untouched before code after = (code ≡ 5) × (after ≡ before)

-- The host handed the standard link out, the one that it had told beforehand where it had, and got it back. A session was served over it.
pub record Piped (level : Level) (words : List ℕ) (before : Hosted) (code : ℕ) (after : Hosted) : Type 0 where
  pub given : Sight
  pub returned : Sight
  pub outcome : Served
  pub told : IfSome before.next_link (λ next. given ≡ next)
  pub after_is : after ≡ record before {
    calls = before.calls ++ standard_link_called (Some given) ∷ [];
    back = before.back ++ link_returned returned ∷ [];
    next_link = after.next_link;
  }
  pub serves : ServesAlone level words given outcome returned
  pub code_is : code ≡ status_of outcome.end outcome.short

-- the host gave no link, and counted that
abbrev pub Linkless : Hosted → ℕ → Hosted → Type 0
Linkless before code after = (code ≡ 6) × (after ≡ call_failed (standard_link_called None) (link_failed before.faults) before)

-- `pipe LEVEL WORDS`
abbrev pub Pipes : Level → List ℕ → Hosted → ℕ → Hosted → Type 0
Pipes level words before code after = Piped level words before code after ⊎ (Linkless before code after ⊎ Untouched before code after)

-- `stop ADDRESS`: the network sent the request, or it didn't and counted that, or memory ran out and the request isn't told
abbrev pub Stops : List ℕ → Networked → ℕ → Networked → Type 0
Stops address before code after =
    ((code ≡ 0) × (after ≡ stop_sent address before))
    ⊎ (((code ≡ 6) × (after ≡ stop_failed address before)) ⊎ ((code ≡ 5) × (after ≡ before)))

-- what the program does for a command: only `serve` and `stop` use the network, and `stop` uses nothing else
abbrev pub Obeys : CommandLine → Networked → Hosted → ℕ → Networked → Hosted → Type 0
Obeys (lines.Pipe pipe) network before code network_after after = Pipes pipe.level pipe.words before code after × (network_after ≡ network)
Obeys (lines.Serve options) network before code network_after after = Serving options network before code network_after after
Obeys (lines.Check path wide) network before code network_after after = Checks path before code after × (network_after ≡ network)
Obeys (lines.Judge path) network before code network_after after = Judges path before code after × (network_after ≡ network)
Obeys (lines.Sim plan) network before code network_after after =
    Simulates plan.level plan.seed plan.sessions plan.queries plan.log before code after × (network_after ≡ network)
Obeys (lines.Stop address) network before code network_after after = Stops address network code network_after × (after ≡ before)
Obeys (lines.Help topic) network before code network_after after = Printed (help_of topic) 0 before code after × (network_after ≡ network)
Obeys lines.Version network before code network_after after = Printed version_line 0 before code after × (network_after ≡ network)
Obeys lines.Unknown network before code network_after after = Printed usage_line 2 before code after × (network_after ≡ network)

-- what the program does with these words: it obeys the command that they are, or memory ran out before it could
abbrev pub Does : List (List ℕ) → Networked → Hosted → ℕ → Networked → Hosted → Type 0
Does args network before code network_after after =
    ((line : CommandLine) × IsCommandLine args line × Obeys line network before code network_after after)
    ⊎ (Untouched before code after × (network_after ≡ network))
