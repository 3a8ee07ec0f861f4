use Rattle.std.proofs.Common.{◌≡◌, ◌++◌, take, map}
use Rattle.history_log.specs.declared.version.Version.TheVariants.{Two}
use Rattle.std.specs.List.{AllByRecursion}
use Rattle.history_log.specs.Reading.{FitsEvent}
use Rattle.history_log.specs.Spelling.{event_line, whole_lines}
use Rattle.history_log.proofs.printing.put_events.Given as goal

abbrev pub invariant-loop-event : goal.invariant-loop-event
invariant-loop-event l =
    (l.out.items ≡ l.initial.out.items ++ whole_lines (map (event_line Two) (take l.event-index l.events)))
    × AllByRecursion FitsEvent (take l.event-index l.events)
