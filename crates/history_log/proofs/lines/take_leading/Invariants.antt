use Rattle.std.proofs.Common.{◌≡◌, ◌≤◌, ◌++◌, length}
use Rattle.history_log.specs.declared.draft.Place.TheVariants.{Body}
use Rattle.history_log.specs.Cut.{cut_at}
use Rattle.history_log.specs.Draft.{HasInitial, said}
use Rattle.history_log.specs.Leading.{IsReadTo}
use Rattle.history_log.proofs.lines.take_leading.Given as goal

abbrev pub invariant-loop-event : goal.invariant-loop-event
invariant-loop-event l = record {
  read : IsReadTo (said l.fn.draft ++ cut_at 10 l.text) l.draft l.last l.rest;
  place : l.draft.place ≡ Body;
  initial : HasInitial l.draft.version l.draft.trace.initial;
  shorter : length l.rest ≤ length l.text;
}

abbrev pub decreases-loop-event : goal.decreases-loop-event
decreases-loop-event l = length l.rest
