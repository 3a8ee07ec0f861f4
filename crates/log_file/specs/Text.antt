-- The text of a history with an order.
use Rattle.std.specs.Prelude.{ℕ, List}
use Rattle.history_core.specs.Chronicle.{Chronicle}
use Rattle.history_log.specs.declared.trace.Trace.{Trace}
use Rattle.history_log.specs.Spelling.{lines, whole_lines}
use Rattle.history_log.specs.Log.{newest}

-- the history as a text tells it, with this order
abbrev pub trace_of : Chronicle → List ℕ → Trace
trace_of history order = record { level = history.level; initial = history.initial; events = history.events; order = order }

-- the text of a history, in the version that is printed
abbrev pub text_of : Trace → List ℕ
text_of trace = whole_lines (lines (newest trace.initial) trace)
