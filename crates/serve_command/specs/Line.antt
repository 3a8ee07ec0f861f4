-- The line that a server prints at its end.
use Rattle.std.specs.Prelude.{ℕ, List, [], ◌∷◌, ◌++◌, codes, decimal, length}
use Rattle.history_core.specs.declared.event.Event.{Event}
use Rattle.history_core.specs.Events.{opened, begun}

-- how many sessions, transactions and events there were, and a line feed
abbrev pub served_line : List Event → List ℕ
served_line events =
    codes "served " ++ (decimal (opened events) ++ (codes " sessions " ++ (decimal (begun events) ++ (codes " transactions "
    ++ (decimal (length events) ++ (codes " events" ++ 10 ∷ []))))))
