-- A text of a history has more bytes than the history has events.
use Rattle.std.proofs.Common.{◌≡◌, ℕ, ◌<◌, ◌≤◌, List, [], ◌∷◌, ◌++◌, length, map, arith, ap}
use Rattle.std.proofs.lemmas.List.{length-append, length-map}
use Rattle.history_log.specs.declared.trace.Trace.{Trace}
use Rattle.history_log.specs.declared.version.Version.{Version}
use Rattle.history_log.specs.Spelling.{initial_line, event_line, order_line, end_line, lines, whole_lines}
use Rattle.history_log.specs.Log.{IsLog}
use Rattle.history_log.specs.Faults.{HasFewBytes}

each_has_a_byte : (texts : List (List ℕ)) → length texts ≤ length (whole_lines texts)
each_has_a_byte [] = omega arith
each_has_a_byte (text ∷ texts) = omega (arith, each_has_a_byte texts, length-append text (10 ∷ whole_lines texts))

event_lines : (v : Version) (t : Trace) → length t.events ≤ length (lines v t)
event_lines v t =
    let events = map (event_line v) t.events in
    let after = order_line t.order ∷ end_line ∷ [] in
    omega (arith, length-map t.events (event_line v), length-append events after, length-append (map initial_line t.initial) (events ++ after))

pub few_events : (v : Version) (t : Trace) (bytes : List ℕ) → IsLog v t bytes → HasFewBytes bytes → length t.events < 4294967296
few_events v t bytes log few =
    let same : length bytes ≡ length (whole_lines (lines v t)) = ap length log.text in
    omega (arith, few, same, each_has_a_byte (lines v t), event_lines v t)
