-- What a single event says, and the counts and the load of a list of events.
use Rattle.std.specs.Prelude.{◌+◌, ◌/◌, ℕ, Bool, true, false, Option, Some, None, List, length, count_by, sum_by}
use Rattle.std.specs.List.{filter_map}
use Rattle.cell_base.specs.declared.cell.Cell.{Cell}
use Rattle.cell_base.specs.declared.cell.Cell.TheVariants.{Presence, Field}
use Rattle.cell_base.specs.declared.value.Value.{Value}
use Rattle.cell_base.specs.declared.value.Value.TheVariants.{Text as ValueText}
use Rattle.cell_base.specs.declared.key.Key.{Key}
use Rattle.cell_base.specs.declared.key.Key.TheVariants.{Int, Text}
use Rattle.history_core.specs.declared.event.Event.{Event}
use Rattle.history_core.specs.declared.event.Event.TheVariants.{Open, Close, Define, Look, Begin, Scan, Read, Own, Write, Commit, Rollback, Show}

abbrev pub session_in : Event → ℕ
session_in (Open s) = s
session_in (Close s) = s
session_in (Define s name) = s
session_in (Look s count) = s
session_in (Begin s level) = s
session_in (Scan s table keys) = s
session_in (Read s cell source count word value) = s
session_in (Own s cell value) = s
session_in (Write s cell value) = s
session_in (Commit s) = s
session_in (Rollback s) = s
session_in (Show s number) = s

abbrev pub is_open_event : Event → Bool
is_open_event (Open s) = true
is_open_event _ = false

abbrev pub is_begin : Event → Bool
is_begin (Begin s level) = true
is_begin _ = false

-- the end of a transaction
abbrev pub is_end : Event → Bool
is_end (Commit s) = true
is_end (Rollback s) = true
is_end _ = false

abbrev pub opened : List Event → ℕ
opened events = count_by is_open_event events

abbrev pub begun : List Event → ℕ
begun events = count_by is_begin events

abbrev pub defined_name : Event → Option (List ℕ)
defined_name (Define s name) = Some name
defined_name _ = None

-- the names of the tables, in order of definition
abbrev pub names : List Event → List (List ℕ)
names events = filter_map defined_name events

abbrev pub defined : List Event → ℕ
defined events = length (names events)

abbrev pub key_bytes : Key → ℕ
key_bytes (Int n) = 0
key_bytes (Text bytes) = length bytes

abbrev pub cell_bytes : Cell → ℕ
cell_bytes (Presence table key) = key_bytes key
cell_bytes (Field table key column) = key_bytes key

abbrev pub value_bytes : Value → ℕ
value_bytes (ValueText bytes) = length bytes
value_bytes _ = 0

-- one, each listed key, and each 256 bytes of text
abbrev pub weight_of : Event → ℕ
weight_of (Scan s table keys) = 1 + length keys + sum_by key_bytes keys / 256
weight_of (Read s cell source count word value) = 1 + (cell_bytes cell + value_bytes value) / 256
weight_of (Own s cell value) = 1 + (cell_bytes cell + value_bytes value) / 256
weight_of (Write s cell value) = 1 + (cell_bytes cell + value_bytes value) / 256
weight_of _ = 1

abbrev pub weights_of : List Event → ℕ
weights_of events = sum_by weight_of events

abbrev pub table_of : Cell → ℕ
table_of (Presence table key) = table
table_of (Field table key column) = table
