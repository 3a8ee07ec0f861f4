-- How the text of a history is written: its words, its lines, and the whole of it.
use Rattle.std.specs.Prelude.{ℕ, List, [], ◌∷◌, ◌++◌, map, codes, decimal, true, false}
use Rattle.std.specs.Fmt.{signed_decimal}
use Rattle.std.specs.List.{join_with_byte}
use Rattle.hex.specs.Hex.{encode_lower}
use Rattle.cell_base.specs.declared.cell.Cell.{Cell}
use Rattle.cell_base.specs.declared.cell.Cell.TheVariants.{Presence, Field}
use Rattle.cell_base.specs.declared.key.Key.{Key}
use Rattle.cell_base.specs.declared.key.Key.TheVariants as keys
use Rattle.cell_base.specs.declared.level.Level.{Level}
use Rattle.cell_base.specs.declared.level.Level.TheVariants.{Rc, Ra, Cc}
use Rattle.cell_base.specs.declared.value.Value.{Value}
use Rattle.cell_base.specs.declared.value.Value.TheVariants as values
use Rattle.history_core.specs.declared.event.Event.{Event}
use Rattle.history_core.specs.declared.event.Event.TheVariants.{Open, Close, Define, Look, Begin, Scan, Read, Own, Write, Commit, Rollback, Show}
use Rattle.history_log.specs.declared.cells.CellKind.{CellKind}
use Rattle.history_log.specs.declared.cells.CellKind.TheVariants as kinds
use Rattle.history_log.specs.declared.keyword.Keyword.{Keyword}
use Rattle.history_log.specs.declared.keyword.Keyword.TheVariants as keywords
use Rattle.history_log.specs.declared.trace.Trace.{Trace}
use Rattle.history_log.specs.declared.version.Version.{Version}
use Rattle.history_log.specs.declared.version.Version.TheVariants.{One, Two, Three}

-- the letter x, and two lower-case hex digits for each byte
abbrev pub text_word : List ℕ → List ℕ
text_word bytes = 120 ∷ encode_lower bytes

abbrev pub key_word : Key → List ℕ
key_word (keys.Int n) = signed_decimal n
key_word (keys.Text bytes) = text_word bytes

-- the letter of a kind of cells
abbrev pub kind_word : CellKind → List ℕ
kind_word kinds.Presence = codes "p"
kind_word kinds.Field = codes "f"

-- the letter, and the numbers and the key of the cell
abbrev pub cell_parts : Cell → List (List ℕ)
cell_parts (Presence table key) = kind_word kinds.Presence ∷ decimal table ∷ key_word key ∷ []
cell_parts (Field table key column) = kind_word kinds.Field ∷ decimal table ∷ key_word key ∷ decimal column ∷ []

-- with a point between each two
abbrev pub cell_word : Cell → List ℕ
cell_word cell = join_with_byte 46 (cell_parts cell)

-- a wide value, which stands in no cell, has no word
abbrev pub value_word : Value → List ℕ
value_word values.Unset = codes "unset"
value_word values.Null = codes "null"
value_word (values.Flag true) = codes "true"
value_word (values.Flag false) = codes "false"
value_word (values.Int n) = signed_decimal n
value_word (values.Wide n) = []
value_word (values.Text bytes) = text_word bytes

abbrev pub level_word : Level → List ℕ
level_word Rc = codes "rc"
level_word Ra = codes "ra"
level_word Cc = codes "cc"

-- the word that a line begins with
abbrev pub keyword_word : Keyword → List ℕ
keyword_word keywords.Initial = codes "initial"
keyword_word keywords.Open = codes "open"
keyword_word keywords.Close = codes "close"
keyword_word keywords.Define = codes "define"
keyword_word keywords.Look = codes "look"
keyword_word keywords.Begin = codes "begin"
keyword_word keywords.Scan = codes "scan"
keyword_word keywords.Read = codes "read"
keyword_word keywords.Own = codes "own"
keyword_word keywords.Write = codes "write"
keyword_word keywords.Commit = codes "commit"
keyword_word keywords.Rollback = codes "rollback"
keyword_word keywords.Show = codes "show"
keyword_word keywords.Order = codes "order"
keyword_word keywords.End = codes "end"

abbrev pub keyword_of : Event → Keyword
keyword_of (Open s) = keywords.Open
keyword_of (Close s) = keywords.Close
keyword_of (Define s name) = keywords.Define
keyword_of (Look s tables) = keywords.Look
keyword_of (Begin s level) = keywords.Begin
keyword_of (Scan s table keys) = keywords.Scan
keyword_of (Read s cell source count word value) = keywords.Read
keyword_of (Own s cell value) = keywords.Own
keyword_of (Write s cell value) = keywords.Write
keyword_of (Commit s) = keywords.Commit
keyword_of (Rollback s) = keywords.Rollback
keyword_of (Show s number) = keywords.Show

-- the level of a transaction, which version 1 leaves to the head
abbrev pub begin_words : Version → Level → List (List ℕ)
begin_words One level = []
begin_words Two level = level_word level ∷ []
begin_words Three level = level_word level ∷ []

-- what stands after the keyword of an event
abbrev pub fields : Version → Event → List (List ℕ)
fields v (Open s) = decimal s ∷ []
fields v (Close s) = decimal s ∷ []
fields v (Define s name) = decimal s ∷ text_word name ∷ []
fields v (Look s tables) = decimal s ∷ decimal tables ∷ []
fields v (Begin s level) = decimal s ∷ begin_words v level
fields v (Scan s table keys) = decimal s ∷ decimal table ∷ map key_word keys
fields v (Read s cell source count word value) = decimal s ∷ cell_word cell ∷ decimal source ∷ decimal count ∷ decimal word ∷ value_word value ∷ []
fields v (Own s cell value) = decimal s ∷ cell_word cell ∷ value_word value ∷ []
fields v (Write s cell value) = decimal s ∷ cell_word cell ∷ value_word value ∷ []
fields v (Commit s) = decimal s ∷ []
fields v (Rollback s) = decimal s ∷ []
fields v (Show s number) = decimal s ∷ decimal number ∷ []

-- the number of a version
abbrev pub version_word : Version → List ℕ
version_word One = codes "1"
version_word Two = codes "2"
version_word Three = codes "3"

-- the words of a line, with a blank between each two
abbrev pub line : List (List ℕ) → List ℕ
line words = join_with_byte 32 words

-- words, each after a blank
abbrev pub words_after : List (List ℕ) → List ℕ
words_after [] = []
words_after (word ∷ words) = 32 ∷ (word ++ words_after words)

abbrev pub head_line : Version → Level → List ℕ
head_line v level = line (codes "monkey-log" ∷ version_word v ∷ level_word level ∷ [])

abbrev pub initial_line : Cell × Value → List ℕ
initial_line (cell, value) = line (keyword_word keywords.Initial ∷ cell_word cell ∷ value_word value ∷ [])

abbrev pub event_line : Version → Event → List ℕ
event_line v event = line (keyword_word (keyword_of event) ∷ fields v event)

abbrev pub order_line : List ℕ → List ℕ
order_line order = line (keyword_word keywords.Order ∷ map decimal order)

abbrev pub end_line : List ℕ
end_line = codes "end"

-- the lines of a history: the head, each cell of the initial state, each event, the order, and the end
abbrev pub lines : Version → Trace → List (List ℕ)
lines v t = head_line v t.level ∷ (map initial_line t.initial ++ (map (event_line v) t.events ++ (order_line t.order ∷ end_line ∷ [])))

-- each line, and the line feed that ends it
abbrev pub whole_lines : List (List ℕ) → List ℕ
whole_lines [] = []
whole_lines (text ∷ texts) = text ++ 10 ∷ whole_lines texts
