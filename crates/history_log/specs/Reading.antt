-- What the parts of a reader say: what was read is written so, and what isn't read is nothing's word.
use Rattle.std.specs.Prelude.{◌≡◌, ◌≢◌, map, ℕ, ℤ, ◌<◌, ◌^◌, List, [], ◌∷◌, Option, Some, None, Result, Ok, Err, decimal, FitsSigned}
use Rattle.std.specs.Fmt.{signed_decimal}
use Rattle.std.specs.Int.{w64}
use Rattle.std.specs.List.{AllByRecursion}
use Rattle.std.specs.Str.{IsUtf8}
use Rattle.hex.specs.Hex.{encode_lower, IsBytes}
use Rattle.cell_base.specs.declared.cell.Cell.{Cell}
use Rattle.cell_base.specs.declared.cell.Cell.TheVariants.{Presence, Field}
use Rattle.cell_base.specs.declared.key.Key.{Key}
use Rattle.cell_base.specs.declared.key.Key.TheVariants as keys
use Rattle.cell_base.specs.declared.level.Level.{Level}
use Rattle.cell_base.specs.declared.value.Value.{Value}
use Rattle.cell_base.specs.declared.value.Value.TheVariants as values
use Rattle.history_core.specs.declared.event.Event.{Event}
use Rattle.history_core.specs.declared.event.Event.TheVariants.{Open, Close, Define, Look, Begin, Scan, Read, Own, Write, Commit, Rollback, Show}
use Rattle.history_log.specs.declared.cells.CellKind.{CellKind}
use Rattle.history_log.specs.declared.keyword.Keyword.{Keyword}
use Rattle.history_log.specs.declared.version.Version.{Version}
use Rattle.history_log.specs.declared.version.Version.TheVariants.{One, Two, Three}
use Rattle.history_log.specs.declared.misread.Misread.{Misread}
use Rattle.history_log.specs.declared.misread.Misread.TheVariants.{Form, Memory}
use Rattle.history_log.specs.Spelling.{text_word, key_word, kind_word, cell_parts, cell_word, value_word, level_word, begin_words, keyword_of, fields, event_line, order_line}

abbrev pub IsU32 : ℕ → Type 0
IsU32 n = n < 2 ^ 32

abbrev pub IsI64 : ℤ → Type 0
IsI64 n = FitsSigned w64 n

abbrev pub FitsKey : Key → Type 0
FitsKey (keys.Int n) = IsI64 n
FitsKey (keys.Text bytes) = IsUtf8 bytes

abbrev pub FitsCell : Cell → Type 0
FitsCell (Presence table key) = IsU32 table × FitsKey key
FitsCell (Field table key column) = IsU32 table × FitsKey key × IsU32 column

abbrev pub FitsValue : Value → Type 0
FitsValue values.Unset = Unit {0}
FitsValue values.Null = Unit {0}
FitsValue (values.Flag flag) = Unit {0}
FitsValue (values.Int n) = IsI64 n
FitsValue (values.Wide n) = ⊥
FitsValue (values.Text bytes) = IsUtf8 bytes

-- the word is this number's, and so on
abbrev pub IsNumber : ℕ → List ℕ → Type 0
IsNumber n word = IsU32 n × (word ≡ decimal n)

abbrev pub IsInteger : ℤ → List ℕ → Type 0
IsInteger n word = IsI64 n × (word ≡ signed_decimal n)

abbrev pub IsHex : List ℕ → List ℕ → Type 0
IsHex bytes digits = IsBytes bytes × (digits ≡ encode_lower bytes)

abbrev pub IsText : List ℕ → List ℕ → Type 0
IsText bytes word = IsUtf8 bytes × (word ≡ text_word bytes)

abbrev pub IsKey : Key → List ℕ → Type 0
IsKey key word = FitsKey key × (word ≡ key_word key)

abbrev pub IsCell : Cell → List ℕ → Type 0
IsCell cell word = FitsCell cell × (word ≡ cell_word cell)

abbrev pub IsNamed : Value → Type 0
IsNamed values.Unset = Unit {0}
IsNamed values.Null = Unit {0}
IsNamed (values.Flag flag) = Unit {0}
IsNamed (values.Int n) = ⊥
IsNamed (values.Wide n) = ⊥
IsNamed (values.Text bytes) = ⊥

abbrev pub IsNamedValue : Value → List ℕ → Type 0
IsNamedValue value word = IsNamed value × (word ≡ value_word value)

abbrev pub IsValue : Value → List ℕ → Type 0
IsValue value word = FitsValue value × (word ≡ value_word value)

abbrev pub IsLevel : Level → List ℕ → Type 0
IsLevel level word = word ≡ level_word level

-- what was found is written so; where nothing was found, nothing is written so
abbrev pub Finds : {X A : Type 0} → (X → A → Type 0) → Option X → A → Type 0
Finds P (Some x) written = P x written
Finds {X} P None written = (x : X) → P x written → ⊥

-- the same, out of memory aside
abbrev pub Reads : {X A : Type 0} → (X → A → Type 0) → Result X Misread → A → Type 0
Reads P (Ok x) written = P x written
Reads {X} P (Err Form) written = (x : X) → P x written → ⊥
Reads P (Err Memory) written = Unit {0}

-- one word is taken off the front of a line's words
abbrev pub Takes : {X : Type 0} → (X → List ℕ) → (X → Type 0) → Result X Misread → List (List ℕ) → List (List ℕ) → Type 0
Takes word Fits (Ok x) old new = Fits x × (old ≡ word x ∷ new)
Takes {X} word Fits (Err Form) old new = (x : X) (more : List (List ℕ)) → Fits x → old ≢ word x ∷ more
Takes word Fits (Err Memory) old new = Unit {0}

abbrev pub IsUtf8Text : List ℕ → Type 0
IsUtf8Text bytes = IsUtf8 bytes

abbrev pub IsAnyLevel : Level → Type 0
IsAnyLevel level = Unit {0}

-- nothing is left
abbrev pub IsEnd : Unit {0} → List (List ℕ) → Type 0
IsEnd u words = words ≡ []

-- with the letter of this kind before them, the parts are the cell's
abbrev pub IsCellAfter : CellKind → Cell → List (List ℕ) → Type 0
IsCellAfter kind cell parts = FitsCell cell × (kind_word kind ∷ parts ≡ cell_parts cell)

-- the fields of events

abbrev pub IsSession : ℕ → List (List ℕ) → Type 0
IsSession s words = IsU32 s × (words ≡ decimal s ∷ [])

abbrev pub IsSessionNumber : ℕ × ℕ → List (List ℕ) → Type 0
IsSessionNumber p words = (IsU32 p.0 × IsU32 p.1) × (words ≡ decimal p.0 ∷ decimal p.1 ∷ [])

abbrev pub IsSessionText : ℕ × List ℕ → List (List ℕ) → Type 0
IsSessionText p words = (IsU32 p.0 × IsUtf8 p.1) × (words ≡ decimal p.0 ∷ text_word p.1 ∷ [])

abbrev pub IsSessionLevel : ℕ × Level → List (List ℕ) → Type 0
IsSessionLevel p words = IsU32 p.0 × (words ≡ decimal p.0 ∷ level_word p.1 ∷ [])

abbrev pub IsSessionCellValue : ℕ × Cell × Value → List (List ℕ) → Type 0
IsSessionCellValue p words = (IsU32 p.0 × FitsCell p.1 × FitsValue p.2) × (words ≡ decimal p.0 ∷ cell_word p.1 ∷ value_word p.2 ∷ [])

abbrev pub IsReadFields : ℕ × Cell × ℕ × ℕ × ℕ × Value → List (List ℕ) → Type 0
IsReadFields p words = (IsU32 p.0 × FitsCell p.1 × IsU32 p.2 × IsU32 p.3 × IsU32 p.4 × FitsValue p.5)
    × (words ≡ decimal p.0 ∷ cell_word p.1 ∷ decimal p.2 ∷ decimal p.3 ∷ decimal p.4 ∷ value_word p.5 ∷ [])

abbrev pub IsKeys : List Key → List (List ℕ) → Type 0
IsKeys listed words = AllByRecursion FitsKey listed × (words ≡ map key_word listed)

abbrev pub IsNumbers : List ℕ → List (List ℕ) → Type 0
IsNumbers numbers words = AllByRecursion IsU32 numbers × (words ≡ map decimal numbers)

abbrev pub IsScanFields : ℕ × ℕ × List Key → List (List ℕ) → Type 0
IsScanFields p words = (IsU32 p.0 × IsU32 p.1 × AllByRecursion FitsKey p.2) × (words ≡ decimal p.0 ∷ decimal p.1 ∷ map key_word p.2)

-- version 1 leaves the level of a transaction to the head
abbrev pub IsLevelIn : Version → Level → Level → Type 0
IsLevelIn One head level = level ≡ head
IsLevelIn Two head level = Unit {0}
IsLevelIn Three head level = Unit {0}

abbrev pub IsBeginFields : Version → Level → ℕ × Level → List (List ℕ) → Type 0
IsBeginFields v head p words = (IsU32 p.0 × IsLevelIn v head p.1) × (words ≡ decimal p.0 ∷ begin_words v p.1)

-- the numbers fit their types, the texts are UTF-8, and no value is wide
abbrev pub FitsEvent : Event → Type 0
FitsEvent (Open s) = IsU32 s
FitsEvent (Close s) = IsU32 s
FitsEvent (Define s name) = IsU32 s × IsUtf8 name
FitsEvent (Look s tables) = IsU32 s × IsU32 tables
FitsEvent (Begin s level) = IsU32 s
FitsEvent (Scan s table keys) = IsU32 s × IsU32 table × AllByRecursion FitsKey keys
FitsEvent (Read s cell source count word value) = IsU32 s × FitsCell cell × IsU32 source × IsU32 count × IsU32 word × FitsValue value
FitsEvent (Own s cell value) = IsU32 s × FitsCell cell × FitsValue value
FitsEvent (Write s cell value) = IsU32 s × FitsCell cell × FitsValue value
FitsEvent (Commit s) = IsU32 s
FitsEvent (Rollback s) = IsU32 s
FitsEvent (Show s number) = IsU32 s × IsU32 number

-- the level of an event's transaction is one that this version can say
abbrev pub IsEventIn : Version → Level → Event → Type 0
IsEventIn v head (Begin s level) = IsLevelIn v head level
IsEventIn v head _ = Unit {0}

-- after this keyword, the words are the event's
abbrev pub IsEventAfter : Version → Level → Keyword → Event → List (List ℕ) → Type 0
IsEventAfter v head keyword event words = FitsEvent event × IsEventIn v head event × (keyword_of event ≡ keyword) × (words ≡ fields v event)

-- the line is the event's, without its line feed
abbrev pub IsEventLine : Version → Level → Event → List ℕ → Type 0
IsEventLine v head event text = FitsEvent event × IsEventIn v head event × (text ≡ event_line v event)

-- the line is the order's, without its line feed
abbrev pub IsOrderLine : List ℕ → List ℕ → Type 0
IsOrderLine order text = AllByRecursion IsU32 order × (text ≡ order_line order)
