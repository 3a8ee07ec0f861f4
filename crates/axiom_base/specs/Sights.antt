-- Since which event the reads of one transaction see each other one, and the pairs that they demand by that.
use Rattle.std.specs.Prelude.{◌≡◌, ◌<◌, ◌≤◌, ◌+◌, ◌⊎◌, ◌↔◌, ℕ, Option, Some, None, List, Contains, length, slice_index_or}
use Rattle.std.specs.List.Sorted.{IsStrictlyIncreasing}
use Rattle.graph_base.specs.declared.Edge.{Edge}
use Rattle.cell_base.specs.declared.key.Key.{Key}
use Rattle.cell_base.specs.declared.level.Level.{Level}
use Rattle.cell_base.specs.declared.cell.Cell.{Cell}
use Rattle.cell_base.specs.declared.value.Value.{Value}
use Rattle.history_core.specs.declared.event.Event.{Event}
use Rattle.history_core.specs.declared.txn.Seen.{Seen}
use Rattle.history_core.specs.Events.{begun}
use Rattle.history_core.specs.Transactions.{IsPending}
use Rattle.history_core.specs.Relations.{Writes, IsVisibleAt}
use Rattle.history_core.specs.Records.{Saw}
use Rattle.saturation.specs.Laws.{with_read}
use Rattle.saturation.specs.Views.{number_of, source_of, IsUnlisted, IsRival}
use Rattle.axiom_base.specs.Axioms.{ArePairsAscending}

-- the event of the number comes after that one
abbrev pub IsAfter : Option ℕ → ℕ → Type 0
IsAfter None number = ⊥
IsAfter (Some event) number = event < number

-- the read that is the event of the number sees the writer
abbrev pub Sees : List (Option ℕ) → ℕ → ℕ → Type 0
Sees since number writer = IsAfter (slice_index_or since writer None) number

-- at the places below the limit the reads of the reader see just what the level lets them see
pub record IsSightOf (level : Level) (events : List Event) (reader limit : ℕ) (since : List (Option ℕ)) : Type 0 where
  pub size : length since ≡ begun events + 1
  pub exact : (place writer : ℕ) → place < limit → Sees since (place + 1) writer ↔ IsVisibleAt level events reader place writer

-- at all places of the history
abbrev pub IsSight : Level → List Event → ℕ → List (Option ℕ) → Type 0
IsSight level events reader since = (limit : ℕ) → IsSightOf level events reader limit since

-- at all places of the history with a further read of the pending reader, whatever its count, word and value
abbrev pub IsSightWith : Level → List Event → ℕ → Cell → ℕ → List (Option ℕ) → Type 0
IsSightWith level events reader cell source since =
    (session count word : ℕ) (value : Value) → IsPending events reader session →
    IsSightOf level (with_read events session cell source count word value) reader (length events + 1) since

-- just the numbers with the property, ascending
pub record AreAllWith (Is : ℕ → Type 0) (numbers : List ℕ) : Type 0 where
  pub ascending : IsStrictlyIncreasing numbers
  pub exact : (number : ℕ) → Contains numbers number ↔ Is number

-- the committed transaction writes the presence of a key of the table that isn't listed
pub record WritesUnlisted (events : List Event) (table : ℕ) (keys : List Key) (writer : ℕ) : Type 0 where
  pub cell : Cell
  pub unlisted : IsUnlisted table keys cell
  pub writes : Writes events writer cell

-- the read, from the second, sees the first, which writes a cell that it gave
pub record IsDemandedBy (events : List Event) (since : List (Option ℕ)) (seen : Seen) (first second : ℕ) : Type 0 where
  pub second_is : second ≡ source_of seen
  pub sees : Sees since (number_of seen) first
  pub rival : IsRival events seen first

-- one of the reads of the reader demands the pair
pub record IsDemandedOf (events : List Event) (reader : ℕ) (since : List (Option ℕ)) (first second : ℕ) : Type 0 where
  pub seen : Seen
  pub saw : Saw events reader seen
  pub demands : IsDemandedBy events since seen first second

-- the further read forces the pair, where the reads see `before` without it and `after` with it
abbrev pub IsTrialIn : List Event → ℕ → Seen → List (Option ℕ) → List (Option ℕ) → ℕ → ℕ → Type 0
IsTrialIn events reader further before after first second =
    ((first ≡ source_of further) × (second ≡ reader))
    ⊎ ((IsDemandedOf events reader after first second ⊎ IsDemandedBy events after further first second)
    × (¬ IsDemandedOf events reader before first second))

-- a transaction of the history that is the reader, or that one of its reads is from, the further one included
abbrev pub IsTarget : List Event → ℕ → Seen → ℕ → Type 0
IsTarget events reader further number =
    (number ≤ begun events)
    × ((number ≡ reader) ⊎ ((number ≡ source_of further) ⊎ ((seen : Seen) × Saw events reader seen × (number ≡ source_of seen))))

-- just those of the pairs that are done which the relation has, each once, ascending
pub record AreGathered (Is Done : ℕ → ℕ → Type 0) (edges : List Edge) : Type 0 where
  pub ascending : ArePairsAscending edges
  pub sound : (e : Edge) → Contains edges e → Done e.before e.after × Is e.before e.after
  pub whole : (a b : ℕ) → Done a b → Is a b → Contains edges record { before = a; after = b }

-- the pairs whose first number is below the bound
abbrev pub IsFirstBelow : ℕ → ℕ → ℕ → Type 0
IsFirstBelow bound a b = a < bound
