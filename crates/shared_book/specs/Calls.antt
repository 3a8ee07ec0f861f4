-- What each call of a book does, clause by clause as the trait says it: of the past before, the answer and the past after. A touch also of
-- the words before and after.
use Rattle.std.specs.Prelude.{◌≡◌, ◌≢◌, ℕ, List, [], ◌∷◌, ◌++◌, length, Some, Result, Err, IfOk, OnOk, OnErr, Contains}
use Rattle.cell_base.specs.declared.cell.Cell.{Cell}
use Rattle.cell_base.specs.declared.key.Key.{Key}
use Rattle.cell_base.specs.declared.level.Level.{Level}
use Rattle.cell_base.specs.declared.value.Value.{Value}
use Rattle.sql_tree.specs.declared.table.Table.{Table}
use Rattle.history_core.specs.declared.event.Event.TheVariants as events
use Rattle.history_core.specs.declared.fault.BookFault.{BookFault}
use Rattle.history_core.specs.declared.fault.BookFault.TheVariants.{Full}
use Rattle.history_core.specs.declared.fault.DefineAnswer.{DefineAnswer}
use Rattle.history_core.specs.declared.fault.Limit.{Limit}
use Rattle.history_core.specs.declared.fault.Limit.TheVariants as limits
use Rattle.history_core.specs.Events.{begun, names}
use Rattle.history_core.specs.Legal.{IsKeyList, full_for, full_load}
use Rattle.history_book.specs.Book.{Past, no_session, in_session, pending, session_of, writes_of, GoesOn, Adds, AnswersTables, AnswersDefine, AnswersTouch}

-- the call was refused as full only where the history has reached its load
abbrev pub IsFullByLoad : {A : Type 0} → Result A BookFault → Past → Type 0
IsFullByLoad result new = (limit : Limit) → result ≡ Err (Full limit) → full_load new.seen.initial new.seen.events ≡ Some limit

pub record Opens (old : Past) (result : Result ℕ BookFault) (new : Past) : Type 0 where
  pub ok : IfOk result (λ s. Adds old (events.Open s) new)
  pub state : IfOk result (λ s. new.state ≡ in_session s)
  pub err : OnErr result (GoesOn old new)
  pub full : (limit : Limit) → result ≡ Err (Full limit) → full_for new.seen.initial new.seen.events (events.Open 0) ≡ Some limit

pub record Closes (old new : Past) : Type 0 where
  pub adds : Adds old (events.Close (session_of old.state)) new
  pub state : new.state ≡ no_session

pub record Looks (known : ℕ) (old : Past) (result : Result (List Table) BookFault) (new : Past) : Type 0 where
  pub ok : IfOk result (λ tables. AnswersTables old known tables new)
  pub state : new.state ≡ old.state
  pub err : OnErr result (GoesOn old new)
  pub full : IsFullByLoad result new

pub record Defines (table : Table) (old : Past) (result : Result DefineAnswer BookFault) (new : Past) : Type 0 where
  pub ok : IfOk result (λ answer. AnswersDefine old table answer new)
  pub state : new.state ≡ old.state
  pub err : OnErr result (GoesOn old new)
  pub full : (limit : Limit) → result ≡ Err (Full limit) → full_for new.seen.initial new.seen.events (events.Define 0 table.name) ≡ Some limit
  pub load_first : (limit : Limit) → limit ≢ limits.Load → result ≡ Err (Full limit) → ¬ (Contains (names new.seen.events) table.name)

pub record Begins (level : Level) (old : Past) (result : Result ℕ BookFault) (new : Past) : Type 0 where
  pub ok : IfOk result (λ n. Adds old (events.Begin (session_of old.state) level) new)
  pub number : IfOk result (λ n. n ≡ begun new.seen.events)
  pub state : OnOk result (new.state ≡ pending (session_of old.state) [])
  pub err : OnErr result (GoesOn old new)
  pub full : (limit : Limit) → result ≡ Err (Full limit) → full_for new.seen.initial new.seen.events (events.Begin 0 level) ≡ Some limit

pub record Scans (table : ℕ) (old : Past) (result : Result (List Key) BookFault) (new : Past) : Type 0 where
  pub ok : IfOk result (λ keys. Adds old (events.Scan (session_of old.state) table keys) new)
  pub listed : IfOk result IsKeyList
  pub state : new.state ≡ old.state
  pub err : OnErr result (GoesOn old new)
  pub full : IsFullByLoad result new

pub record Touches {W : Type 0} (gives : W → ℕ → W → Type 0) (cell : Cell) (old : Past) (before : W) (result : Result Value BookFault) (new : Past)
    (after : W) : Type 0 where
  pub answers : AnswersTouch gives old before cell result new after
  pub state : new.state ≡ old.state
  pub err : OnErr result (GoesOn old new)
  pub full : IsFullByLoad result new

pub record Writes (cell : Cell) (value : Value) (old : Past) (result : Result (Unit {0}) BookFault) (new : Past) : Type 0 where
  pub ok : OnOk result (Adds old (events.Write (session_of old.state) cell value) new)
  pub state : OnOk result (new.state ≡ pending (session_of old.state) (writes_of old.state ++ (cell, value) ∷ []))
  pub err : OnErr result (GoesOn old new)
  pub full : IsFullByLoad result new

pub record Commits (old new : Past) : Type 0 where
  pub adds : Adds old (events.Commit (session_of old.state)) new
  pub state : new.state ≡ in_session (session_of old.state)

pub record RollsBack (old new : Past) : Type 0 where
  pub adds : Adds old (events.Rollback (session_of old.state)) new
  pub state : new.state ≡ in_session (session_of old.state)

pub record Shows (old : Past) (result : Result ℕ BookFault) (new : Past) : Type 0 where
  pub ok : IfOk result (λ number. Adds old (events.Show (session_of old.state) number) new)
  pub number : IfOk result (λ number. number ≡ length new.seen.events)
  pub state : new.state ≡ old.state
  pub err : OnErr result (GoesOn old new)
  pub full : IsFullByLoad result new
