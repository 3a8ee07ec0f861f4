-- The calls of a session that add no load to the history: those that were refused, and those that ended a transaction or the session.
use Rattle.std.specs.Prelude.{◌≡◌, ◌≢◌, ◌≤◌, ◌+◌, ◌*◌, ℕ, suc, List, [], ◌∷◌, length}
use Rattle.cell_base.specs.declared.level.Level.{Level}
use Rattle.block_machine.specs.Script.{Entry, did, refused, Said, Next, astray}
use Rattle.block_machine.specs.declared.call.Answer.TheVariants.{Committed, RolledBack, Closed}
use Rattle.block_machine.specs.declared.message.Message.{Message}
use Rattle.block_machine.specs.declared.message.Message.TheVariants as messages
use Rattle.session_core.specs.Requests.{Request, query, Requests, asks, partial, faulty, unread}
use Rattle.session_core.specs.Told.{told}

-- one more for an entry of such a call
abbrev pub with_free : Entry → ℕ → ℕ
with_free (refused why) n = suc n
with_free (did Committed e) n = suc n
with_free (did RolledBack e) n = suc n
with_free (did Closed e) n = suc n
with_free _ n = n

-- how many there are
abbrev pub free_in : List Entry → ℕ
free_in [] = 0
free_in (entry ∷ entries) = with_free entry (free_in entries)

-- how many statements a query has
abbrev pub statements_in : Message → ℕ
statements_in (messages.Statements list) = length list
statements_in (messages.Unread code) = 0

abbrev pub most_for : Request → ℕ
most_for (query message) = 3 + 2 * statements_in message
most_for _ = 3

-- how many there are at most, by what the client says
abbrev pub most_free : Requests → ℕ
most_free (asks asked requests) = most_for asked + most_free requests
most_free (partial rest) = 2
most_free (faulty fault) = 2
most_free unread = 2

abbrev pub FreeCallsAreFew : Type 0
FreeCallsAreFew =
    (level : Level) (requests : Requests) (entries : List Entry) (said : Said) (next : Next)
    → told level requests entries ≡ (said, next) → next ≢ astray → free_in entries ≤ most_free requests
