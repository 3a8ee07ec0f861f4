-- Which sessions and transactions there are.
use Rattle.std.proofs.Common.{◌≡◌, ℕ, ◌+◌, ◌<◌, ◌≤◌, List, true, length, get_or, take, drop, cond, arith, refl, ap, subst}
use Rattle.std.specs.List.{Contains}
use Rattle.std.proofs.lemmas.List.{take-append-drop}
use Rattle.std.proofs.lemmas.List.Elements.{Contains-append_left}
use Rattle.std.proofs.lemmas.List.Sums.{sum_by-take-le, count_by_more_yes}
use Rattle.std.proofs.lemmas.Option.{slice_get_within, get_or_from_slice_get, slice_get_read}
use Rattle.cell_base.specs.declared.cell.Cell.{Cell}
use Rattle.cell_base.specs.declared.value.Value.{Value}
use Rattle.history_core.specs.declared.event.Event.{Event}
use Rattle.history_core.specs.declared.event.Event.TheVariants.{Open, Close, Begin}
use Rattle.history_core.specs.Events.{opened, is_open_event}
use Rattle.history_core.specs.Transactions.{IsPending}
use Rattle.history_core.specs.Legal.{IsFormed}
use Rattle.history_core.proofs.Prefixes.{start_positive}
use Rattle.history_core.specs.declared.kept.SessionRecord.{SessionRecord}
use Rattle.history_core.specs.declared.txn.Txn.{Txn}
use Rattle.history_core.specs.Records.{IsRecordOf}
use Rattle.history_core.specs.Kept.{IsSessionOf, StandsForTxns, StandsForSessions}
use Rattle.txn_buffer.proofs.Lists.{at_contains}

pub Contains-take : {X : Type 0} (xs : List X) (n : ℕ) (x : X) → Contains (take n xs) x → Contains xs x
Contains-take {X} xs n x member =
    subst (λ (ys : List X). Contains ys x) (take-append-drop n xs) (Contains-append_left (take n xs) (drop n xs) x member)

-- the number of an opened session
pub opened_bounds : (initial : List (Cell × Value)) (events : List Event) → IsFormed initial events → (s : ℕ) → Contains events (Open s) → (0 < s) × (s ≤ opened events)
opened_bounds initial events formed s member =
    let found = at_contains events (Open s) member in
    let is : s ≡ opened (take found.0 events) + 1 = (formed found.0 (Open s) found.1).follows in
    let within : found.0 < length events = slice_get_within events found.0 (Open s) found.1 in
    let at : is_open_event (get_or events found.0 (Open s)) ≡ true = ap is_open_event (get_or_from_slice_get events found.0 (Open s) (Open s) found.1) in
    let more : opened (take (found.0 + 1) events) ≡ opened (take found.0 events) + 1 = count_by_more_yes is_open_event events found.0 (Open s) within at in
    let all : opened (take (found.0 + 1) events) ≤ opened events = sum_by-take-le (λ e. cond (is_open_event e) 1 0) events (found.0 + 1) in
    (omega arith, omega arith)

-- a session with a pending transaction was opened
pub pending_opened : (initial : List (Cell × Value)) (events : List Event) → IsFormed initial events → (k s : ℕ) → IsPending events k s → Contains events (Open s)
pending_opened initial events formed k s pending =
    Contains-take events pending.start (Open s) (formed pending.start (Begin s pending.starts.level) pending.starts.is).follows.0.0

pub session_read :
    (events : List Event) (sessions : List SessionRecord) → StandsForSessions events sessions → (i s : ℕ) (r : SessionRecord) →
    i + 1 ≡ s → i < length sessions → r ≡ get_or sessions i r → IsSessionOf events s r
session_read events sessions stands i s r number within is =
    subst (λ (n : ℕ). IsSessionOf events n r) number (stands.each i r (slice_get_read sessions (length sessions) i r refl within is))

pub txn_read :
    (events : List Event) (txns : List Txn) → StandsForTxns events txns → (i n : ℕ) (t : Txn) →
    i + 1 ≡ n → i < length txns → t ≡ get_or txns i t → IsRecordOf events n t
txn_read events txns stands i n t number within is =
    subst (λ (k : ℕ). IsRecordOf events k t) number (stands.each i t (slice_get_read txns (length txns) i t refl within is))

pub pending_positive : (events : List Event) (k s : ℕ) → IsPending events k s → 0 < k
pending_positive events k s pending = start_positive events k s pending.start pending.starts

-- a session that was closed was opened
pub closed_opened : (initial : List (Cell × Value)) (events : List Event) → IsFormed initial events → (s : ℕ) → Contains events (Close s) → Contains events (Open s)
closed_opened initial events formed s member =
    let found = at_contains events (Close s) member in
    Contains-take events found.0 (Open s) (formed found.0 (Close s) found.1).follows.0.0
