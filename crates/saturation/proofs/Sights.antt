-- What the record of a transaction shows of its reads, and the reads themselves.
use Rattle.std.proofs.Common.{◌≡◌, ℕ, ◌+◌, ◌<◌, List, Some, length, arith, refl, ap, sym, subst, inl, inr}
use Rattle.std.specs.List.{Contains, Any}
use Rattle.std.proofs.lemmas.Option.{slice_get_within}
use Rattle.cell_base.specs.declared.value.Value.{Value}
use Rattle.cell_base.specs.declared.cell.Cell.{Cell}
use Rattle.cell_base.specs.declared.cell.Cell.TheVariants.{Presence, Field}
use Rattle.history_core.specs.declared.event.Event.{Event}
use Rattle.history_core.specs.declared.event.Event.TheVariants.{Open, Close, Define, Look, Begin, Scan, Read, Own, Write, Commit, Rollback, Show}
use Rattle.history_core.specs.declared.txn.Seen.{Seen}
use Rattle.history_core.specs.declared.txn.Seen.TheVariants.{Read as SeenRead, Scan as SeenScan}
use Rattle.history_core.specs.declared.txn.Txn.{Txn}
use Rattle.history_core.specs.declared.txn.TxnState.TheVariants.{Committed}
use Rattle.history_core.specs.Transactions.{IsOf, IsCommitted}
use Rattle.history_core.specs.Relations.{HasWritten, LastWrites, Writes, Gives, ReadsFrom, ReadsBefore}
use Rattle.history_core.specs.Records.{seen_of, IsRecordOf}
use Rattle.history_core.proofs.Greatest.{greatest}
use Rattle.saturation.specs.Views.{number_of, source_of, Shows, ShowsOneOf, IsReadFrom, IsRival}

pub any_from_contains : {X : Type 0} (P : X → Type 0) (xs : List X) (x : X) → Contains xs x → P x → Any P xs
any_from_contains P xs x (k, within, is) holds = (k, x, within, is, holds)

-- ---- one event and what it shows

pub gives_from_seen : (event : Event) (n : ℕ) (seen : Seen) (cell : Cell) → seen_of n event ≡ Some seen → Shows seen cell → Gives event cell (source_of seen)
gives_from_seen (Read s x w c u v) n seen cell shown shows =
    let both : Some (SeenRead n x w) ≡ Some seen = shown in
    let is : seen ≡ SeenRead n x w = cc in
    (subst (λ (y : Seen). Shows y cell) is shows, ap source_of (sym is))
gives_from_seen (Scan s table keys) n seen (Presence t key) shown shows =
    let both : Some (SeenScan n table keys) ≡ Some seen = shown in
    let is : seen ≡ SeenScan n table keys = cc in
    let here : Shows (SeenScan n table keys) (Presence t key) = subst (λ (y : Seen). Shows y (Presence t key)) is shows in
    (here.0, here.1, ap source_of is)
gives_from_seen (Scan s table keys) n seen (Field t key c) shown shows =
    let both : Some (SeenScan n table keys) ≡ Some seen = shown in
    let is : seen ≡ SeenScan n table keys = cc in
    absurd (subst (λ (y : Seen). Shows y (Field t key c)) is shows)
gives_from_seen (Open s) n seen cell shown shows = cc
gives_from_seen (Close s) n seen cell shown shows = cc
gives_from_seen (Define s name) n seen cell shown shows = cc
gives_from_seen (Look s count) n seen cell shown shows = cc
gives_from_seen (Begin s level) n seen cell shown shows = cc
gives_from_seen (Own s x v) n seen cell shown shows = cc
gives_from_seen (Write s x v) n seen cell shown shows = cc
gives_from_seen (Commit s) n seen cell shown shows = cc
gives_from_seen (Rollback s) n seen cell shown shows = cc
gives_from_seen (Show s number) n seen cell shown shows = cc

-- what the event with the number shows of a cell that it gives from the source
pub record IsSightOf (event : Event) (n : ℕ) (cell : Cell) (source : ℕ) (seen : Seen) : Type 0 where
  pub shown : seen_of n event ≡ Some seen
  pub shows : Shows seen cell
  pub source_is : source ≡ source_of seen
  pub number_is : number_of seen ≡ n
  pub from : 0 < source → IsReadFrom seen source

pub seen_from_gives : (event : Event) (n : ℕ) (cell : Cell) (source : ℕ) → Gives event cell source → (seen : Seen) × IsSightOf event n cell source seen
seen_from_gives (Read s x w c u v) n cell source gives = (
  SeenRead n x w,
  record { shown = refl; shows = gives.0; source_is = sym gives.1; number_is = refl; from = λ positive. gives.1 },
)
seen_from_gives (Scan s table keys) n (Presence t key) source gives = (
  SeenScan n table keys,
  record {
    shown = refl;
    shows = (gives.0, gives.1);
    source_is = gives.2;
    number_is = refl;
    from = λ positive. let h = gives.2 in absurd (omega arith);
  },
)
seen_from_gives (Scan s table keys) n (Field t key c) source gives = absurd gives
seen_from_gives (Open s) n cell source gives = absurd gives
seen_from_gives (Close s) n cell source gives = absurd gives
seen_from_gives (Define s name) n cell source gives = absurd gives
seen_from_gives (Look s count) n cell source gives = absurd gives
seen_from_gives (Begin s level) n cell source gives = absurd gives
seen_from_gives (Own s x v) n cell source gives = absurd gives
seen_from_gives (Write s x v) n cell source gives = absurd gives
seen_from_gives (Commit s) n cell source gives = absurd gives
seen_from_gives (Rollback s) n cell source gives = absurd gives
seen_from_gives (Show s number) n cell source gives = absurd gives

-- a read of a cell from the transaction
pub gives_from_read : (event : Event) (n : ℕ) (seen : Seen) (source : ℕ) → seen_of n event ≡ Some seen → IsReadFrom seen source → (cell : Cell) × Gives event cell source
gives_from_read (Read s x w c u v) n seen source shown from =
    let both : Some (SeenRead n x w) ≡ Some seen = shown in
    let is : seen ≡ SeenRead n x w = cc in
    (x, (refl, subst (λ (y : Seen). IsReadFrom y source) is from))
gives_from_read (Scan s table keys) n seen source shown from =
    let both : Some (SeenScan n table keys) ≡ Some seen = shown in
    let is : seen ≡ SeenScan n table keys = cc in
    absurd (subst (λ (y : Seen). IsReadFrom y source) is from)
gives_from_read (Open s) n seen source shown from = cc
gives_from_read (Close s) n seen source shown from = cc
gives_from_read (Define s name) n seen source shown from = cc
gives_from_read (Look s count) n seen source shown from = cc
gives_from_read (Begin s level) n seen source shown from = cc
gives_from_read (Own s x v) n seen source shown from = cc
gives_from_read (Write s x v) n seen source shown from = cc
gives_from_read (Commit s) n seen source shown from = cc
gives_from_read (Rollback s) n seen source shown from = cc
gives_from_read (Show s number) n seen source shown from = cc

pub seen_number : (event : Event) (n : ℕ) (seen : Seen) → seen_of n event ≡ Some seen → number_of seen ≡ n
seen_number (Read s x w c u v) n seen shown =
    let both : Some (SeenRead n x w) ≡ Some seen = shown in
    let is : SeenRead n x w ≡ seen = cc in
    sym (ap number_of is)
seen_number (Scan s table keys) n seen shown =
    let both : Some (SeenScan n table keys) ≡ Some seen = shown in
    let is : SeenScan n table keys ≡ seen = cc in
    sym (ap number_of is)
seen_number (Open s) n seen shown = cc
seen_number (Close s) n seen shown = cc
seen_number (Define s name) n seen shown = cc
seen_number (Look s count) n seen shown = cc
seen_number (Begin s level) n seen shown = cc
seen_number (Own s x v) n seen shown = cc
seen_number (Write s x v) n seen shown = cc
seen_number (Commit s) n seen shown = cc
seen_number (Rollback s) n seen shown = cc
seen_number (Show s number) n seen shown = cc

-- ---- the record of a transaction

pub reads_from_record :
    (events : List Event) (k source : ℕ) (txn : Txn) → IsRecordOf events k txn → Any (λ s. IsReadFrom s source) txn.seen → ReadsFrom events source k
reads_from_record events k source txn is (i, seen, within, at, from) =
    let saw = (is.seen seen).0 (i, within, at) in
    let some = gives_from_read saw.event (saw.place + 1) seen source saw.shows from in
    record { place = saw.place; cell = some.0; reads = record { event = saw.event; of_reader = saw.of; gives = some.1 } }

pub record_reads_from :
    (events : List Event) (k source : ℕ) (txn : Txn) → 0 < source → IsRecordOf events k txn → ReadsFrom events source k → Any (λ s. IsReadFrom s source) txn.seen
record_reads_from events k source txn positive is from =
    let some = seen_from_gives from.reads.event (from.place + 1) from.cell source from.reads.gives in
    let member : Contains txn.seen some.0 =
    (is.seen some.0).1 record { place = from.place; event = from.reads.event; of = from.reads.of_reader; shows = some.1.shown } in
    any_from_contains (λ s. IsReadFrom s source) txn.seen some.0 member (some.1.from positive)

-- the earlier reads, by the numbers of their events
pub before_from_record :
    (events : List Event) (k p source : ℕ) (txn : Txn) → IsRecordOf events k txn → Any (λ s. (number_of s < p + 1) × IsReadFrom s source) txn.seen →
    ReadsBefore events k p source
before_from_record events k p source txn is (i, seen, within, at, earlier) =
    let saw = (is.seen seen).0 (i, within, at) in
    let some = gives_from_read saw.event (saw.place + 1) seen source saw.shows earlier.1 in
    let number : number_of seen ≡ saw.place + 1 = seen_number saw.event (saw.place + 1) seen saw.shows in
    let h = earlier.0 in
    record { earlier = saw.place; cell = some.0; below = omega arith; reads = record { event = saw.event; of_reader = saw.of; gives = some.1 } }

pub record_before :
    (events : List Event) (k p source : ℕ) (txn : Txn) → 0 < source → IsRecordOf events k txn → ReadsBefore events k p source →
    Any (λ s. (number_of s < p + 1) × IsReadFrom s source) txn.seen
record_before events k p source txn positive is before =
    let some = seen_from_gives before.reads.event (before.earlier + 1) before.cell source before.reads.gives in
    let member : Contains txn.seen some.0 =
    (is.seen some.0).1 record { place = before.earlier; event = before.reads.event; of = before.reads.of_reader; shows = some.1.shown } in
    let number = some.1.number_is in
    let h = before.below in
    let less : number_of some.0 < p + 1 = omega arith in
    any_from_contains (λ s. (number_of s < p + 1) × IsReadFrom s source) txn.seen some.0 member (less, some.1.from positive)

-- ---- what a transaction wrote

-- what was written has a last value
pub none_written : (events : List Event) (k : ℕ) (x : Cell) → ((v : Value) → LastWrites events k x v → ⊥) → HasWritten events k x → ⊥
none_written events k x none written =
    greatest (λ p. (s : ℕ) × ((v : Value) × IsOf events k p (Write s x v))) (λ p. p) (length events)
    (λ p is. slice_get_within events p (Write is.0 x is.1.0) is.1.1.is)
    written.place (written.session, (written.value, written.write))
    (λ p is last. none is.1.0 record {
      place = p;
      session = is.0;
      write = is.1.1;
      last = λ q s v of. last q (s, (v, of));
    })

-- the buffer of a record holds what was written
pub written_from_record : (events : List Event) (k : ℕ) (txn : Txn) (x : Cell) (v : Value) → IsRecordOf events k txn → Contains txn.buffer.writes (x, v) → HasWritten events k x
written_from_record events k txn x v is member =
    let last = (is.writes x v).0 member in
    record { place = last.place; session = last.session; value = v; write = last.write }

pub none_from_record :
    (events : List Event) (k : ℕ) (txn : Txn) (x : Cell) → IsRecordOf events k txn → ((v : Value) → Contains txn.buffer.writes (x, v) → ⊥) → HasWritten events k x → ⊥
none_from_record events k txn x is none = none_written events k x (λ v last. none v ((is.writes x v).1 last))

-- a writer but the initial transaction has committed, and wrote the cell
pub writes_later : (events : List Event) (k : ℕ) (x : Cell) → 0 < k → Writes events k x → IsCommitted events k × HasWritten events k x
writes_later events k x positive (inl initial) = absurd (omega arith)
writes_later events k x positive (inr own) = own

pub rival_from_record :
    (events : List Event) (k : ℕ) (txn : Txn) (seen : Seen) → IsRecordOf events k txn → txn.state ≡ Committed → (k ≡ source_of seen → ⊥) →
    ShowsOneOf seen txn.buffer.writes → IsRival events seen k
rival_from_record events k txn seen is state other (i, entry, within, at, shows) = record {
  cell = entry.0;
  shows = shows;
  other = other;
  writes = inr (is.committed.0 state, written_from_record events k txn entry.0 entry.1 is (i, within, at));
}

-- a rival of a read is committed, another than its source, and its buffer holds a cell of the read
pub no_rival :
    (events : List Event) (k : ℕ) (txn : Txn) (seen : Seen) → 0 < k → IsRecordOf events k txn → (ShowsOneOf seen txn.buffer.writes → ⊥) → IsRival events seen k → ⊥
no_rival events k txn seen positive is none rival =
    none_from_record events k txn rival.cell is
    (λ v member. none (any_from_contains (λ entry. Shows seen entry.0) txn.buffer.writes (rival.cell, v) member rival.shows))
    (writes_later events k rival.cell positive rival.writes).1
