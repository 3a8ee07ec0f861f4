-- What the notes of a pass show of a read of a transaction that is pending.
use Rattle.std.proofs.Common.{◌≡◌, ℕ, ◌<◌, ◌≤◌, List, [], Bool, Some, get_or, arith, refl, sym, ◌∙◌, subst, inl, inr, IsTrue}
use Rattle.std.specs.List.{Contains, slice_get}
use Rattle.cell_base.specs.declared.level.Level.{Level}
use Rattle.cell_base.specs.declared.level.Level.TheVariants.{Rc, Ra, Cc}
use Rattle.cell_base.specs.declared.cell.Cell.{Cell}
use Rattle.cell_base.specs.declared.value.Value.{Value}
use Rattle.history_core.specs.declared.event.Event.{Event}
use Rattle.history_core.specs.declared.event.Event.TheVariants.{Open, Close, Define, Look, Begin, Scan, Read, Own, Write, Commit, Rollback, Show}
use Rattle.history_core.specs.Transactions.{IsOf, IsPending}
use Rattle.history_core.specs.Relations.{Writes, Gives, Reads, ReadsBefore, IsSessionOrdered, Precedes, PrecedesCausally, IsVisibleAt, IsVisible}
use Rattle.history_core.proofs.Places.{start_session, runs_unique}
use Rattle.history_core.proofs.Numbers.{pending_positive}
use Rattle.cell_writers.specs.declared.cell_note.CellNote.{CellNote}
use Rattle.order_test.specs.Places.{StandsAt}
use Rattle.order_test.specs.Sights.{IsReadAt}
use Rattle.order_test.proofs.SearchLemmas.{one_reader}
use Rattle.history_check.specs.Notes.{IsNoteOf}
use Rattle.history_check.proofs.Orderly.{orderly_from}
use Rattle.right_logs.specs.declared.open_reads.ReadNote.{ReadNote}
use Rattle.right_logs.specs.declared.txn_notes.TxnNote.{TxnNote}
use Rattle.right_logs.specs.declared.pass.Pass.{Pass}
use Rattle.right_logs.specs.Clocks.{IsTxnNoteOf}
use Rattle.right_logs.specs.OpenReads.{AreReadsOf, IsReadNoteOf, IsKeptRead}
use Rattle.right_logs.specs.Judging.{IsUnseenAt, IsNoRival, HasNoUnseenRival, HasNoEarlierRival, HasNoSourceRival, IsUnrivalledAt, IsKeptNow}
use Rattle.right_logs.specs.Passes.{StandsFor}
use Rattle.right_logs.proofs.JudgeLemmas.{reads_unique}

-- ---- the notes of the reads

-- while all is met, the transaction is pending in the session, whose reads these are
record IsPendingReader (order places : List ℕ) (events : List Event) (pass : Pass) (s number : ℕ) (reads : List ReadNote) : Type 0 where
  pub stands : StandsFor order places events pass
  pub pending : IsPending events number s
  pub met : IsTrue pass.met
  pub reads_are : AreReadsOf pass.reads.items s reads

-- one of the reads is that from the source at the place among the events
record IsReadAmong (reads : List ReadNote) (place source : ℕ) : Type 0 where
  pub k : ℕ
  pub read : ReadNote
  pub is : slice_get reads k ≡ Some read
  pub from : read.source ≡ source
  pub at : read.place ≡ place

-- a read of the transaction is none of those that are settled, since the reader of each of them has ended
read_among :
    (order places : List ℕ) (events : List Event) (pass : Pass) (s number : ℕ) (reads : List ReadNote) → IsPendingReader order places events pass s number reads →
    (place t : ℕ) (cell : Cell) (w n u : ℕ) (v : Value) → IsOf events number place (Read t cell w n u v) → IsReadAmong reads place w
read_among order places events pass s number reads reader place t cell w n u v of =
    let same_session : t ≡ s = start_session events number t s of.start reader.pending.start of.starts reader.pending.starts in
    elim (reader.stands.sights.reads reader.met place t cell w n u v of.is) [
      | inl has ↦
          let are : AreReadsOf pass.reads.items s has.reads = subst (λ (m : ℕ). AreReadsOf pass.reads.items m has.reads) same_session has.are in
          let same : has.reads ≡ reads = reads_unique pass.reads.items s has.reads reads are reader.reads_are in
          record {
            k = has.k;
            read = has.note;
            is = subst (λ (rs : List ReadNote). slice_get rs has.k ≡ Some has.note) same has.noted;
            from = has.of.from;
            at = has.of.at;
          }
      | inr settled ↦
          let event : Event = Read t cell w n u v in
          let one = one_reader events (orderly_from [] events reader.stands.right) settled.reader number place event event settled.kept.read.of of in
          absurd (settled.ended.over s (subst (λ (m : ℕ). IsPending events m s) (sym one.1) reader.pending))
    ]

-- whatever the transaction has read is noted, since there is no scan
source_among :
    (order places : List ℕ) (events : List Event) (pass : Pass) (s number : ℕ) (reads : List ReadNote) → IsPendingReader order places events pass s number reads →
    (place : ℕ) (cell : Cell) (writer : ℕ) → Reads events number place cell writer → IsReadAmong reads place writer
source_among order places events pass s number reads reader place cell writer read = by_event read.event read.of_reader read.gives
  where
    by_event : (event : Event) → IsOf events number place event → Gives event cell writer → IsReadAmong reads place writer
    by_event (Read t x w n u v) of gives =
        subst (λ (m : ℕ). IsReadAmong reads place m) gives.1 (read_among order places events pass s number reads reader place t x w n u v of)
    by_event (Scan t table keys) of gives = absurd (reader.stands.no_scan place (Scan t table keys) of.is tt)
    by_event (Open t) of gives = absurd gives
    by_event (Close t) of gives = absurd gives
    by_event (Define t name) of gives = absurd gives
    by_event (Look t tables) of gives = absurd gives
    by_event (Begin t level) of gives = absurd gives
    by_event (Own t x v) of gives = absurd gives
    by_event (Write t x v) of gives = absurd gives
    by_event (Commit t) of gives = absurd gives
    by_event (Rollback t) of gives = absurd gives
    by_event (Show t n) of gives = absurd gives

-- a source that is one of the writers is no rival where it doesn't stand after the place
writer_no_later :
    (places writers : List ℕ) (source writer from : ℕ) → source ≡ writer → Contains writers writer → IsNoRival places writers source from → get_or places writer 0 ≤ from
writer_no_later places writers source writer from same there harmless =
    let here : IsNoRival places writers writer from = subst (λ (m : ℕ). IsNoRival places writers m from) same harmless in
    elim here [
      | inl no_later ↦ no_later
      | inr apart ↦ absurd (apart there)
    ]

-- ---- by levels

-- session order has the writer before the reader, so they are of one session
one_session :
    (events : List Event) (clocked : Bool) (number writer : ℕ) (own note : TxnNote) → 0 < number → 0 < writer → IsTxnNoteOf events clocked number own →
    IsTxnNoteOf events clocked writer note → IsSessionOrdered events writer number → note.session ≡ own.session
one_session events clocked number writer own note positive low own_of note_of ordered =
    let own_start = own_of.started positive in
    let note_start = note_of.started low in
    let second : ordered.session ≡ own.session = start_session events number ordered.session own.session ordered.place own_start.0 ordered.started own_start.1 in
    elim ordered.same [
      | inl initial ↦ absurd (omega arith)
      | inr other ↦ start_session events writer note.session ordered.session note_start.0 other.0 note_start.1 other.1 ∙ second
    ]

-- what the reader sees it has read from before
clear_at_rc :
    (order places : List ℕ) (events : List Event) (pass : Pass) (s number : ℕ) (reads : List ReadNote) → IsPendingReader order places events pass s number reads →
    (writers : List ℕ) (place from writer : ℕ) → Contains writers writer → ReadsBefore events number place writer →
    HasNoEarlierRival places writers reads place from → get_or places writer 0 ≤ from
clear_at_rc order places events pass s number reads reader writers place from writer there before harmless =
    let among : IsReadAmong reads before.earlier writer = source_among order places events pass s number reads reader before.earlier before.cell writer before.reads in
    let at : among.read.place ≡ before.earlier = among.at in
    let below : before.earlier < place = before.below in
    let earlier : among.read.place < place = omega arith in
    writer_no_later places writers among.read.source writer from among.from there (harmless among.k among.read among.is earlier)

-- it is before the reader in its session, or the reader reads from it
clear_at_ra :
    (order places : List ℕ) (events : List Event) (pass : Pass) (s number : ℕ) (reads : List ReadNote) → IsPendingReader order places events pass s number reads →
    (own : TxnNote) → own.level ≡ Ra → IsTxnNoteOf events pass.clocked number own → (writers : List ℕ) (from writer : ℕ) → 0 < writer → Contains writers writer →
    Precedes events writer number → HasNoSourceRival places writers reads from → HasNoUnseenRival places pass own writers from → get_or places writer 0 ≤ from
clear_at_ra order places events pass s number reads reader own level own_of writers from writer low there (inl ordered) harmless unseen =
    elim (unseen writer there) [
      | inl no_later ↦ no_later
      | inr knows ↦
          let note : TxnNote = knows.0 in
          let note_of : IsTxnNoteOf events pass.clocked writer note = reader.stands.sights.txns.each writer note knows.1.0 in
          let positive : 0 < number = pending_positive events number s reader.pending in
          let apart : note.session ≡ own.session → ⊥ = subst (λ (l : Level). IsUnseenAt l own note writer) level knows.1.1 in
          absurd (apart (one_session events pass.clocked number writer own note positive low own_of note_of ordered))
    ]
clear_at_ra order places events pass s number reads reader own level own_of writers from writer low there (inr into) harmless unseen =
    let among : IsReadAmong reads into.place writer = source_among order places events pass s number reads reader into.place into.cell writer into.reads in
    writer_no_later places writers among.read.source writer from among.from there (harmless among.k among.read among.is)

-- it isn't beyond the reader's clock
clear_at_cc :
    (order places : List ℕ) (events : List Event) (pass : Pass) (s number : ℕ) (reads : List ReadNote) → IsPendingReader order places events pass s number reads →
    (own : TxnNote) → own.level ≡ Cc → IsTxnNoteOf events pass.clocked number own → (writers : List ℕ) (from writer : ℕ) → 0 < writer → Contains writers writer →
    PrecedesCausally events writer number → IsTrue pass.clocked → HasNoUnseenRival places pass own writers from → get_or places writer 0 ≤ from
clear_at_cc order places events pass s number reads reader own level own_of writers from writer low there causal clocked unseen =
    elim (unseen writer there) [
      | inl no_later ↦ no_later
      | inr knows ↦
          let note : TxnNote = knows.0 in
          let note_of : IsTxnNoteOf events pass.clocked writer note = reader.stands.sights.txns.each writer note knows.1.0 in
          let start = note_of.started low in
          let within : writer ≤ get_or own.clock.items note.session 0 = ((own_of.clock clocked).exact note.session writer start.0 start.1).1 causal in
          let beyond : get_or own.clock.items note.session 0 < writer = subst (λ (l : Level). IsUnseenAt l own note writer) level knows.1.1 in
          absurd (omega arith)
    ]

-- at the level of its note the reader sees no writer of the cell of the other note after the place
clear_at :
    (level : Level) (order places : List ℕ) (events : List Event) (pass : Pass) (s number : ℕ) (reads : List ReadNote) → IsPendingReader order places events pass s number reads →
    (own : TxnNote) → own.level ≡ level → IsTxnNoteOf events pass.clocked number own → (note : CellNote) (place from writer : ℕ) → 0 < writer → Contains note.committed writer →
    IsVisibleAt level events number place writer → IsUnrivalledAt level places pass reads own note place from → get_or places writer 0 ≤ from
clear_at Rc order places events pass s number reads reader own is own_of note place from writer low there sees unrivalled =
    clear_at_rc order places events pass s number reads reader note.committed place from writer there sees unrivalled
clear_at Ra order places events pass s number reads reader own is own_of note place from writer low there sees unrivalled =
    clear_at_ra order places events pass s number reads reader own is own_of note.committed from writer low there sees unrivalled.0 unrivalled.1
clear_at Cc order places events pass s number reads reader own is own_of note place from writer low there sees unrivalled =
    clear_at_cc order places events pass s number reads reader own is own_of note.committed from writer low there sees unrivalled.0 unrivalled.1

-- ---- one read

-- a writer that the read sees is noted at its cell, and doesn't stand after its source
visible_clear :
    (order places : List ℕ) (events : List Event) (pass : Pass) (s number : ℕ) (reads : List ReadNote) → IsPendingReader order places events pass s number reads →
    (place t : ℕ) (cell : Cell) (w n u : ℕ) (v : Value) (note : ReadNote) → IsReadNoteOf events pass.cells.numbers.cells.keys place t cell w n u v note → note.reader ≡ number →
    IsKeptNow places pass reads note → (writer : ℕ) → 0 < writer → IsVisible events number place writer → Writes events writer cell →
    get_or places writer 0 ≤ get_or places note.source 0
visible_clear order places events pass s number reads reader place t cell w n u v note of same kept writer low visible writes =
    let own : TxnNote = kept.own in
    let cell_note : CellNote = kept.note in
    let own_is : slice_get pass.txns.items number ≡ Some own = subst (λ (m : ℕ). slice_get pass.txns.items m ≡ Some own) same kept.own_is in
    let own_of : IsTxnNoteOf events pass.clocked number own = reader.stands.sights.txns.each number own own_is in
    let noted : IsNoteOf events cell cell_note = reader.stands.cells.each note.cell cell cell_note of.numbered kept.note_is in
    let there : Contains cell_note.committed writer = (noted.exact writer).1 (low, writes) in
    let positive : 0 < number = pending_positive events number s reader.pending in
    let level : own.level ≡ visible.level = runs_unique events number own.level visible.level (own_of.runs positive) visible.runs in
    let sees : IsVisibleAt own.level events number place writer = subst (λ (l : Level). IsVisibleAt l events number place writer) (sym level) visible.sees in
    elim kept.unrivalled [
      | inl none ↦ none writer there
      | inr at_note ↦
          let unrivalled : IsUnrivalledAt own.level places pass reads own cell_note place (get_or places note.source 0) =
          subst (λ (m : ℕ). IsUnrivalledAt own.level places pass reads own cell_note m (get_or places note.source 0)) of.at at_note
          in
          clear_at own.level order places events pass s number reads reader own refl own_of cell_note place (get_or places note.source 0) writer low there sees unrivalled
    ]

pub kept_from_notes :
    (order places : List ℕ) (events : List Event) (pass : Pass) → StandsFor order places events pass → (s number : ℕ) → IsPending events number s → IsTrue pass.met →
    (reads : List ReadNote) → AreReadsOf pass.reads.items s reads → (place t : ℕ) (cell : Cell) (w n u : ℕ) (v : Value) (note : ReadNote) →
    IsReadNoteOf events pass.cells.numbers.cells.keys place t cell w n u v note → note.reader ≡ number → IsKeptNow places pass reads note →
    IsKeptRead places events place t cell w n u v number
kept_from_notes order places events pass stands s number pending met reads reads_are place t cell w n u v note of same kept =
    let reader : IsPendingReader order places events pass s number reads = record { stands = stands; pending = pending; met = met; reads_are = reads_are } in
    record {
      read = subst (λ (m : ℕ). IsReadAt events place (Read t cell w n u v) m) same of.read;
      before = subst (λ (m : ℕ). StandsAt places w m) same (subst (λ (m : ℕ). StandsAt places m note.reader) of.from kept.before);
      clear = λ writer low visible writes.
          subst (λ (m : ℕ). get_or places writer 0 ≤ get_or places m 0) of.from
          (visible_clear order places events pass s number reads reader place t cell w n u v note of same kept writer low visible writes);
    }
