-- What the tests that judge the reads of a transaction show.
use Rattle.std.proofs.Common.{◌≡◌, ℕ, ◌+◌, ◌-◌, ◌<◌, ◌≤◌, List, [], ◌∷◌, ◌++◌, Some, length, get_or, arith, sym, ap, ◌∙◌, subst, inl, inr, IsTrue}
use Rattle.std.specs.List.{slice_get}
use Rattle.std.specs.List.Sorted.{IsStrictlyIncreasing}
use Rattle.std.proofs.lemmas.Bool.{cases_lt}
use Rattle.std.proofs.lemmas.List.{length_push, get_or_append_left, get_or_push, nil_from_length}
use Rattle.std.proofs.lemmas.Option.{get_or_from_slice_get}
use Rattle.cell_base.specs.declared.level.Level.{Level}
use Rattle.cell_base.specs.declared.level.Level.TheVariants.{Rc, Ra, Cc}
use Rattle.cell_writers.specs.declared.cell_note.CellNote.{CellNote}
use Rattle.indexed_history.proofs.Ascending.{increasing_less, get_contained}
use Rattle.history_check.specs.Notes.{AreAscending}
use Rattle.history_check.proofs.CellSteps.{ascending_of}
use Rattle.right_logs.specs.declared.open_reads.ReadNote.{ReadNote}
use Rattle.right_logs.specs.declared.open_reads.SessionReads.{SessionReads}
use Rattle.right_logs.specs.declared.txn_notes.TxnNote.{TxnNote}
use Rattle.right_logs.specs.declared.pass.Pass.{Pass}
use Rattle.right_logs.specs.OpenReads.{AreReadsOf}
use Rattle.right_logs.specs.Seats.{IsPendingIn}
use Rattle.right_logs.specs.Standing.{AreHighest}
use Rattle.right_logs.specs.Judging.{HasNoLateWriter, IsUnseenAt, IsUnseen, IsClearOf, HasNoUnseenRival, IsNoRival, HasNoEarlierRival, HasNoSourceRival, IsUnrivalledAt, IsUnrivalled, IsKeptNow, AreKept, AreKeptOf, IsKeptSession}
use Rattle.right_logs.specs.Passes.{Stands}

-- ---- how far the numbers up to each reach

-- so it is with the first n numbers, of which none stands after the top
pub record RisesUpTo (places highest : List ℕ) (n top : ℕ) : Type 0 where
  pub count : length highest ≡ n
  pub are : AreHighest places highest
  pub high : (i : ℕ) → i < n → get_or places i 0 ≤ top

pub rises_none : (places highest : List ℕ) → highest ≡ [] → RisesUpTo places highest 0 0
rises_none places highest none =
    let count : length highest ≡ 0 = ap (λ (xs : List ℕ). length xs) none in
    record {
      count = count;
      are = λ m k order below. absurd (omega arith);
      high = λ i below. absurd (omega arith);
    }

pub rises_more :
    (places highest : List ℕ) (n top next : ℕ) → top ≤ next → get_or places n 0 ≤ next → RisesUpTo places highest n top → RisesUpTo places (highest ++ next ∷ []) (n + 1) next
rises_more places highest n top next up here before =
    let count = before.count in
    let long : length (highest ++ next ∷ []) ≡ length highest + 1 = length_push highest next in
    let high : (i : ℕ) → i < n + 1 → get_or places i 0 ≤ next =
    λ i below. elim (cases_lt i n) [
      | inl earlier ↦ let h = before.high i earlier in omega arith
      | inr last ↦
          let same : i ≡ n = omega arith in
          let value : get_or places i 0 ≡ get_or places n 0 = ap (λ (j : ℕ). get_or places j 0) same in omega arith
    ]
    in
    record {
      count = omega arith;
      are = λ m k order below. elim (cases_lt k n) [
        | inl earlier ↦
            let value : get_or (highest ++ next ∷ []) k 0 ≡ get_or highest k 0 = get_or_append_left highest (next ∷ []) 0 k (omega arith) in
            let h : get_or places m 0 ≤ get_or highest k 0 = before.are m k order (omega arith) in omega arith
        | inr last ↦
            let value : get_or (highest ++ next ∷ []) k 0 ≡ next = get_or_push highest next 0 k (omega arith) in
            let h = high m (omega arith) in omega arith
      ];
      high = high;
    }

-- where the numbers up to one of the writers stand no further than the place, those of the writers before it don't
pub up_to :
    (places highest seen writers : List ℕ) (from at k : ℕ) → IsStrictlyIncreasing writers → AreHighest places highest → seen ≡ highest →
    (get_or writers at 0 < length seen) × (get_or seen (get_or writers at 0) 0 ≤ from) → k ≤ at → at < length writers → get_or places (get_or writers k 0) 0 ≤ from
up_to places highest seen writers from at k rises high same up order within =
    let stands : (get_or writers at 0 < length highest) × (get_or highest (get_or writers at 0) 0 ≤ from) =
    subst (λ (hs : List ℕ). (get_or writers at 0 < length hs) × (get_or hs (get_or writers at 0) 0 ≤ from)) same up
    in
    let inside = stands.0 in
    let low = stands.1 in
    let rise : get_or writers k 0 ≤ get_or writers at 0 =
    elim (cases_lt k at) [
      | inl before ↦ let less = increasing_less writers rises k at before within in omega arith
      | inr not_before ↦
          let one : k ≡ at = omega arith in
          let value : get_or writers k 0 ≡ get_or writers at 0 = ap (λ (i : ℕ). get_or writers i 0) one in omega arith
    ]
    in
    let h : get_or places (get_or writers k 0) 0 ≤ get_or highest (get_or writers at 0) 0 = high (get_or writers k 0) (get_or writers at 0) rise inside in
    omega arith

-- ---- no writer that is late

pub late_none : (places writers : List ℕ) (from : ℕ) → length writers ≡ 0 → HasNoLateWriter places writers from
late_none places writers from none writer there =
    let found = get_contained writers writer there in
    let inside = found.1 in
    absurd (omega arith)

pub none_late :
    (places highest seen writers : List ℕ) (from : ℕ) → IsStrictlyIncreasing writers → AreHighest places highest → seen ≡ highest →
    (get_or writers (length writers - 1) 0 < length seen) × (get_or seen (get_or writers (length writers - 1) 0) 0 ≤ from) → HasNoLateWriter places writers from
none_late places highest seen writers from rises high same up writer there =
    let found = get_contained writers writer there in
    let inside = found.1 in
    let h : get_or places (get_or writers found.0 0) 0 ≤ from =
    up_to places highest seen writers from (length writers - 1) found.0 rises high same up (omega arith) (omega arith)
    in
    subst (λ (n : ℕ). get_or places n 0 ≤ from) found.2 h

-- ---- what is unseen at each level

pub unseen_rc : (own writer : TxnNote) (number : ℕ) → own.level ≡ Rc → IsUnseen own writer number
unseen_rc own writer number is = subst (λ (l : Level). IsUnseenAt l own writer number) (sym is) tt

pub unseen_ra : (own writer : TxnNote) (number : ℕ) → own.level ≡ Ra → (writer.session ≡ own.session → ⊥) → IsUnseen own writer number
unseen_ra own writer number is apart = subst (λ (l : Level). IsUnseenAt l own writer number) (sym is) apart

pub unseen_cc : (own writer : TxnNote) (number : ℕ) → own.level ≡ Cc → get_or own.clock.items writer.session 0 < number → IsUnseen own writer number
unseen_cc own writer number is beyond = subst (λ (l : Level). IsUnseenAt l own writer number) (sym is) beyond

-- ---- the writers from the last one on

-- each of the writers from this place of the list on is clear
abbrev pub AreClearFrom : List ℕ → Pass → TxnNote → List ℕ → ℕ → ℕ → Type 0
AreClearFrom places pass own writers from at = (k : ℕ) → at ≤ k → k < length writers → IsClearOf places pass own (get_or writers k 0) from

pub clear_more :
    (places : List ℕ) (pass : Pass) (own : TxnNote) (writers : List ℕ) (from at next : ℕ) → next ≡ at + 1 → IsClearOf places pass own (get_or writers at 0) from →
    AreClearFrom places pass own writers from next → AreClearFrom places pass own writers from at
clear_more places pass own writers from at next follows here before k low inside =
    elim (cases_lt at k) [
      | inl later ↦ before k (omega arith) inside
      | inr now ↦
          let same : at ≡ k = omega arith in
          subst (λ (i : ℕ). IsClearOf places pass own (get_or writers i 0) from) same here
    ]

pub clear_all :
    (places : List ℕ) (pass : Pass) (own : TxnNote) (writers : List ℕ) (from at : ℕ) → at ≡ 0 → AreClearFrom places pass own writers from at →
    HasNoUnseenRival places pass own writers from
clear_all places pass own writers from at first clear writer there =
    let found = get_contained writers writer there in
    let inside = found.1 in
    subst (λ (n : ℕ). IsClearOf places pass own n from) found.2 (clear found.0 (omega arith) inside)

-- where the numbers up to the one before stand no further than the place, all are clear
pub clear_up_to :
    (places highest seen : List ℕ) (pass : Pass) (own : TxnNote) (writers : List ℕ) (from at next : ℕ) → next ≡ at + 1 → next ≤ length writers → IsStrictlyIncreasing writers →
    AreHighest places highest → seen ≡ highest → (get_or writers at 0 < length seen) × (get_or seen (get_or writers at 0) 0 ≤ from) →
    AreClearFrom places pass own writers from next → HasNoUnseenRival places pass own writers from
clear_up_to places highest seen pass own writers from at next follows within rises high same up clear writer there =
    let found = get_contained writers writer there in
    let inside = found.1 in
    let here : IsClearOf places pass own (get_or writers found.0 0) from =
    elim (cases_lt found.0 next) [
      | inl before ↦ inl (up_to places highest seen writers from at found.0 rises high same up (omega arith) (omega arith))
      | inr after ↦ clear found.0 after inside
    ]
    in
    subst (λ (n : ℕ). IsClearOf places pass own n from) found.2 here

-- ---- the sources of the reads

-- none of the first n reads is from a rival, where it is before the place among the events
abbrev pub AreHarmlessBelow : List ℕ → List ℕ → List ReadNote → ℕ → ℕ → ℕ → Type 0
AreHarmlessBelow places writers reads before from n =
    (k : ℕ) (read : ReadNote) → k < n → slice_get reads k ≡ Some read → read.place < before → IsNoRival places writers read.source from

pub harmless_none : (places writers : List ℕ) (reads : List ReadNote) (before from : ℕ) → AreHarmlessBelow places writers reads before from 0
harmless_none places writers reads before from k read below is early = absurd (omega arith)

pub harmless_more :
    (places writers : List ℕ) (reads : List ReadNote) (before from n : ℕ) (blank : ReadNote) → n < length reads →
    ((get_or reads n blank).place < before → IsNoRival places writers (get_or reads n blank).source from) → AreHarmlessBelow places writers reads before from n →
    AreHarmlessBelow places writers reads before from (n + 1)
harmless_more places writers reads before from n blank within last earlier k read below is early =
    elim (cases_lt k n) [
      | inl old ↦ earlier k read old is early
      | inr now ↦
          let same : n ≡ k = omega arith in
          let value : get_or reads n blank ≡ read = ap (λ (i : ℕ). get_or reads i blank) same ∙ get_or_from_slice_get reads k read blank is in
          let place : (get_or reads n blank).place ≡ read.place = ap (λ (r : ReadNote). r.place) value in
          subst (λ (r : ReadNote). IsNoRival places writers r.source from) value (last (omega arith))
    ]

-- none of the first n reads is from a rival
abbrev pub AreNoRivalsBelow : List ℕ → List ℕ → List ReadNote → ℕ → ℕ → Type 0
AreNoRivalsBelow places writers reads from n = (k : ℕ) (read : ReadNote) → k < n → slice_get reads k ≡ Some read → IsNoRival places writers read.source from

pub rivals_none : (places writers : List ℕ) (reads : List ReadNote) (from : ℕ) → AreNoRivalsBelow places writers reads from 0
rivals_none places writers reads from k read below is = absurd (omega arith)

pub rivals_more :
    (places writers : List ℕ) (reads : List ReadNote) (from n : ℕ) (blank : ReadNote) → n < length reads → IsNoRival places writers (get_or reads n blank).source from →
    AreNoRivalsBelow places writers reads from n → AreNoRivalsBelow places writers reads from (n + 1)
rivals_more places writers reads from n blank within last earlier k read below is =
    elim (cases_lt k n) [
      | inl old ↦ earlier k read old is
      | inr now ↦
          let same : n ≡ k = omega arith in
          let value : get_or reads n blank ≡ read = ap (λ (i : ℕ). get_or reads i blank) same ∙ get_or_from_slice_get reads k read blank is in
          subst (λ (r : ReadNote). IsNoRival places writers r.source from) value last
    ]

-- ---- what shows that a read has no rival

pub unrivalled_late :
    (places : List ℕ) (pass : Pass) (reads : List ReadNote) (own : TxnNote) (note : CellNote) (writers : List ℕ) (before from : ℕ) → writers ≡ note.committed →
    HasNoLateWriter places writers from → IsUnrivalled places pass reads own note before from
unrivalled_late places pass reads own note writers before from same none = inl (subst (λ (ws : List ℕ). HasNoLateWriter places ws from) same none)

pub unrivalled_rc :
    (places : List ℕ) (pass : Pass) (reads : List ReadNote) (own : TxnNote) (note : CellNote) (before from : ℕ) → own.level ≡ Rc →
    HasNoEarlierRival places note.committed reads before from → IsUnrivalled places pass reads own note before from
unrivalled_rc places pass reads own note before from is none = inr (subst (λ (l : Level). IsUnrivalledAt l places pass reads own note before from) (sym is) none)

pub unrivalled_ra :
    (places : List ℕ) (pass : Pass) (reads : List ReadNote) (own : TxnNote) (note : CellNote) (writers : List ℕ) (before from : ℕ) → writers ≡ note.committed → own.level ≡ Ra →
    HasNoSourceRival places note.committed reads from → HasNoUnseenRival places pass own writers from → IsUnrivalled places pass reads own note before from
unrivalled_ra places pass reads own note writers before from same is sources none =
    let unseen : HasNoUnseenRival places pass own note.committed from = subst (λ (ws : List ℕ). HasNoUnseenRival places pass own ws from) same none in
    let both : HasNoSourceRival places note.committed reads from × HasNoUnseenRival places pass own note.committed from = (sources, unseen) in
    inr (subst (λ (l : Level). IsUnrivalledAt l places pass reads own note before from) (sym is) both)

pub unrivalled_cc :
    (places : List ℕ) (pass : Pass) (reads : List ReadNote) (own : TxnNote) (note : CellNote) (writers : List ℕ) (before from : ℕ) → writers ≡ note.committed → own.level ≡ Cc →
    IsTrue pass.clocked → HasNoUnseenRival places pass own writers from → IsUnrivalled places pass reads own note before from
unrivalled_cc places pass reads own note writers before from same is clocked none =
    let unseen : HasNoUnseenRival places pass own note.committed from = subst (λ (ws : List ℕ). HasNoUnseenRival places pass own ws from) same none in
    let both : IsTrue pass.clocked × HasNoUnseenRival places pass own note.committed from = (clocked, unseen) in
    inr (subst (λ (l : Level). IsUnrivalledAt l places pass reads own note before from) (sym is) both)

-- ---- the reads of a transaction

-- the first n reads are of the reader, and the order keeps what they ask
abbrev pub AreKeptBelow : List ℕ → Pass → List ReadNote → ℕ → ℕ → Type 0
AreKeptBelow places pass reads reader n = (k : ℕ) (read : ReadNote) → k < n → slice_get reads k ≡ Some read → (read.reader ≡ reader) × IsKeptNow places pass reads read

pub kept_none : (places : List ℕ) (pass : Pass) (reads : List ReadNote) (reader : ℕ) → AreKeptBelow places pass reads reader 0
kept_none places pass reads reader k read below is = absurd (omega arith)

pub kept_more :
    (places : List ℕ) (pass : Pass) (reads : List ReadNote) (reader n : ℕ) (blank : ReadNote) → n < length reads → IsKeptNow places pass reads (get_or reads n blank) →
    (get_or reads n blank).reader ≡ reader → AreKeptBelow places pass reads reader n → AreKeptBelow places pass reads reader (n + 1)
kept_more places pass reads reader n blank within kept of earlier k read below is =
    elim (cases_lt k n) [
      | inl old ↦ earlier k read old is
      | inr now ↦
          let same : n ≡ k = omega arith in
          let value : get_or reads n blank ≡ read = ap (λ (i : ℕ). get_or reads i blank) same ∙ get_or_from_slice_get reads k read blank is in
          (sym (ap (λ (r : ReadNote). r.reader) value) ∙ of, subst (λ (r : ReadNote). IsKeptNow places pass reads r) value kept)
    ]

-- ---- the reads of a session

-- a session has its reads once
pub reads_unique : (lists : List SessionReads) (session : ℕ) (xs ys : List ReadNote) → AreReadsOf lists session xs → AreReadsOf lists session ys → xs ≡ ys
reads_unique lists session xs ys first second =
    let first_number = first.number in
    let second_number = second.number in
    let same : first.place ≡ second.place = omega arith in
    let both : Some first.list ≡ Some second.list = sym first.is ∙ ap (λ (i : ℕ). slice_get lists i) same ∙ second.is in
    let one : first.list ≡ second.list = cc in
    first.reads_are ∙ ap (λ (l : SessionReads). l.notes.items) one ∙ sym second.reads_are

pub kept_of :
    (places : List ℕ) (pass : Pass) (session reader : ℕ) (reads : List ReadNote) → AreReadsOf pass.reads.items session reads → AreKept places pass reads reader →
    AreKeptOf places pass session reader
kept_of places pass session reader reads are kept others theirs =
    subst (λ (rs : List ReadNote). AreKept places pass rs reader) (reads_unique pass.reads.items session reads others are theirs) kept

pub session_blank :
    (places : List ℕ) (pass : Pass) (session : ℕ) (reads : List ReadNote) → AreReadsOf pass.reads.items session reads → length reads ≡ 0 → IsKeptSession places pass session
session_blank places pass session reads are none others theirs =
    inl (reads_unique pass.reads.items session others reads theirs are ∙ nil_from_length reads none)

pub session_kept :
    (places : List ℕ) (pass : Pass) (session reader : ℕ) (reads : List ReadNote) → AreReadsOf pass.reads.items session reads →
    IsPendingIn pass.session_notes.items session reader → AreKept places pass reads reader → IsKeptSession places pass session
session_kept places pass session reader reads are pending kept others theirs =
    inr (reader, (pending, kept_of places pass session reader reads are kept others theirs))

-- the first n sessions are kept
abbrev pub AreKeptSessions : List ℕ → Pass → ℕ → Type 0
AreKeptSessions places pass n = (at : ℕ) → at < n → IsKeptSession places pass (at + 1)

pub sessions_none : (places : List ℕ) (pass : Pass) → AreKeptSessions places pass 0
sessions_none places pass at below = absurd (omega arith)

pub sessions_more :
    (places : List ℕ) (pass : Pass) (n session : ℕ) → session ≡ n + 1 → IsKeptSession places pass session → AreKeptSessions places pass n → AreKeptSessions places pass (n + 1)
sessions_more places pass n session number kept before at below =
    elim (cases_lt at n) [
      | inl earlier ↦ before at earlier
      | inr now ↦
          let same : session ≡ at + 1 = omega arith in
          subst (λ (s : ℕ). IsKeptSession places pass s) same kept
    ]

-- ---- what a pass has that stands for some events

pub stands_ascend : (places : List ℕ) (pass : Pass) → Stands places pass → AreAscending pass.cells.notes.items
stands_ascend places pass (order, (events, stands)) = ascending_of stands.cells

pub stands_high : (places : List ℕ) (pass : Pass) → Stands places pass → AreHighest places pass.highest.items
stands_high places pass (order, (events, stands)) = stands.sights.highest
