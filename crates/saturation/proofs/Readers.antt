-- The pairs that the code finds for one reader, and those that the reader demands: in a history, and in it with a further read.
use Rattle.std.proofs.Common.{◌≡◌, ℕ, ◌+◌, ◌<◌, ◌≤◌, List, [], ◌∷◌, ◌++◌, Some, Bool, true, false, length, get_or-set_same, get_or-set_other, set, arith, refl, ap, sym, ◌∙◌, subst, inl, inr, ◌⊎◌}
use Rattle.std.specs.List.{Any}
use Rattle.std.proofs.lemmas.List.{length_push, length-set, get_or_past}
use Rattle.std.proofs.lemmas.Option.{slice_get_within}
use Rattle.std.proofs.lemmas.Bool.{cases_eq, cases_lt, false≢true}
use Rattle.graph_base.specs.declared.Edge.{Edge}
use Rattle.order_witness.specs.Marks.{IsMarked}
use Rattle.cell_base.specs.declared.level.Level.{Level}
use Rattle.cell_base.specs.declared.level.Level.TheVariants.{Rc, Ra, Cc}
use Rattle.cell_base.specs.declared.cell.Cell.{Cell}
use Rattle.cell_base.specs.declared.value.Value.{Value}
use Rattle.history_core.specs.declared.event.Event.{Event}
use Rattle.history_core.specs.declared.event.Event.TheVariants.{Read}
use Rattle.history_core.specs.declared.txn.Seen.{Seen}
use Rattle.history_core.specs.declared.txn.Seen.TheVariants.{Read as SeenRead}
use Rattle.history_core.specs.declared.txn.Txn.{Txn}
use Rattle.history_core.specs.Events.{begun}
use Rattle.history_core.specs.Transactions.{RunsAt, IsOf, IsPending}
use Rattle.history_core.specs.Relations.{Writes, Gives, Precedes, ReadsBefore, IsVisibleAt, Demands}
use Rattle.history_core.specs.Records.{seen_of, Saw, IsRecordOf}
use Rattle.history_core.specs.Forced.{IsForced, IsPairList, IsDemandOf}
use Rattle.history_core.proofs.Places.{runs_unique}
use Rattle.history_core.proofs.Grown.{runs_kept, of_back, reads_back}
use Rattle.history_core.proofs.Prefixes.{IsSound, of_kept}
use Rattle.history_core.proofs.Offers.{precedes_read, writer_bounded}
use Rattle.history_core.proofs.Next.{of_new}
use Rattle.saturation.specs.Laws.{AreForced, with_read}
use Rattle.saturation.specs.Views.{number_of, IsReadFrom, Sees, ArePredecessors, Widens}
use Rattle.saturation.specs.Pairs.{AddsPairs, IsSeenDemand, IsDemandIn, IsAddedByRead, IsForcedAt}
use Rattle.saturation.proofs.Adds.{adds_then, list_more}
use Rattle.saturation.proofs.Chains.{marked_from_chain, chain_from_marked}
use Rattle.saturation.proofs.Sights.{gives_from_seen, seen_from_gives, seen_number, before_from_record, record_before}
use Rattle.saturation.proofs.After.{precedes_kept, before_kept, before_back, read_now, writes_kept, writes_before, forced_after, forced_before}
use Rattle.saturation.proofs.Decides.{initial_ordered, committed_bounded, precedes_range, forced_range}

-- ---- a reader's view: the history `now` has the writers of `events`, and the reads see what the tests say

pub record IsView (events now : List Event) (reader : ℕ) (level : Level) (all : List Seen) (marks : List Bool) : Type 0 where
  pub runs : RunsAt now reader level
  pub sees : (p a : ℕ) → p < length now → 0 < a → Sees level all marks (p + 1) a → IsVisibleAt level now reader p a
  pub seen : (p a : ℕ) → p < length now → 0 < a → IsVisibleAt level now reader p a → Sees level all marks (p + 1) a
  pub writes : (a : ℕ) (x : Cell) → Writes events a x → Writes now a x
  pub wrote : (a : ℕ) (x : Cell) → Writes now a x → Writes events a x

pub demand_from_seen :
    (events now : List Event) (reader : ℕ) (level : Level) (all : List Seen) (marks : List Bool) → IsView events now reader level all marks →
    (seen : Seen) → Saw now reader seen → (a b : ℕ) → IsSeenDemand events level all marks seen a b → (0 < a) × IsDemandOf now reader a b
demand_from_seen events now reader level all marks view seen saw a b is =
    let number : number_of seen ≡ saw.place + 1 = seen_number saw.event (saw.place + 1) seen saw.shows in
    let within : saw.place < length now = slice_get_within now saw.place saw.event saw.of.is in
    let sees : Sees level all marks (saw.place + 1) a = subst (λ (n : ℕ). Sees level all marks n a) number is.sees in
    let gives : Gives saw.event is.rival.cell b =
    subst (λ (n : ℕ). Gives saw.event is.rival.cell n) (sym is.second_is) (gives_from_seen saw.event (saw.place + 1) seen is.rival.cell saw.shows is.rival.shows) in
    let demands : Demands now a b = record {
      reader = reader;
      place = saw.place;
      cell = is.rival.cell;
      reads = record { event = saw.event; of_reader = saw.of; gives = gives };
      other = λ same. is.rival.other (same ∙ is.second_is);
      writes = view.writes a is.rival.cell is.rival.writes;
      visible = record { level = level; runs = view.runs; sees = view.sees saw.place a within is.later sees };
    } in
    (is.later, (demands, refl))

pub seen_from_demand :
    (events now : List Event) (reader : ℕ) (level : Level) (all : List Seen) (marks : List Bool) → IsView events now reader level all marks →
    (a b : ℕ) → 0 < a → IsDemandOf now reader a b → (seen : Seen) × (Saw now reader seen × IsSeenDemand events level all marks seen a b)
seen_from_demand events now reader level all marks view a b positive (d, same) =
    let some = seen_from_gives d.reads.event (d.place + 1) d.cell b d.reads.gives in
    let within : d.place < length now = slice_get_within now d.place d.reads.event d.reads.of_reader.is in
    let runs : RunsAt now reader d.visible.level = subst (λ (r : ℕ). RunsAt now r d.visible.level) same d.visible.runs in
    let level_is : d.visible.level ≡ level = runs_unique now reader d.visible.level level runs view.runs in
    let visible : IsVisibleAt level now reader d.place a =
    subst (λ (l : Level). IsVisibleAt l now reader d.place a) level_is (subst (λ (r : ℕ). IsVisibleAt d.visible.level now r d.place a) same d.visible.sees) in
    let sees : Sees level all marks (d.place + 1) a = view.seen d.place a within positive visible in (
      some.0,
      (
        record {
          place = d.place;
          event = d.reads.event;
          of = subst (λ (r : ℕ). IsOf now r d.place d.reads.event) same d.reads.of_reader;
          shows = some.1.shown;
        },
        record {
          later = positive;
          second_is = some.1.source_is;
          sees = subst (λ (n : ℕ). Sees level all marks n a) (sym some.1.number_is) sees;
          rival = record {
            cell = d.cell;
            shows = some.1.shows;
            other = λ equal. d.other (equal ∙ sym some.1.source_is);
            writes = view.wrote a d.cell d.writes;
          };
        },
      ),
    )

-- ---- the marks

-- the marks of the start are on what precedes the reader in the history `now`, whose other pairs are those of `events`
pub record IsStartOf (events now : List Event) (reader : ℕ) (start : List Bool) : Type 0 where
  pub first : (a : ℕ) → Precedes now a reader → IsMarked start a
  pub back : (a : ℕ) → IsMarked start a → Precedes now a reader
  pub step : (a b : ℕ) → Precedes now a b → Precedes events a b ⊎ IsMarked start a
  pub on : (a b : ℕ) → Precedes events a b → Precedes now a b
  pub bounded : (a b : ℕ) → Precedes now a b → a < length start

marks_sees :
    (level : Level) (events now : List Event) (reader : ℕ) (all : List Seen) (start marks : List Bool) (p a : ℕ) → IsStartOf events now reader start →
    Widens level events start marks → (Any (λ s. (number_of s < p + 1) × IsReadFrom s a) all → ReadsBefore now reader p a) →
    Sees level all marks (p + 1) a → IsVisibleAt level now reader p a
marks_sees Rc events now reader all start marks p a begins widens before sees = before sees
marks_sees Ra events now reader all start marks p a begins widens before sees = begins.back a (subst (λ (ms : List Bool). IsMarked ms a) widens sees)
marks_sees Cc events now reader all start marks p a begins widens before sees =
    chain_from_marked events (Precedes now) reader start marks widens begins.on begins.back a sees

marks_seen :
    (level : Level) (events now : List Event) (reader : ℕ) (all : List Seen) (start marks : List Bool) (p a : ℕ) → IsStartOf events now reader start →
    Widens level events start marks → (ReadsBefore now reader p a → Any (λ s. (number_of s < p + 1) × IsReadFrom s a) all) →
    IsVisibleAt level now reader p a → Sees level all marks (p + 1) a
marks_seen Rc events now reader all start marks p a begins widens before visible = before visible
marks_seen Ra events now reader all start marks p a begins widens before visible =
    subst (λ (ms : List Bool). IsMarked ms a) (sym widens) (begins.first a visible)
marks_seen Cc events now reader all start marks p a begins widens before visible =
    marked_from_chain events (Precedes now) reader start marks widens begins.first begins.step
    (λ a b link. let h = begins.bounded a b link in let same = widens.size in omega arith) a visible.between visible.is

pub marked_within : (marks : List Bool) (n : ℕ) → IsMarked marks n → n < length marks
marked_within marks n marked =
    elim (cases_lt n (length marks)) [
      | inl within ↦ within
      | inr past ↦ absurd (false≢true (sym (get_or_past marks n false past) ∙ marked))
    ]

-- ---- in the history itself

start_now : (events : List Event) (reader : ℕ) (start : List Bool) → IsSound events → ArePredecessors events reader start → IsStartOf events events reader start
start_now events reader start sound are = record {
  first = λ a precedes. let range = precedes_range events sound a reader precedes in let h = range.0 in let size = are.size in (are.exact a (omega arith)).1 precedes;
  back = λ a marked. (are.exact a (marked_within start a marked)).0 marked;
  step = λ a b precedes. inl precedes;
  on = λ a b precedes. precedes;
  bounded = λ a b precedes. let range = precedes_range events sound a b precedes in let h = range.0 in let size = are.size in omega arith;
}

pub view_now :
    (events : List Event) (reader : ℕ) (txn : Txn) (start marks : List Bool) → IsSound events → IsRecordOf events reader txn → ArePredecessors events reader start →
    Widens txn.level events start marks → IsView events events reader txn.level txn.seen marks
view_now events reader txn start marks sound is are widens =
    let begins = start_now events reader start sound are in
    record {
      runs = is.level;
      sees = λ p a within positive sees. marks_sees txn.level events events reader txn.seen start marks p a begins widens
          (λ any. before_from_record events reader p a txn is any) sees;
      seen = λ p a within positive visible. marks_seen txn.level events events reader txn.seen start marks p a begins widens
          (λ before. record_before events reader p a txn positive is before) visible;
      writes = λ a x writes. writes;
      wrote = λ a x writes. writes;
    }

-- the pairs that the code adds for a reader
pub forced_at :
    (events : List Event) (reader : ℕ) (txn : Txn) (start marks : List Bool) (old middle new : List Edge) → IsSound events → IsRecordOf events reader txn →
    ArePredecessors events reader start → Widens txn.level events start marks → AddsPairs (λ a b. (b ≡ reader) × IsMarked start a) old middle →
    AddsPairs (IsDemandIn events txn.level txn.seen marks) middle new → AddsPairs (IsForcedAt events reader) old new
forced_at events reader txn start marks old middle new sound is are widens links demands =
    let view = view_now events reader txn start marks sound is are widens in
    adds_then (λ a b. (b ≡ reader) × IsMarked start a) (IsDemandIn events txn.level txn.seen marks) (IsForcedAt events reader) old middle new
    (λ a b link. inl (
      link.0,
      subst (λ (n : ℕ). Precedes events a n) (sym link.0) ((are.exact a (marked_within start a link.1)).0 link.1),
    ))
    (λ a b d. inr (demand_from_seen events events reader txn.level txn.seen marks view d.seen ((is.seen d.seen).0 d.is) a b d.demands))
    (λ a b either. elim either [
      | inl link ↦
          let precedes : Precedes events a reader = subst (λ (n : ℕ). Precedes events a n) link.0 link.1 in
          let range = precedes_range events sound a reader precedes in
          let h = range.0 in let size = are.size in
          inl (link.0, (are.exact a (omega arith)).1 precedes)
      | inr d ↦
          let found = seen_from_demand events events reader txn.level txn.seen marks view a b d.0 d.1 in
          inr record { seen = found.0; is = (is.seen found.0).1 found.1.0; demands = found.1.1 }
    ])
    links demands

-- ---- with a further read

start_then :
    (events : List Event) (s k : ℕ) (x : Cell) (w n u : ℕ) (v : Value) (start : List Bool) → IsSound events → IsPending events k s → w < begun events + 1 →
    ArePredecessors events k start → IsStartOf events (with_read events s x w n u v) k (set start w true)
start_then events s k x w n u v start sound pending small are =
    let size = are.size in
    let longer : length (set start w true) ≡ length start = length-set start w true in
    let here : IsMarked (set start w true) w = get_or-set_same start w true false (omega arith) in
    let kept : (a : ℕ) → IsMarked start a → IsMarked (set start w true) a =
    λ a marked. elim (cases_eq a w) [
      | inl same ↦ subst (λ (m : ℕ). IsMarked (set start w true) m) (sym same) here
      | inr other ↦ get_or-set_other start w a true false other ∙ marked
    ]
    in
    let at : (a : ℕ) → a ≡ w → IsMarked (set start w true) a = λ a same. subst (λ (m : ℕ). IsMarked (set start w true) m) (sym same) here in
    record {
      first = λ a precedes. elim (precedes_read events sound s k x w n u v pending a k precedes) [
        | inl old ↦ let range = precedes_range events sound a k old in let h = range.0 in kept a ((are.exact a (omega arith)).1 old)
        | inr new ↦ at a new.0
      ];
      back = λ a marked. elim (cases_eq a w) [
        | inl same ↦
            subst (λ (m : ℕ). Precedes (with_read events s x w n u v) m k) (sym same)
            (inr record { place = length events; cell = x; reads = read_now events s k x w n u v pending })
        | inr other ↦
            let before : IsMarked start a = sym (get_or-set_other start w a true false other) ∙ marked in
            precedes_kept events (Read s x w n u v) a k ((are.exact a (marked_within start a before)).0 before)
      ];
      step = λ a b precedes. elim (precedes_read events sound s k x w n u v pending a b precedes) [
        | inl old ↦ inl old
        | inr new ↦ inr (at a new.0)
      ];
      on = λ a b precedes. precedes_kept events (Read s x w n u v) a b precedes;
      bounded = λ a b precedes. elim (precedes_read events sound s k x w n u v pending a b precedes) [
        | inl old ↦ let range = precedes_range events sound a b old in let h = range.0 in omega arith
        | inr new ↦ let same = new.0 in omega arith
      ];
    }

view_then :
    (events : List Event) (s k : ℕ) (x : Cell) (w n u : ℕ) (v : Value) (txn : Txn) (start marks : List Bool) → IsSound events → IsPending events k s →
    w < begun events + 1 → IsRecordOf events k txn → ArePredecessors events k start → Widens txn.level events (set start w true) marks →
    IsView events (with_read events s x w n u v) k txn.level txn.seen marks
view_then events s k x w n u v txn start marks sound pending small is are widens =
    let begins = start_then events s k x w n u v start sound pending small are in
    let longer : length (with_read events s x w n u v) ≡ length events + 1 = length_push events (Read s x w n u v) in
    record {
      runs = runs_kept events (Read s x w n u v) k txn.level is.level;
      sees = λ p a within positive sees. marks_sees txn.level events (with_read events s x w n u v) k txn.seen (set start w true) marks p a begins widens
          (λ any. before_kept events (Read s x w n u v) k p a (before_from_record events k p a txn is any)) sees;
      seen = λ p a within positive visible. marks_seen txn.level events (with_read events s x w n u v) k txn.seen (set start w true) marks p a begins widens
          (λ before. record_before events k p a txn positive is (before_back events (Read s x w n u v) k p a (omega arith) before)) visible;
      writes = λ a y writes. writes_kept events (Read s x w n u v) a y writes;
      wrote = λ a y writes. writes_before events s x w n u v a y writes;
    }

-- what the record shows, or the further read
saw_cases :
    (events : List Event) (s k : ℕ) (x : Cell) (w n u : ℕ) (v : Value) (seen : Seen) → Saw (with_read events s x w n u v) k seen →
    Saw events k seen ⊎ (seen ≡ SeenRead (length events + 1) x w)
saw_cases events s k x w n u v seen saw =
    elim (of_back events (Read s x w n u v) k saw.place saw.event saw.of) [
      | inl old ↦ inl record { place = saw.place; event = saw.event; of = old; shows = saw.shows }
      | inr new ↦
          let shown : seen_of (saw.place + 1) (Read s x w n u v) ≡ Some seen = subst (λ (e : Event). seen_of (saw.place + 1) e ≡ Some seen) (sym new.1) saw.shows in
          let both : Some (SeenRead (saw.place + 1) x w) ≡ Some seen = shown in
          let at : saw.place + 1 ≡ length events + 1 = ap (λ (p : ℕ). p + 1) new.0 in
          inr (let is : seen ≡ SeenRead (saw.place + 1) x w = cc in is ∙ ap (λ (q : ℕ). SeenRead q x w) at)
    ]

saw_kept : (events : List Event) (e : Event) (k : ℕ) (seen : Seen) → Saw events k seen → Saw (events ++ e ∷ []) k seen
saw_kept events e k seen saw = record { place = saw.place; event = saw.event; of = of_kept events e k saw.place saw.event saw.of; shows = saw.shows }

saw_now : (events : List Event) (s k : ℕ) (x : Cell) (w n u : ℕ) (v : Value) → IsPending events k s → Saw (with_read events s x w n u v) k (SeenRead (length events + 1) x w)
saw_now events s k x w n u v pending =
    record { place = length events; event = Read s x w n u v; of = of_new events (Read s x w n u v) k pending; shows = refl }

-- what is forced then has small numbers
range_then :
    (events : List Event) → IsSound events → (s k : ℕ) (x : Cell) (w n u : ℕ) (v : Value) → IsPending events k s → Writes events w x → k ≤ begun events →
    (a b : ℕ) → IsForced (with_read events s x w n u v) a b → (a < begun events + 1) × (b < begun events + 1)
range_then events sound s k x w n u v pending writes small a b forced =
    let small_source : w < begun events + 1 = writer_bounded events w x writes in
    elim (forced_before events sound s k x w n u v pending writes a b forced) [
      | inl old ↦ forced_range events sound a b old
      | inr more ↦ elim more [
        | inl link ↦ let first = link.0 in let second = link.1 in (omega arith, omega arith)
        | inr own ↦
            let d = own.0 in (
              writer_bounded events a d.cell (writes_before events s x w n u v a d.cell d.writes),
              elim (reads_back events (Read s x w n u v) d.reader d.place d.cell b d.reads) [
                | inl old ↦ committed_bounded events b (sound.sources d.reader d.place d.cell b old)
                | inr new ↦ let same = new.2.1 in omega arith
              ],
            )
      ]
    ]

pub added_then :
    (events : List Event) (k : ℕ) (x : Cell) (w : ℕ) (level : Level) (all : List Seen) (marks : List Bool) (forced linked seen new : List Edge) →
    AddsPairs (λ a b. (a ≡ w) × (b ≡ k)) forced linked → AddsPairs (IsDemandIn events level all marks) linked seen →
    AddsPairs (IsSeenDemand events level all marks (SeenRead (length events + 1) x w)) seen new →
    AddsPairs (IsAddedByRead events k x w level all marks) forced new
added_then events k x w level all marks forced linked seen new link demands further =
    let both : AddsPairs (λ a b. IsDemandIn events level all marks a b ⊎ IsSeenDemand events level all marks (SeenRead (length events + 1) x w) a b) linked new =
    adds_then (IsDemandIn events level all marks) (IsSeenDemand events level all marks (SeenRead (length events + 1) x w))
    (λ a b. IsDemandIn events level all marks a b ⊎ IsSeenDemand events level all marks (SeenRead (length events + 1) x w) a b)
    linked seen new (λ a b d. inl d) (λ a b d. inr d) (λ a b either. either) demands further in
    adds_then (λ a b. (a ≡ w) × (b ≡ k))
    (λ a b. IsDemandIn events level all marks a b ⊎ IsSeenDemand events level all marks (SeenRead (length events + 1) x w) a b)
    (IsAddedByRead events k x w level all marks) forced linked new (λ a b d. inl d) (λ a b d. inr d) (λ a b either. either) link both

pub list_then :
    (events : List Event) (s k : ℕ) (x : Cell) (w : ℕ) (txn : Txn) (start marks : List Bool) (forced new : List Edge) →
    IsSound events → IsPending events k s → Writes events w x → k ≤ begun events → IsRecordOf events k txn → ArePredecessors events k start →
    Widens txn.level events (set start w true) marks → AreForced events forced →
    AddsPairs (IsAddedByRead events k x w txn.level txn.seen marks) forced new →
    (n u : ℕ) (v : Value) → IsPairList (IsForced (with_read events s x w n u v)) (begun events + 1) new
list_then events s k x w txn start marks forced new sound pending writes small is are widens list all n u v =
    let small_source : w < begun events + 1 = writer_bounded events w x writes in
    let now = with_read events s x w n u v in
    let view = view_then events s k x w n u v txn start marks sound pending small_source is are widens in
    list_more (IsForced events) (IsAddedByRead events k x w txn.level txn.seen marks) (IsForced now) (begun events + 1) forced new
    (λ a b f. forced_after events s k x w n u v pending a b (inl f))
    (λ a b added. forced_after events s k x w n u v pending a b (elim added [
      | inl first ↦ inr (inl first)
      | inr second ↦ inr (inr (elim second [
        | inl d ↦
            (demand_from_seen events now k txn.level txn.seen marks view d.seen (saw_kept events (Read s x w n u v) k d.seen ((is.seen d.seen).0 d.is)) a b d.demands).1
        | inr d ↦
            (demand_from_seen events now k txn.level txn.seen marks view (SeenRead (length events + 1) x w) (saw_now events s k x w n u v pending) a b d).1
      ]))
    ]))
    (λ a b f. elim (forced_before events sound s k x w n u v pending writes a b f) [
      | inl old ↦ inl old
      | inr more ↦ elim more [
        | inl first ↦ inr (inl first)
        | inr own ↦ elim (cases_eq a 0) [
          | inl initial ↦
              let range = range_then events sound s k x w n u v pending writes small a b f in
              let h = range.1 in
              let apart : b ≡ 0 → ⊥ = λ same. own.0.other (initial ∙ sym same) in
              inl (inl (inl (initial_ordered events a b initial (omega arith) (omega arith))))
          | inr positive ↦
              let found = seen_from_demand events now k txn.level txn.seen marks view a b (omega arith) own in
              inr (inr (elim (saw_cases events s k x w n u v found.0 found.1.0) [
                | inl old ↦ inl record { seen = found.0; is = (is.seen found.0).1 old; demands = found.1.1 }
                | inr same ↦ inr (subst (λ (y : Seen). IsSeenDemand events txn.level txn.seen marks y a b) same found.1.1)
              ]))
        ]
      ]
    ])
    (range_then events sound s k x w n u v pending writes small)
    list all
