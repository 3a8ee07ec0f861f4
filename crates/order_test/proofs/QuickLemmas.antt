-- What the lists of writers show of a read at once.
use Rattle.std.proofs.Common.{◌≡◌, ℕ, ◌+◌, ◌-◌, ◌<◌, ◌≤◌, List, length, Some, arith, refl, ap, sym, ◌∙◌, subst, inl, inr, ◌⊎◌, Option}
use Rattle.std.specs.List.{Contains, slice_get, slice_index}
use Rattle.std.proofs.lemmas.Bool.{cases_eq}
use Rattle.std.proofs.lemmas.Option.{slice_get_within, slice_get_cases, slice_get_read}
use Rattle.graph_base.specs.Order.{place_of}
use Rattle.cell_base.specs.declared.level.Level.{Level}
use Rattle.cell_base.specs.declared.level.Level.TheVariants.{Rc, Ra, Cc}
use Rattle.cell_base.specs.declared.cell.Cell.{Cell}
use Rattle.cell_base.specs.declared.value.Value.{Value}
use Rattle.cell_writers.specs.declared.writers.CellWriters.{CellWriters}
use Rattle.cell_writers.specs.Writers.{numbers_at, IsLastUpTo}
use Rattle.history_core.specs.declared.event.Event.{Event}
use Rattle.history_core.specs.declared.event.Event.TheVariants.{Read, Scan}
use Rattle.cell_base.specs.declared.cell.Cell.TheVariants.{Presence, Field}
use Rattle.cell_base.specs.declared.key.Key.{Key}
use Rattle.order_test.specs.declared.firsts.TableFirsts.{TableFirsts}
use Rattle.order_test.specs.Firsts.{firsts_at, ListsUpTo, PastIsListed}
use Rattle.history_core.specs.declared.txn.Txn.{Txn}
use Rattle.history_core.specs.declared.txn.Seen.{Seen}
use Rattle.history_core.specs.Events.{begun}
use Rattle.history_core.specs.Relations.{Gives, Writes, Precedes, PrecedesCausally, IsVisibleAt, ReadsBefore, ReadsFrom, IsSessionOrdered}
use Rattle.history_core.specs.Transactions.{RunsAt}
use Rattle.history_core.specs.Records.{IsRecordOf}
use Rattle.history_core.proofs.Places.{start_session}
use Rattle.saturation.specs.Views.{number_of, IsReadFrom}
use Rattle.saturation.proofs.Chains.{chained_one}
use Rattle.saturation.proofs.Sights.{none_from_record, writes_later, record_reads_from, record_before}
use Rattle.order_test.specs.declared.pasts.Past.{Past}
use Rattle.order_test.specs.declared.read_at.ReadAt.{ReadAt}
use Rattle.order_test.specs.declared.scene.Scene.{Scene}
use Rattle.order_test.specs.declared.survey.Survey.{Survey}
use Rattle.order_test.specs.Unkept.{KeepsSessions, StandsBefore, IsUnmet}
use Rattle.order_test.specs.Pasts.{IsPastOf}
use Rattle.order_test.specs.Scenes.{IsSurvey, IsScene, IsReadIn, IsRivalOf, IsUnrivalled, HasNoDirectRival, IsHarmless, AreHarmless}
use Rattle.order_test.specs.Sights.{IsReadAt, IsRival, origin_of}
use Rattle.order_test.specs.Listed.{HasNoLate, HasNoRival, listed_at, numbers_in}
use Rattle.order_test.proofs.SightLemmas.{record_at, ordered_from_records, records_from_ordered, visible_at}
use Rattle.order_test.proofs.FirstLemmas.{none_unlisted}
use Rattle.order_test.proofs.SearchLemmas.{less_unless, rival_bounds, bounds_of}

-- ---- what is seen precedes the reader

direct_is_causal : (events : List Event) (a b : ℕ) → Precedes events a b → PrecedesCausally events a b
direct_is_causal events a b p = chained_one (Precedes events) a b p

pub visible_is_causal : (events : List Event) (reader place writer : ℕ) (level : Level) → IsVisibleAt level events reader place writer → PrecedesCausally events writer reader
visible_is_causal events reader place writer Rc before =
    direct_is_causal events writer reader (inr record { place = before.earlier; cell = before.cell; reads = before.reads })
visible_is_causal events reader place writer Ra precedes = direct_is_causal events writer reader precedes
visible_is_causal events reader place writer Cc causal = causal

-- ---- the order in a session

less_in_session :
    (events : List Event) (order : List ℕ) → KeepsSessions events order → (a b : ℕ) (x y : Txn) → IsRecordOf events a x → IsRecordOf events b y → a < b → x.session ≡ y.session →
    place_of order a < place_of order b
less_in_session events order keeps a b x y is_a is_b less same =
    less_unless (place_of order a) (place_of order b)
    (λ late. keeps a b record { ordered = ordered_from_records events a b x y is_a is_b less same; late = late })

-- the session of a record is below the width
pub session_within :
    (survey : Survey) (scene : Scene) → IsSurvey survey → IsScene survey scene → (number : ℕ) → 0 < number →
    number ≤ begun survey.events.now → (txn : Txn) → IsRecordOf survey.events.now number txn → txn.session < length scene.lists.now.writers.items
session_within survey scene light is_scene number positive bounded txn is =
    let size = is_scene.txns_are.count in
    elim (slice_get_cases scene.txns.now (number - 1)).1 [
      | inr beyond ↦ let far = beyond.0 in absurd (omega arith)
      | inl (found, near, row, same_value) ↦
          let known = record_at survey.events.now scene.txns.now is_scene.txns_are number (number - 1) found (omega arith) row in
          let same : txn.session ≡ found.session = start_session survey.events.now number txn.session found.session is.place known.place is.started known.started in
          let inside = is_scene.within (number - 1) found row in
          omega arith
    ]

-- ---- a writer of a session up to the limit isn't late

pub none_late :
    (survey : Survey) (scene : Scene) → IsSurvey survey → IsScene survey scene → (writers : CellWriters) (cell : Cell) (limit from at : ℕ) (txn : Txn) → from ≤ begun survey.events.now → slice_get scene.txns.now at ≡ Some txn →
    slice_get scene.lists.now.writers.items txn.session ≡ Some writers → HasNoLate survey.places.now.at.items (numbers_at writers cell) limit from → at + 1 ≤ limit → (at + 1 ≡ from → ⊥) →
    Writes survey.events.now (at + 1) cell → StandsBefore survey.order.now (at + 1) from
none_late survey scene light is_scene writers cell limit from at txn from_in is in_session has_none within other writes =
    less_unless (place_of survey.order.now (at + 1)) (place_of survey.order.now from) (λ late.
    let record_of = record_at survey.events.now scene.txns.now is_scene.txns_are (at + 1) at txn refl is in
    let wrote = writes_later survey.events.now (at + 1) cell (omega arith) writes in
    none_from_record survey.events.now (at + 1) txn cell record_of (λ value member.
    let there : Contains (numbers_at writers cell) (at + 1) =
    is_scene.lists_are.whole at txn writers cell value (slice_get_within scene.txns.now at txn is) is (record_of.committed.1 wrote.0) member in_session in
    late (elim has_none [
      | inl none ↦ absurd (none (at + 1) there within)
      | inr (last, is_last, stands) ↦ before_last last is_last stands (is_last.greatest (at + 1) there within)
    ])) wrote.1)
  where
    before_last : (last : ℕ) → IsLastUpTo (numbers_at writers cell) limit last → (last ≡ from) ⊎ (slice_index survey.places.now.at.items last < slice_index survey.places.now.at.items from) → at + 1 ≤ last →
        place_of survey.order.now (at + 1) < place_of survey.order.now from
    before_last last is_last stands up =
        let of = is_scene.lists_are.sound txn.session writers cell last in_session is_last.is in
        let number = of.number_is in
        let below = of.below in
        let count = is_scene.txns_are.count in
        let small : last ≤ begun survey.events.now = omega arith in
        let first : slice_index survey.places.now.at.items last ≡ place_of survey.order.now last = light.places_are.each last (omega arith) in
        let second : slice_index survey.places.now.at.items from ≡ place_of survey.order.now from = light.places_are.each from (omega arith) in
        let here = record_at survey.events.now scene.txns.now is_scene.txns_are (at + 1) at txn refl is in
        let there = record_at survey.events.now scene.txns.now is_scene.txns_are last of.place of.txn of.number_is of.is in
        elim (cases_eq (at + 1) last) [
          | inl same ↦
              let places_same : place_of survey.order.now (at + 1) ≡ place_of survey.order.now last = ap (λ (n : ℕ). place_of survey.order.now n) same in
              elim stands [
                | inl source ↦ absurd (other (same ∙ source))
                | inr less ↦ omega arith
              ]
          | inr apart ↦
              let less = less_in_session survey.events.now survey.order.now is_scene.sessions (at + 1) last txn of.txn here there (omega arith) (sym of.session_is) in
              elim stands [
                | inl source ↦ let places_same : place_of survey.order.now last ≡ place_of survey.order.now from = ap (λ (n : ℕ). place_of survey.order.now n) source in omega arith
                | inr following ↦ omega arith
              ]
        ]

-- ---- a rival of a read

-- none that precedes the reader causally is a rival at the cell, where its session up to the last one in the past has no late writer of it
pub none_unmet :
    (survey : Survey) (scene : Scene) → IsSurvey survey → IsScene survey scene → (event : Event) (place reader : ℕ) → IsReadAt survey.events.now place event reader → (past : Past) →
    IsPastOf survey.events.now scene.pasts.now.width reader past → (other : ℕ) → PrecedesCausally survey.events.now other reader → (cell : Cell) → (unmet : IsUnmet survey.events.now survey.order.now place (origin_of event) other reader cell) →
    ((txn : Txn) → IsRecordOf survey.events.now other txn → HasNoLate survey.places.now.at.items (listed_at scene.lists.now.writers.items txn.session cell) (slice_index past.tops.items txn.session) (origin_of event)) → ⊥
none_unmet survey scene light is_scene event place reader read past is_past other causal cell unmet has_none =
    let bounds = rival_bounds survey.events.now survey.order.now place event reader other light.holds read (cell, unmet) in
    let low = bounds.0 in let high = bounds.1 in
    let size = is_scene.txns_are.count in
    elim (slice_get_cases scene.txns.now (other - 1)).1 [
      | inr beyond ↦ let far = beyond.0 in absurd (omega arith)
      | inl (txn, near, is, same_value) ↦
          let number : other - 1 + 1 ≡ other = omega arith in
          let record_of = record_at survey.events.now scene.txns.now is_scene.txns_are other (other - 1) txn number is in
          let up : other ≤ slice_index past.tops.items txn.session = (is_past.exact txn.session other record_of.place record_of.started).1 causal in
          let inside = is_scene.within (other - 1) txn is in
          elim (slice_get_cases scene.lists.now.writers.items txn.session).1 [
            | inr beyond ↦ let far = beyond.0 in absurd (omega arith)
            | inl (writers, close, row, value) ↦
                let none : HasNoLate survey.places.now.at.items (numbers_at writers cell) (slice_index past.tops.items txn.session) (origin_of event) =
                subst (λ (ns : List ℕ). HasNoLate survey.places.now.at.items ns (slice_index past.tops.items txn.session) (origin_of event)) (ap (λ (o : Option CellWriters). numbers_in o cell) row)
                (has_none txn record_of) in
                unmet.late (subst (λ (n : ℕ). StandsBefore survey.order.now n (origin_of event)) number
                (none_late survey scene light is_scene writers cell (slice_index past.tops.items txn.session) (origin_of event) (other - 1) txn read.from is row none (omega arith)
                (λ same. unmet.other (sym number ∙ same)) (subst (λ (n : ℕ). Writes survey.events.now n cell) (sym number) unmet.writes)))
          ]
    ]

-- the cell of a rival of a read is the one that is read
pub read_cell :
    (events : List Event) (order : List ℕ) (s : ℕ) (cell : Cell) (from count word : ℕ) (value : Value) (place reader other : ℕ) (of : Cell) →
    IsReadAt events place (Read s cell from count word value) reader → IsUnmet events order place from other reader of → cell ≡ of
read_cell events order s cell from count word value place reader other of read unmet =
    let both : Some unmet.reads.event ≡ Some (Read s cell from count word value) = sym unmet.reads.of_reader.is ∙ read.of.is in
    let same : unmet.reads.event ≡ Read s cell from count word value = cc in
    (subst (λ (e : Event). Gives e of from) same unmet.reads.gives).0

-- none that precedes the reader causally, where no session up to its last one in the past has a late writer
pub clear_from :
    (survey : Survey) (scene : Scene) → IsSurvey survey → IsScene survey scene → (s : ℕ) (cell : Cell) (from count word : ℕ) (value : Value) (place reader : ℕ) →
    IsReadAt survey.events.now place (Read s cell from count word value) reader → (past : Past) → IsPastOf survey.events.now scene.pasts.now.width reader past → (other : ℕ) →
    PrecedesCausally survey.events.now other reader →
    ((txn : Txn) → IsRecordOf survey.events.now other txn → HasNoLate survey.places.now.at.items (listed_at scene.lists.now.writers.items txn.session cell) (slice_index past.tops.items txn.session) from) →
    IsRival survey.events.now survey.order.now place from reader other → ⊥
clear_from survey scene light is_scene s cell from count word value place reader read past is_past other causal has_none (of, unmet) =
    none_unmet survey scene light is_scene (Read s cell from count word value) place reader read past is_past other causal of unmet
    (λ txn record_of. subst (λ (c : Cell). HasNoLate survey.places.now.at.items (listed_at scene.lists.now.writers.items txn.session c) (slice_index past.tops.items txn.session) from)
    (read_cell survey.events.now survey.order.now s cell from count word value place reader other of read unmet) (has_none txn record_of))

pub past_clear :
    (survey : Survey) (scene : Scene) → IsSurvey survey → IsScene survey scene → (s : ℕ) (cell : Cell) (from count word : ℕ) (value : Value) (place reader : ℕ) →
    IsReadAt survey.events.now place (Read s cell from count word value) reader → (past : Past) → IsPastOf survey.events.now scene.pasts.now.width reader past →
    ((session : ℕ) → session < length scene.lists.now.writers.items → HasNoLate survey.places.now.at.items (listed_at scene.lists.now.writers.items session cell) (slice_index past.tops.items session) from) →
    HasNoRival survey.events.now survey.order.now place (Read s cell from count word value) reader
past_clear survey scene light is_scene s cell from count word value place reader read past is_past has_none other rival =
    let bounds = rival_bounds survey.events.now survey.order.now place (Read s cell from count word value) reader other light.holds read rival in
    let visible = rival.1.visible in
    clear_from survey scene light is_scene s cell from count word value place reader read past is_past other
    (visible_is_causal survey.events.now reader place other visible.level visible.sees)
    (λ txn record_of. has_none txn.session
    (session_within survey scene light is_scene other bounds.0 bounds.1 txn record_of)) rival

-- none of the reader's session
pub own_clear :
    (survey : Survey) (scene : Scene) → IsSurvey survey → IsScene survey scene → (s : ℕ) (cell : Cell) (from count word : ℕ) (value : Value) (place reader : ℕ) →
    IsReadAt survey.events.now place (Read s cell from count word value) reader → (past : Past) → IsPastOf survey.events.now scene.pasts.now.width reader past → (own : Txn) → IsRecordOf survey.events.now reader own →
    HasNoLate survey.places.now.at.items (listed_at scene.lists.now.writers.items own.session cell) (slice_index past.tops.items own.session) from →
    (other : ℕ) → IsSessionOrdered survey.events.now other reader → IsRival survey.events.now survey.order.now place from reader other → ⊥
own_clear survey scene light is_scene s cell from count word value place reader read past is_past own own_is has_none other ordered rival =
    let bounds = rival_bounds survey.events.now survey.order.now place (Read s cell from count word value) reader other light.holds read rival in
    clear_from survey scene light is_scene s cell from count word value place reader read past is_past other
    (direct_is_causal survey.events.now other reader (inl ordered))
    (λ txn record_of.
    subst (λ (n : ℕ). HasNoLate survey.places.now.at.items (listed_at scene.lists.now.writers.items n cell) (slice_index past.tops.items n) from)
    (sym (records_from_ordered survey.events.now other reader txn own bounds.0 record_of own_is ordered)) has_none)
    rival

-- ---- scans

-- the cell of a rival of a scan is a presence of the table that isn't listed
scan_cell : (s table : ℕ) (keys : List Key) (cell : Cell) → Gives (Scan s table keys) cell 0 → (key : Key) × (cell ≡ Presence table key) × (Contains keys key → ⊥)
scan_cell s table keys (Presence of_table key) gives = (key, ap (λ (n : ℕ). Presence n key) gives.0, gives.1)
scan_cell s table keys (Field of_table key column) gives = absurd gives

pub scanned :
    (events : List Event) (order : List ℕ) (s table : ℕ) (keys : List Key) (place reader other : ℕ) (cell : Cell) → IsReadAt events place (Scan s table keys) reader →
    IsUnmet events order place 0 other reader cell → (key : Key) × (cell ≡ Presence table key) × (Contains keys key → ⊥)
scanned events order s table keys place reader other cell read unmet =
    let both : Some unmet.reads.event ≡ Some (Scan s table keys) = sym unmet.reads.of_reader.is ∙ read.of.is in
    let same : unmet.reads.event ≡ Scan s table keys = cc in
    scan_cell s table keys cell (subst (λ (e : Event). Gives e cell 0) same unmet.reads.gives)

-- none that precedes the reader causally, where each key is listed whose presence the transactions of its session up to the last one in the past wrote
scan_clear_from :
    (survey : Survey) (scene : Scene) → IsSurvey survey → IsScene survey scene → (s table : ℕ) (keys : List Key)
    (place reader : ℕ) → IsReadAt survey.events.now place (Scan s table keys) reader → (past : Past) → IsPastOf survey.events.now scene.pasts.now.width reader past → (other : ℕ) →
    PrecedesCausally survey.events.now other reader →
    ((txn : Txn) → IsRecordOf survey.events.now other txn → (firsts : TableFirsts) → slice_get scene.lists.now.firsts.items txn.session ≡ Some firsts →
    ListsUpTo (firsts_at firsts table) keys (slice_index past.tops.items txn.session)) →
    IsRival survey.events.now survey.order.now place 0 reader other → ⊥
scan_clear_from survey scene light is_scene s table keys place reader read past is_past other causal lists_all (of, unmet) =
    let cell = scanned survey.events.now survey.order.now s table keys place reader other of read unmet in
    none_unmet survey scene light is_scene (Scan s table keys) place reader read past is_past other causal of unmet
    (λ txn record_of. subst (λ (c : Cell). HasNoLate survey.places.now.at.items (listed_at scene.lists.now.writers.items txn.session c) (slice_index past.tops.items txn.session) 0) (sym cell.1)
    (none_unlisted survey.places.now.at.items scene.lists.now.writers.items (length scene.txns.now) scene.lists.now.firsts.items is_scene.firsts_are txn.session table keys (slice_index past.tops.items txn.session) 0 (lists_all txn record_of) cell.0 cell.2))

pub scan_clear :
    (survey : Survey) (scene : Scene) → IsSurvey survey → IsScene survey scene → (s table : ℕ) (keys : List Key)
    (place reader : ℕ) → IsReadAt survey.events.now place (Scan s table keys) reader → (past : Past) → IsPastOf survey.events.now scene.pasts.now.width reader past →
    PastIsListed scene.lists.now.firsts.items past.tops.items table keys → HasNoRival survey.events.now survey.order.now place (Scan s table keys) reader
scan_clear survey scene light is_scene s table keys place reader read past is_past lists_all other rival =
    let visible = rival.1.visible in
    scan_clear_from survey scene light is_scene s table keys place reader read past is_past other
    (visible_is_causal survey.events.now reader place other visible.level visible.sees) (λ txn record_of. lists_all txn.session) rival

-- none of the reader's session
pub own_scan_clear :
    (survey : Survey) (scene : Scene) → IsSurvey survey → IsScene survey scene → (s table : ℕ) (keys : List Key)
    (place reader : ℕ) → IsReadAt survey.events.now place (Scan s table keys) reader → (past : Past) → IsPastOf survey.events.now scene.pasts.now.width reader past → (own : Txn) → IsRecordOf survey.events.now reader own →
    ((firsts : TableFirsts) → slice_get scene.lists.now.firsts.items own.session ≡ Some firsts → ListsUpTo (firsts_at firsts table) keys (slice_index past.tops.items own.session)) →
    (other : ℕ) → IsSessionOrdered survey.events.now other reader → IsRival survey.events.now survey.order.now place 0 reader other → ⊥
own_scan_clear survey scene light is_scene s table keys place reader read past is_past own own_is lists_all other ordered rival =
    let bounds = rival_bounds survey.events.now survey.order.now place (Scan s table keys) reader other light.holds read rival in
    scan_clear_from survey scene light is_scene s table keys place reader read past is_past other
    (direct_is_causal survey.events.now other reader (inl ordered))
    (λ txn record_of.
    subst (λ (n : ℕ). (firsts : TableFirsts) → slice_get scene.lists.now.firsts.items n ≡ Some firsts → ListsUpTo (firsts_at firsts table) keys (slice_index past.tops.items n))
    (sym (records_from_ordered survey.events.now other reader txn own bounds.0 record_of own_is ordered)) lists_all)
    rival

-- ---- sources

pub harmless_step :
    (survey : Survey) (read : ReadAt) (n : ℕ) (all : List Seen) (seen : Seen) → slice_get all n ≡ Some seen → IsHarmless survey read seen → AreHarmless survey read n all →
    AreHarmless survey read (n + 1) all
harmless_step survey read n all seen is here before at other below at_is =
    elim (cases_eq at n) [
      | inr apart ↦ before at other (omega arith) at_is
      | inl same ↦
          let both : Some other ≡ Some seen = sym at_is ∙ ap (λ (k : ℕ). slice_get all k) same ∙ is in
          let one : other ≡ seen = cc in
          subst (λ (x : Seen). IsHarmless survey read x) (sym one) here
    ]

pub sources_clear :
    (survey : Survey) (read : ReadAt) → IsSurvey survey → IsReadIn survey read → (txn : Txn) → IsRecordOf survey.events.now read.reader txn →
    AreHarmless survey read (length txn.seen) txn.seen → (other : ℕ) → ReadsFrom survey.events.now other read.reader → IsRivalOf survey read other → ⊥
sources_clear survey read light is_read txn is all other from rival =
    let bounds = bounds_of survey read light is_read other rival in
    let any = record_reads_from survey.events.now read.reader other txn bounds.0 is from in
    all any.0 any.1 any.2 (slice_get_read txn.seen (length txn.seen) any.0 any.1 refl any.2 (sym any.3)) other any.4 rival

-- none of the first n of these was read from a rival before the read
abbrev pub AreHarmlessEarly : Survey → ReadAt → ℕ → List Seen → Type 0
AreHarmlessEarly survey read n all =
    (at : ℕ) (seen : Seen) (other : ℕ) → at < n → slice_get all at ≡ Some seen → number_of seen < read.place + 1 → IsReadFrom seen other → IsRivalOf survey read other → ⊥

pub early_none : (survey : Survey) (read : ReadAt) (all : List Seen) → AreHarmlessEarly survey read 0 all
early_none survey read all at seen other below is early from rival = absurd (omega arith)

pub early_step :
    (survey : Survey) (read : ReadAt) (n : ℕ) (all : List Seen) (seen : Seen) → slice_get all n ≡ Some seen →
    ((other : ℕ) → number_of seen < read.place + 1 → IsReadFrom seen other → IsRivalOf survey read other → ⊥) → AreHarmlessEarly survey read n all →
    AreHarmlessEarly survey read (n + 1) all
early_step survey read n all seen is here before at last other below at_is early from rival =
    elim (cases_eq at n) [
      | inr apart ↦ before at last other (omega arith) at_is early from rival
      | inl same ↦
          let both : Some last ≡ Some seen = sym at_is ∙ ap (λ (k : ℕ). slice_get all k) same ∙ is in
          let one : last ≡ seen = cc in
          here other (subst (λ (x : Seen). number_of x < read.place + 1) one early) (subst (λ (x : Seen). IsReadFrom x other) one from) rival
    ]

pub early_sources_clear :
    (survey : Survey) (read : ReadAt) → IsSurvey survey → IsReadIn survey read → (txn : Txn) → IsRecordOf survey.events.now read.reader txn →
    ((at : ℕ) (seen : Seen) (other : ℕ) → slice_get txn.seen at ≡ Some seen → number_of seen < read.place + 1 → IsReadFrom seen other → IsRivalOf survey read other → ⊥) →
    (other : ℕ) → ReadsBefore survey.events.now read.reader read.place other → IsRivalOf survey read other → ⊥
early_sources_clear survey read light is_read txn is all other before rival =
    let bounds = bounds_of survey read light is_read other rival in
    let any = record_before survey.events.now read.reader read.place other txn bounds.0 is before in
    all any.0 any.1 other (slice_get_read txn.seen (length txn.seen) any.0 any.1 refl any.2 (sym any.3)) any.4.0 any.4.1 rival

-- ---- by levels

pub clear_at_rc :
    (survey : Survey) (read : ReadAt) (txn : Txn) → IsRecordOf survey.events.now read.reader txn → txn.level ≡ Rc →
    ((other : ℕ) → ReadsBefore survey.events.now read.reader read.place other → IsRivalOf survey read other → ⊥) → IsUnrivalled survey read
clear_at_rc survey read txn is level none other rival =
    let runs : RunsAt survey.events.now read.reader Rc = subst (λ (l : Level). RunsAt survey.events.now read.reader l) level is.level in
    none other ((visible_at survey.events.now read.reader read.place other Rc runs).1 rival.1.visible) rival

pub clear_at_ra :
    (survey : Survey) (read : ReadAt) (txn : Txn) → IsRecordOf survey.events.now read.reader txn → txn.level ≡ Ra → HasNoDirectRival survey read → IsUnrivalled survey read
clear_at_ra survey read txn is level none other rival =
    let runs : RunsAt survey.events.now read.reader Ra = subst (λ (l : Level). RunsAt survey.events.now read.reader l) level is.level in
    none other ((visible_at survey.events.now read.reader read.place other Ra runs).1 rival.1.visible) rival

-- ---- what is shown of the event that a read is

pub read_as :
    (survey : Survey) (read : ReadAt) (event : Event) → read.event.now ≡ event → IsReadIn survey read → IsReadAt survey.events.now read.place event read.reader
read_as survey read event same is = subst (λ (e : Event). IsReadAt survey.events.now read.place e read.reader) same is

pub unrivalled_as :
    (survey : Survey) (read : ReadAt) (event : Event) → read.event.now ≡ event → HasNoRival survey.events.now survey.order.now read.place event read.reader → IsUnrivalled survey read
unrivalled_as survey read event same none = subst (λ (e : Event). HasNoRival survey.events.now survey.order.now read.place e read.reader) (sym same) none
