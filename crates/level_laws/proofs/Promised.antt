-- What a reader sees is before what it takes.
use Rattle.std.proofs.Common.{◌≡◌, ℕ, ◌<◌, List, [], arith, ap, sym, inl, inr}
use Rattle.std.proofs.lemmas.Bool.{cases_eq}
use Rattle.graph_base.specs.Order.{place_of}
use Rattle.cell_base.specs.declared.level.Level.TheVariants.{Ra, Cc}
use Rattle.cell_base.specs.declared.cell.Cell.{Cell}
use Rattle.history_core.specs.declared.event.Event.{Event}
use Rattle.history_core.specs.Transactions.{RunsAt}
use Rattle.history_core.specs.Relations.{Writes, Precedes, PrecedesCausally, IsVisible, Meets, IsConsistent}
use Rattle.history_core.proofs.Offers.{chain_forward}
use Rattle.level_laws.specs.Promises.{RunsAtomically, TakesCell, TakesWhole, TakesNoneOlder, LosesNoCause}

-- another writer that the read sees is before the one that it takes
before_taken :
    (events : List Event) (order : List ℕ) (reader : ℕ) (cell : Cell) (first second : ℕ) → Meets events order → (takes : TakesCell events reader cell first) →
    Writes events second cell → IsVisible events reader takes.place second → (second ≡ first → ⊥) → place_of order second < place_of order first
before_taken events order reader cell first second meets takes writes visible other =
    meets.demands second first record {
      reader = reader;
      place = takes.place;
      cell = cell;
      reads = takes.reads;
      other = other;
      writes = writes;
      visible = visible;
    }

sees_atomically : (events : List Event) (reader place writer : ℕ) → RunsAtomically events reader → Precedes events writer reader → IsVisible events reader place writer
sees_atomically events reader place writer (inl runs) precedes = record { level = Ra; runs = runs; sees = precedes }
sees_atomically events reader place writer (inr runs) precedes = record { level = Cc; runs = runs; sees = record { between = []; is = precedes } }

precedes_taken : (events : List Event) (reader : ℕ) (cell : Cell) (source : ℕ) → TakesCell events reader cell source → Precedes events source reader
precedes_taken events reader cell source takes = inr record { place = takes.place; cell = cell; reads = takes.reads }

pub takes_whole : (events : List Event) (reader : ℕ) → IsConsistent events → RunsAtomically events reader → TakesWhole events reader
takes_whole events reader (order, meets) runs cell beside first second one two first_cell first_beside second_cell second_beside =
    elim (cases_eq first second) [
      | inl same ↦ same
      | inr apart ↦
          let up : place_of order second < place_of order first =
          before_taken events order reader cell first second meets one second_cell
          (sees_atomically events reader one.place second runs (precedes_taken events reader beside second two)) (λ same. apart (sym same)) in
          let down : place_of order first < place_of order second =
          before_taken events order reader beside second first meets two first_beside
          (sees_atomically events reader two.place first runs (precedes_taken events reader cell first one)) apart in
          absurd (omega arith)
    ]

-- what a read sees isn't after what it takes
none_between :
    (events : List Event) (reader : ℕ) (cell : Cell) (first second : ℕ) → IsConsistent events → (takes : TakesCell events reader cell first) →
    Writes events second cell → IsVisible events reader takes.place second → PrecedesCausally events first second → ⊥
none_between events reader cell first second (order, meets) takes writes visible past =
    let up : place_of order first < place_of order second = chain_forward events order meets.precedes first past.between second past.is in
    elim (cases_eq second first) [
      | inl same ↦ let at : place_of order second ≡ place_of order first = ap (λ (n : ℕ). place_of order n) same in absurd (omega arith)
      | inr apart ↦
          let down : place_of order second < place_of order first =
          before_taken events order reader cell first second meets takes writes visible apart in
          absurd (omega arith)
    ]

pub takes_none_older : (events : List Event) (reader : ℕ) → IsConsistent events → RunsAtomically events reader → TakesNoneOlder events reader
takes_none_older events reader consistent runs cell first second precedes writes takes past =
    none_between events reader cell first second consistent takes writes (sees_atomically events reader takes.place second runs precedes) past

pub loses_no_cause : (events : List Event) (reader : ℕ) → IsConsistent events → RunsAt events reader Cc → LosesNoCause events reader
loses_no_cause events reader consistent runs cell first second seen writes takes past =
    none_between events reader cell first second consistent takes writes (record { level = Cc; runs = runs; sees = seen }) past
