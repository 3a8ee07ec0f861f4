-- The steps of the loops that list pairs.
use Rattle.std.proofs.Common.{◌≡◌, ℕ, ◌+◌, ◌<◌, ◌≤◌, List, [], Some, true, false, length, get_or, take, arith, refl, ap, sym, ◌∙◌, subst, inl, inr, ◌⊎◌}
use Rattle.std.specs.List.{slice_get, Contains}
use Rattle.std.proofs.lemmas.Option.{slice_get_within, get_or_from_slice_get}
use Rattle.std.proofs.lemmas.List.Sums.{count_by_more_yes, count_by_more_no}
use Rattle.std.proofs.lemmas.Bool.{cases_lt, cases_eq, false≢true}
use Rattle.txn_buffer.proofs.Lists.{at_contains}
use Rattle.graph_base.specs.declared.Edge.{Edge}
use Rattle.cell_base.specs.declared.level.Level.{Level}
use Rattle.history_core.specs.declared.event.Event.{Event}
use Rattle.history_core.specs.declared.event.Event.TheVariants.{Open, Close, Define, Look, Begin, Scan, Read, Own, Write, Commit, Rollback, Show}
use Rattle.history_core.specs.Events.{begun, is_begin, session_in}
use Rattle.history_core.specs.Forced.{IsPairList}
use Rattle.history_core.proofs.Offers.{writer_bounded}
use Rattle.saturation.specs.Pairs.{AddsPairs}
use Rattle.saturation.proofs.Adds.{adds_none, adds_as, adds_then, list_from_adds}
use Rattle.further_reads.specs.Begun.{IsLastBegun}
use Rattle.further_reads.proofs.Lasts.{last_begun_unique}
use Rattle.order_test.specs.Settled.{IsOrderly}
use Rattle.order_test.specs.Sights.{IsReadAt, IsReading, origin_of}
use Rattle.order_test.proofs.SearchLemmas.{one_reader}
use Rattle.cycle_report.specs.Reasons.{IsNext, IsReadFromAt}
use Rattle.cycle_report.specs.Views.{IsNews, IsListedAt, IsListedBelow, IsListed, IsNextAt, IsNextBelow}
use Rattle.cycle_report.proofs.Neighbours.{place_within}
use Rattle.cycle_report.proofs.Orders.{demand_read, read_place, listed_range}
use Rattle.cycle_report.proofs.DemandLemmas.{no_read_at, no_demand_at, source_at, demand_source}

below_cases : (a n : ℕ) → a < n + 1 → (a < n) ⊎ (a ≡ n)
below_cases a n below = elim (cases_lt a n) [ inl less ↦ inl less | inr more ↦ let same : a ≡ n = omega arith in inr same ]

-- ---- neighbours

pub begun_more : (events : List Event) (place : ℕ) (e : Event) → slice_get events place ≡ Some e → is_begin e ≡ true → begun (take (place + 1) events) ≡ begun (take place events) + 1
begun_more events place e is begins =
    let within : place < length events = slice_get_within events place e is in
    let at : is_begin (get_or events place e) ≡ true = ap is_begin (get_or_from_slice_get events place e e is) ∙ begins in
    count_by_more_yes is_begin events place e within at

pub begun_same : (events : List Event) (place : ℕ) (e : Event) → slice_get events place ≡ Some e → is_begin e ≡ false → begun (take (place + 1) events) ≡ begun (take place events)
begun_same events place e is none =
    let within : place < length events = slice_get_within events place e is in
    let at : is_begin (get_or events place e) ≡ false = ap is_begin (get_or_from_slice_get events place e e is) ∙ none in
    count_by_more_no is_begin events place e within at

-- the transaction that begins by the event at the place
begun_here :
    (events : List Event) (place : ℕ) (e : Event) (owner : ℕ) → slice_get events place ≡ Some e → is_begin e ≡ true → IsLastBegun (take place events) (session_in e) owner →
    IsNextAt events place owner (begun (take place events) + 1)
begun_here events place (Begin s level) owner is begins last = record {
  next = record { place = place; session = s; started = record { level = level; is = is; counts = refl }; last = last };
  at = refl;
}
begun_here events place (Open s) owner is begins last = absurd (false≢true begins)
begun_here events place (Close s) owner is begins last = absurd (false≢true begins)
begun_here events place (Define s name) owner is begins last = absurd (false≢true begins)
begun_here events place (Look s count) owner is begins last = absurd (false≢true begins)
begun_here events place (Scan s table keys) owner is begins last = absurd (false≢true begins)
begun_here events place (Read s x w n u v) owner is begins last = absurd (false≢true begins)
begun_here events place (Own s x v) owner is begins last = absurd (false≢true begins)
begun_here events place (Write s x v) owner is begins last = absurd (false≢true begins)
begun_here events place (Commit s) owner is begins last = absurd (false≢true begins)
begun_here events place (Rollback s) owner is begins last = absurd (false≢true begins)
begun_here events place (Show s number) owner is begins last = absurd (false≢true begins)

pub link_one :
    (events : List Event) (place : ℕ) (e : Event) (owner number : ℕ) (old new : List Edge) → slice_get events place ≡ Some e → is_begin e ≡ true →
    IsLastBegun (take place events) (session_in e) owner → number ≡ begun (take place events) + 1 → AddsPairs (λ a b. (a ≡ owner) × (b ≡ number)) old new →
    AddsPairs (IsNextAt events place) old new
link_one events place e owner number old new is begins last count adds =
    adds_as (λ a b. (a ≡ owner) × (b ≡ number)) (IsNextAt events place) old new
    (λ a b pair.
    subst (λ (n : ℕ). IsNextAt events place n b) (sym pair.0)
    (subst (λ (n : ℕ). IsNextAt events place owner n) (sym (pair.1 ∙ count)) (begun_here events place e owner is begins last)))
    (λ a b link. one a b link)
    adds
  where
    one : (a b : ℕ) → IsNextAt events place a b → (a ≡ owner) × (b ≡ number)
    one a b link =
        let start = link.next.started in
        let there : slice_get events place ≡ Some (Begin link.next.session start.level) =
        ap (λ (n : ℕ). slice_get events n) (sym link.at) ∙ start.is in
        let both : Some e ≡ Some (Begin link.next.session start.level) = sym is ∙ there in
        let same : e ≡ Begin link.next.session start.level = cc in
        let session : session_in e ≡ link.next.session = ap session_in same in
        let own : IsLastBegun (take place events) (session_in e) a =
        subst (λ (s : ℕ). IsLastBegun (take place events) s a) (sym session)
        (subst (λ (n : ℕ). IsLastBegun (take n events) link.next.session a) link.at link.next.last) in
        let counts : b ≡ begun (take place events) + 1 = start.counts ∙ ap (λ (n : ℕ). begun (take n events) + 1) link.at in
        (last_begun_unique (take place events) (session_in e) a owner own last, counts ∙ sym count)

pub link_none :
    (events : List Event) (place : ℕ) (e : Event) (edges : List Edge) → slice_get events place ≡ Some e → is_begin e ≡ false → AddsPairs (IsNextAt events place) edges edges
link_none events place e edges is none = adds_none (IsNextAt events place) edges (λ a b link.
    let start = link.next.started in
    let there : slice_get events place ≡ Some (Begin link.next.session start.level) =
    ap (λ (n : ℕ). slice_get events n) (sym link.at) ∙ start.is in
    let both : Some e ≡ Some (Begin link.next.session start.level) = sym is ∙ there in
    let same : e ≡ Begin link.next.session start.level = cc in
    false≢true (sym none ∙ ap is_begin same))

pub links_none : (events : List Event) (edges : List Edge) → AddsPairs (IsNextBelow events 0) edges edges
links_none events edges = adds_none (IsNextBelow events 0) edges (λ a b is. let h = is.below in absurd (omega arith))

pub links_more :
    (events : List Event) (n : ℕ) (old middle new : List Edge) → AddsPairs (IsNextBelow events n) old middle → AddsPairs (IsNextAt events n) middle new →
    AddsPairs (IsNextBelow events (n + 1)) old new
links_more events n old middle new before now =
    adds_then (IsNextBelow events n) (IsNextAt events n) (IsNextBelow events (n + 1)) old middle new
    (λ a b is. let h = is.below in record { next = is.next; below = omega arith })
    (λ a b is. let h = is.at in record { next = is.next; below = omega arith })
    (λ a b is. elim (below_cases is.next.place n is.below) [
      | inl less ↦ inl record { next = is.next; below = less }
      | inr same ↦ inr record { next = is.next; at = same }
    ])
    before now

pub links_whole :
    (events : List Event) (n : ℕ) (old new : List Edge) → length events ≤ n → AddsPairs (IsNextBelow events n) old new → AddsPairs (IsNext events) old new
links_whole events n old new end adds =
    adds_as (IsNextBelow events n) (IsNext events) old new (λ a b is. is.next)
    (λ a b next. let h = place_within events a b next in record { next = next; below = omega arith }) adds

-- ---- what one read demands

-- one pair, of which the relation holds
pub demand_one :
    (N : ℕ → ℕ → Type 0) (writer source after : ℕ) (old new : List Edge) → after ≡ source → N writer source →
    AddsPairs (λ a b. (a ≡ writer) × (b ≡ after)) old new → AddsPairs (λ a b. (a ≡ writer) × ((b ≡ source) × N a b)) old new
demand_one N writer source after old new same holds adds =
    adds_as (λ a b. (a ≡ writer) × (b ≡ after)) (λ a b. (a ≡ writer) × ((b ≡ source) × N a b)) old new
    (λ a b is. (
      is.0,
      (is.1 ∙ same, subst (λ (n : ℕ). N n b) (sym is.0) (subst (λ (n : ℕ). N writer n) (sym (is.1 ∙ same)) holds)),
    ))
    (λ a b is. (is.0, is.1.0 ∙ sym same))
    adds

pub demand_none :
    (N : ℕ → ℕ → Type 0) (writer source : ℕ) (edges : List Edge) → (N writer source → ⊥) →
    AddsPairs (λ a b. (a ≡ writer) × ((b ≡ source) × N a b)) edges edges
demand_none N writer source edges none =
    adds_none (λ a b. (a ≡ writer) × ((b ≡ source) × N a b)) edges
    (λ a b is. none (subst (λ (n : ℕ). N n source) is.0 (subst (λ (n : ℕ). N a n) is.1.0 is.1.1)))

pub news_source : (level : Level) (events : List Event) (place : ℕ) (event : Event) (a b : ℕ) → slice_get events place ≡ Some event → IsNews level events place a b →
    b ≡ origin_of event
news_source level events place event a b is news = demand_source level events place event a b is news.demands

-- the news of the writers from 1 up to n
pub record IsNewsUpTo (level : Level) (events : List Event) (place n first second : ℕ) : Type 0 where
  pub upto : first ≤ n
  pub news : IsNews level events place first second

pub demands_none : (level : Level) (events : List Event) (place : ℕ) (edges : List Edge) → AddsPairs (IsNewsUpTo level events place 0) edges edges
demands_none level events place edges =
    adds_none (IsNewsUpTo level events place 0) edges (λ a b is. let h = is.news.positive in let g = is.upto in absurd (omega arith))

pub demands_more :
    (level : Level) (events : List Event) (place : ℕ) (event : Event) (n : ℕ) (old middle new : List Edge) → slice_get events place ≡ Some event →
    AddsPairs (IsNewsUpTo level events place n) old middle →
    AddsPairs (λ a b. (a ≡ n + 1) × ((b ≡ origin_of event) × IsNews level events place a b)) middle new → AddsPairs (IsNewsUpTo level events place (n + 1)) old new
demands_more level events place event n old middle new is before now =
    adds_then (IsNewsUpTo level events place n) (λ a b. (a ≡ n + 1) × ((b ≡ origin_of event) × IsNews level events place a b))
    (IsNewsUpTo level events place (n + 1)) old middle new
    (λ a b of. let h = of.upto in record { upto = omega arith; news = of.news })
    (λ a b of. let h = of.0 in record { upto = omega arith; news = of.1.1 })
    (λ a b of. elim (cases_eq a (n + 1)) [
      | inl same ↦ inr (same, (news_source level events place event a b is of.news, of.news))
      | inr other ↦ let h = of.upto in inl record { upto = omega arith; news = of.news }
    ])
    before now

pub demands_whole :
    (level : Level) (events : List Event) (place n : ℕ) (old new : List Edge) → begun events ≤ n → AddsPairs (IsNewsUpTo level events place n) old new →
    AddsPairs (IsNews level events place) old new
demands_whole level events place n old new end adds =
    adds_as (IsNewsUpTo level events place n) (IsNews level events place) old new
    (λ a b is. is.news)
    (λ a b is.
    let h : a < begun events + 1 = writer_bounded events a is.demands.0 is.demands.1.writes in
    record { upto = omega arith; news = is })
    adds

-- the news of the first n of the writers
pub record IsNewsAmong (level : Level) (events : List Event) (place : ℕ) (numbers : List ℕ) (n first second : ℕ) : Type 0 where
  pub at : ℕ
  pub below : at < n
  pub is : slice_get numbers at ≡ Some first
  pub news : IsNews level events place first second

pub among_none : (level : Level) (events : List Event) (place : ℕ) (numbers : List ℕ) (edges : List Edge) → AddsPairs (IsNewsAmong level events place numbers 0) edges edges
among_none level events place numbers edges =
    adds_none (IsNewsAmong level events place numbers 0) edges (λ a b of. let h = of.below in absurd (omega arith))

pub among_more :
    (level : Level) (events : List Event) (place : ℕ) (event : Event) (numbers : List ℕ) (n number : ℕ) (old middle new : List Edge) →
    slice_get events place ≡ Some event → slice_get numbers n ≡ Some number → AddsPairs (IsNewsAmong level events place numbers n) old middle →
    AddsPairs (λ a b. (a ≡ number) × ((b ≡ origin_of event) × IsNews level events place a b)) middle new →
    AddsPairs (IsNewsAmong level events place numbers (n + 1)) old new
among_more level events place event numbers n number old middle new is here before now =
    adds_then (IsNewsAmong level events place numbers n) (λ a b. (a ≡ number) × ((b ≡ origin_of event) × IsNews level events place a b))
    (IsNewsAmong level events place numbers (n + 1)) old middle new
    (λ a b of. let h = of.below in record { at = of.at; below = omega arith; is = of.is; news = of.news })
    (λ a b of. record { at = n; below = omega arith; is = here ∙ ap (λ (k : ℕ). Some k) (sym of.0); news = of.1.1 })
    (λ a b of. elim (below_cases of.at n of.below) [
      | inl less ↦ inl record { at = of.at; below = less; is = of.is; news = of.news }
      | inr same ↦
          let both : Some number ≡ Some a = sym here ∙ ap (λ (k : ℕ). slice_get numbers k) (sym same) ∙ of.is in
          let one : a ≡ number = cc in
          inr (one, (news_source level events place event a b is of.news, of.news))
    ])
    before now

pub among_whole :
    (level : Level) (events : List Event) (place : ℕ) (numbers : List ℕ) (n : ℕ) (old new : List Edge) → length numbers ≤ n →
    ((a b : ℕ) → IsNews level events place a b → Contains numbers a) → AddsPairs (IsNewsAmong level events place numbers n) old new →
    AddsPairs (IsNews level events place) old new
among_whole level events place numbers n old new end whole adds =
    adds_as (IsNewsAmong level events place numbers n) (IsNews level events place) old new
    (λ a b is. is.news)
    (λ a b is.
    let found = at_contains numbers a (whole a b is) in
    let h = slice_get_within numbers found.0 a found.1 in
    record { at = found.0; below = omega arith; is = found.1; news = is })
    adds

-- ---- the pairs of one event

pub read_then :
    (level : Level) (events : List Event) (place : ℕ) (event : Event) (source reader : ℕ) (old middle new : List Edge) → IsOrderly events →
    IsReadAt events place event reader → IsReading event → source ≡ origin_of event → AddsPairs (λ a b. (a ≡ source) × (b ≡ reader)) old middle →
    AddsPairs (IsNews level events place) middle new → AddsPairs (IsListedAt level events place) old new
read_then level events place event source reader old middle new orderly read reading from before now =
    adds_then (λ a b. (a ≡ source) × (b ≡ reader)) (IsNews level events place) (IsListedAt level events place) old middle new
    (λ a b is. inl (
    subst (λ (n : ℕ). IsReadFromAt events place n b) (sym is.0)
    (subst (λ (n : ℕ). IsReadFromAt events place source n) (sym is.1)
    record { event = event; of_reader = read.of; reading = reading; source_is = from })))
    (λ a b is. inr is)
    (λ a b is. elim is [
      | inl other ↦
          let one = one_reader events orderly b reader place other.event event other.of_reader read.of in
          inl (source_at events place event a b read.of.is other ∙ sym from, one.1)
      | inr news ↦ inr news
    ])
    before now

pub event_none :
    (level : Level) (events : List Event) (place : ℕ) (event : Event) (edges : List Edge) → slice_get events place ≡ Some event → (IsReading event → ⊥) →
    AddsPairs (IsListedAt level events place) edges edges
event_none level events place event edges is none =
    adds_none (IsListedAt level events place) edges
    (λ a b listed. elim listed [
      | inl read ↦ no_read_at events place event a b is none read
      | inr news ↦ no_demand_at level events place event a b is none news.demands
    ])

-- ---- the pairs of all events

pub events_none : (level : Level) (events : List Event) (edges : List Edge) → AddsPairs (IsListedBelow level events 0) edges edges
events_none level events edges = adds_none (IsListedBelow level events 0) edges (λ a b is. let h = is.below in absurd (omega arith))

pub events_more :
    (level : Level) (events : List Event) (n : ℕ) (old middle new : List Edge) → AddsPairs (IsListedBelow level events n) old middle →
    AddsPairs (IsListedAt level events n) middle new → AddsPairs (IsListedBelow level events (n + 1)) old new
events_more level events n old middle new before now =
    adds_then (IsListedBelow level events n) (IsListedAt level events n) (IsListedBelow level events (n + 1)) old middle new
    (λ a b is. let h = is.below in record { place = is.place; below = omega arith; listed = is.listed })
    (λ a b is. record { place = n; below = omega arith; listed = is })
    (λ a b is. elim (below_cases is.place n is.below) [
      | inl less ↦ inl record { place = is.place; below = less; listed = is.listed }
      | inr same ↦ inr (subst (λ (p : ℕ). IsListedAt level events p a b) same is.listed)
    ])
    before now

listed_place : (level : Level) (events : List Event) (place a b : ℕ) → IsListedAt level events place a b → place < length events
listed_place level events place a b (inl read) = read_place events place a b read
listed_place level events place a b (inr news) =
    read_place events place b news.demands.1.reader (demand_read level events place news.demands.0 a b news.demands.1)

pub events_whole :
    (level : Level) (events : List Event) (n : ℕ) (old new : List Edge) → length events ≤ n → AddsPairs (IsListedBelow level events n) old new →
    AddsPairs (IsListedBelow level events (length events)) old new
events_whole level events n old new end adds =
    adds_as (IsListedBelow level events n) (IsListedBelow level events (length events)) old new
    (λ a b is. record { place = is.place; below = listed_place level events is.place a b is.listed; listed = is.listed })
    (λ a b is. let h = is.below in record { place = is.place; below = omega arith; listed = is.listed })
    adds

-- ---- all pairs

pub pairs_are :
    (level : Level) (events : List Event) (links edges : List Edge) → IsOrderly events → AddsPairs (IsNext events) [] links →
    AddsPairs (IsListedBelow level events (length events)) links edges → IsPairList (IsListed level events) (begun events + 1) edges
pairs_are level events links edges orderly first second =
    list_from_adds (IsListed level events) (begun events + 1) edges (listed_range level events orderly)
    (adds_then (IsNext events) (IsListedBelow level events (length events)) (IsListed level events) [] links edges
    (λ a b is. inl is) (λ a b is. inr is) (λ a b is. is) first second)
