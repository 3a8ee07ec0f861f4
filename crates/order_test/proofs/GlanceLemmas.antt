-- How what is light goes on standing for the events.
use Rattle.std.proofs.Common.{◌≡◌, ℕ, ◌+◌, ◌-◌, ◌<◌, ◌≤◌, List, [], ◌∷◌, ◌++◌, Bool, false, length, get_or, set, take, replicate, arith, refl, ap, sym, ◌∙◌, subst, inl, inr, ◌⊎◌}
use Rattle.std.specs.Prelude.{IsTrue}
use Rattle.std.proofs.lemmas.List.{length_push, length-set, length-append, length-replicate, get_or-replicate, get_or_append_left, get_or-append_right, get_or_push, take_all}
use Rattle.std.proofs.lemmas.Bool.{cases_eq, cases_lt, false≢true}
use Rattle.txn_buffer.proofs.Lists.{slice_get_push_cases}
use Rattle.graph_base.specs.Order.{place_of}
use Rattle.graph_base.proofs.Chains.{last_pair}
use Rattle.cell_base.specs.declared.level.Level.{Level}
use Rattle.cell_base.specs.declared.cell.Cell.{Cell}
use Rattle.cell_base.specs.declared.value.Value.{Value}
use Rattle.history_core.specs.declared.event.Event.{Event}
use Rattle.history_core.specs.declared.event.Event.TheVariants.{Begin, Read}
use Rattle.history_core.specs.Events.{begun, is_begin, session_in}
use Rattle.history_core.specs.Transactions.{IsStart, IsPending}
use Rattle.history_core.specs.Relations.{Precedes, PrecedesCausally}
use Rattle.history_core.proofs.Grown.{start_back}
use Rattle.history_core.proofs.Prefixes.{IsSound, start_bounded, begun-push_start, begun-push_other}
use Rattle.saturation.specs.Laws.{with_read}
use Rattle.saturation.proofs.Decides.{start_exists}
use Rattle.further_reads.specs.Begun.{ForcesNothing, with_begin, IsLastBegun}
use Rattle.further_reads.proofs.Lasts.{last_begun_none, last_begun_still, last_begun_other, last_begun_now}
use Rattle.further_reads.proofs.Sources.{begins_nothing}
use Rattle.order_test.specs.declared.glance.Glance.{Glance}
use Rattle.order_test.specs.Unkept.{KeepsSessions, StandsBefore}
use Rattle.order_test.specs.Places.{ArePlaces, StandsAt}
use Rattle.order_test.specs.Glance.{AreWithin, HoldsLast, IsWidened, AreOwners, AreLimits, IsScan, TellsScans, IsNoted, IsGlance, AddsLimit, RaisesLimit}
use Rattle.order_test.proofs.Closing.{read_past_back, other_past_back, begun_first, begin_past_back, begin_past_new}
use Rattle.order_test.proofs.PastSteps.{at_set}
use Rattle.order_test.proofs.SearchLemmas.{less_unless}

-- ---- the last transactions of sessions

within_push : (events : List Event) (e : Event) (width : ℕ) → session_in e < width → AreWithin width events → AreWithin width (events ++ e ∷ [])
within_push events e width here within k f at = elim (slice_get_push_cases events e k f at) [
  | inl before ↦ within k f before.1
  | inr now ↦ subst (λ (g : Event). session_in g < width) now.1 here
]

pub last_still :
    (events : List Event) (e : Event) (last : List ℕ) → is_begin e ≡ false → session_in e < length last → HoldsLast events last → HoldsLast (events ++ e ∷ []) last
last_still events e last none here holds = record {
  some = holds.some;
  within = within_push events e (length last) here holds.within;
  each = λ s small. last_begun_still events e s (get_or last s 0) none (holds.each s small);
}

pub last_begins :
    (events : List Event) (s : ℕ) (level : Level) (last : List ℕ) → s < length last → HoldsLast events last →
    HoldsLast (with_begin events s level) (set last s (begun events + 1))
last_begins events s level last here holds =
    let long : length (set last s (begun events + 1)) ≡ length last = length-set last s (begun events + 1) in
    let some : 0 < length last = holds.some in
    record {
      some = omega arith;
      within = subst (λ (n : ℕ). AreWithin n (with_begin events s level)) (sym long) (within_push events (Begin s level) (length last) here holds.within);
      each = λ t small. elim (at_set last s (begun events + 1) t here) [
        | inl same ↦
            subst (λ (m : ℕ). IsLastBegun (with_begin events s level) t m) (sym same.1)
            (subst (λ (r : ℕ). IsLastBegun (with_begin events s level) r (begun events + 1)) (sym same.0) (last_begun_now events s level))
        | inr other ↦
            subst (λ (m : ℕ). IsLastBegun (with_begin events s level) t m) (sym other.1)
            (last_begun_other events s level t (get_or last t 0) other.0 (holds.each t (omega arith)))
      ];
    }

-- ---- room for the last transactions

pub widened :
    (width size : ℕ) (old new : List ℕ) → size ≡ length old → length old ≤ width → new ≡ take width old ++ replicate {A = ℕ} (width - size) 0 → IsWidened width old new
widened width size old new same wider is =
    let more : List ℕ = replicate {A = ℕ} (width - size) 0 in
    let front : take width old ≡ old = take_all width old wider in
    let whole : new ≡ old ++ more = is ∙ ap (λ (xs : List ℕ). xs ++ more) front in
    let all : length new ≡ length (old ++ more) = ap length whole in
    let sum : length (old ++ more) ≡ length old + length more = length-append old more in
    let long : length more ≡ width - size = length-replicate (width - size) 0 in
    record {
      wider = wider;
      count = omega arith;
      kept = λ s small. ap (λ (xs : List ℕ). get_or xs s 0) whole ∙ get_or_append_left old more 0 s small;
      zeros = λ s past small.
          let right : get_or (old ++ more) s 0 ≡ get_or more (s - length old) 0 = get_or-append_right old more (length old) s 0 refl past in
          let zero : get_or more (s - length old) 0 ≡ 0 = get_or-replicate (width - size) (s - length old) 0 0 (omega arith) in
          ap (λ (xs : List ℕ). get_or xs s 0) whole ∙ right ∙ zero;
    }

-- a session that no event is one of has begun none
none_begun : (events : List Event) (s width : ℕ) → AreWithin width events → width ≤ s → IsLastBegun events s 0
none_begun events s width within past = record {
  is = inl refl;
  latest = λ other place start. let h : s < width = within place (Begin s start.level) start.is in absurd (omega arith);
}

pub last_widened : (events : List Event) (width : ℕ) (old new : List ℕ) → IsWidened width old new → HoldsLast events old → HoldsLast events new
last_widened events width old new is holds =
    let some : 0 < length old = holds.some in
    let wider : length old ≤ width = is.wider in
    let long : length new ≡ width = is.count in
    record {
      some = omega arith;
      within = λ k e at. let h : session_in e < length old = holds.within k e at in omega arith;
      each = λ s small. elim (cases_lt s (length old)) [
        | inl here ↦ subst (λ (n : ℕ). IsLastBegun events s n) (sym (is.kept s here)) (holds.each s here)
        | inr past ↦ subst (λ (n : ℕ). IsLastBegun events s n) (sym (is.zeros s past (omega arith))) (none_begun events s (length old) holds.within past)
      ];
    }

pub room_widened : (e : Event) (session : ℕ) (old new : List ℕ) → session ≡ session_in e → IsWidened (session + 1) old new → session_in e < length new
room_widened e session old new same is = let long : length new ≡ session + 1 = is.count in omega arith

-- ---- limits of causal pasts

pub limits_still : (events : List Event) (e : Event) (limits : List ℕ) → ForcesNothing e → AreLimits events limits → AreLimits (events ++ e ∷ []) limits
limits_still events e limits nothing are =
    let same : begun (events ++ e ∷ []) ≡ begun events = begun-push_other events e (begins_nothing e nothing) in
    record {
      count = let c = are.count in omega arith;
      each = λ n bounded a chain. are.each n (omega arith) a (other_past_back events e nothing a n chain);
    }

limit_begin :
    (events : List Event) → IsSound events → (s last : ℕ) (level : Level) (limits : List ℕ) (limit : ℕ) → IsLastBegun events s last → last ≤ begun events → last ≤ limit →
    get_or limits last 0 ≤ limit → AreLimits events limits → (a : ℕ) → PrecedesCausally (with_begin events s level) a (begun events + 1) → a ≤ limit
limit_begin events sound s last level limits limit is bounded high top are a chain =
    elim (cases_lt (begun events) a) [
      | inl above ↦ absurd (begun_first events sound s level a above (begun events + 1) chain)
      | inr within ↦ elim (cases_eq a 0) [
        | inl zero ↦ omega arith
        | inr other ↦
            let found = start_exists events a (omega arith) (omega arith) in
            elim (begin_past_new events sound s last level is a found.0 found.1.0 found.1.1 chain) [
              | inl own ↦ let h = own.1 in omega arith
              | inr on ↦ let h = are.each last bounded a on in omega arith
            ]
      ]
    ]

limits_begin :
    (events : List Event) → IsSound events → (s last : ℕ) (level : Level) (limits : List ℕ) (limit : ℕ) → IsLastBegun events s last → last ≤ limit → get_or limits last 0 ≤ limit →
    AreLimits events limits → AreLimits (with_begin events s level) (limits ++ limit ∷ [])
limits_begin events sound s last level limits limit is high top are =
    let more : begun (with_begin events s level) ≡ begun events + 1 = begun-push_start events s level in
    let long : length (limits ++ limit ∷ []) ≡ length limits + 1 = length_push limits limit in
    let bounded : last ≤ begun events = elim is.is [ inl none ↦ omega arith | inr found ↦ start_bounded events last s found.0 found.1 ] in
    record {
      count = let c = are.count in omega arith;
      each = λ n small a chain. elim (cases_lt (begun events) n) [
        | inr old ↦
            let same : get_or (limits ++ limit ∷ []) n 0 ≡ get_or limits n 0 = get_or_append_left limits (limit ∷ []) 0 n (let c = are.count in omega arith) in
            let h = are.each n (omega arith) a (begin_past_back events sound s level a n (omega arith) chain) in omega arith
        | inl new ↦
            let number : n ≡ begun events + 1 = omega arith in
            let here : get_or (limits ++ limit ∷ []) n 0 ≡ limit = get_or_push limits limit 0 n (let c = are.count in omega arith) in
            let h = limit_begin events sound s last level limits limit is bounded high top are a
            (subst (λ (m : ℕ). PrecedesCausally (with_begin events s level) a m) number chain) in omega arith
      ];
    }

pub limits_read :
    (events : List Event) → IsSound events → (s k : ℕ) (x : Cell) (w n u : ℕ) (v : Value) → IsPending events k s → (w ≡ k → ⊥) → k ≤ begun events → w ≤ begun events →
    (old new : List ℕ) → RaisesLimit k w old new → AreLimits events old → AreLimits (with_read events s x w n u v) new
limits_read events sound s k x w n u v pending apart reader source old new raises are =
    let same : begun (with_read events s x w n u v) ≡ begun events = begun-push_other events (Read s x w n u v) refl in
    let inside : k < length old = let c = are.count in omega arith in
    let high = raises.top in
    let high_source = high.0 in
    let high_limit = high.1 in
    let own = raises.own in
    rw raises.set_to record {
      count = length-set old k raises.limit ∙ are.count ∙ ap (λ (m : ℕ). m + 1) (sym same);
      each = λ m small a chain. elim (read_past_back events sound s k x w n u v pending apart a m chain) [
        | inl before ↦
            let h = are.each m (omega arith) a before in
            elim (at_set old k raises.limit m inside) [
              | inl here ↦
                  let now = here.1 in
                  let values : get_or old m 0 ≡ get_or old k 0 = ap (λ (i : ℕ). get_or old i 0) here.0 in omega arith
              | inr other ↦ let now = other.1 in omega arith
            ]
        | inr into ↦ elim (at_set old k raises.limit m inside) [
          | inr other ↦ absurd (other.0 into.0)
          | inl here ↦
              let now = here.1 in
              elim into.1 [
                | inl one ↦ omega arith
                | inr on ↦ let h = are.each w source a on in omega arith
              ]
        ]
      ];
    }

-- ---- session order

pub keeps_none : (order : List ℕ) → KeepsSessions [] order
keeps_none order a b out = let none = out.ordered.started.is in cc

pub keeps_still : (events : List Event) (e : Event) (order : List ℕ) → is_begin e ≡ false → KeepsSessions events order → KeepsSessions (events ++ e ∷ []) order
keeps_still events e order none keeps a b out =
    let so = out.ordered in
    keeps a b record {
      ordered = record {
        earlier = so.earlier;
        place = so.place;
        session = so.session;
        started = old b so.session so.place so.started;
        same = elim so.same [ inl initial ↦ inl initial | inr other ↦ inr (other.0, old a so.session other.0 other.1) ];
      };
      late = out.late;
    }
  where
    old : (k s p : ℕ) → IsStart (events ++ e ∷ []) k s p → IsStart events k s p
    old k s p start = elim (start_back events e k s p start) [ inl before ↦ before | inr new ↦ absurd (false≢true (sym none ∙ ap is_begin new.is)) ]

pub keeps_begin :
    (events : List Event) (s last : ℕ) (level : Level) (order : List ℕ) → IsLastBegun events s last → StandsBefore order last (begun events + 1) → KeepsSessions events order →
    KeepsSessions (with_begin events s level) order
keeps_begin events s last level order is stands keeps a b out =
    let so = out.ordered in
    let up = so.earlier in
    elim (start_back events (Begin s level) b so.session so.place so.started) [
      | inl old_b ↦
          let bounded : b ≤ begun events = start_bounded events b so.session so.place old_b in
          keeps a b record {
            ordered = record {
              earlier = so.earlier;
              place = so.place;
              session = so.session;
              started = old_b;
              same = elim so.same [ inl initial ↦ inl initial | inr other ↦ inr (other.0, old a so.session other.0 (omega arith) other.1) ];
            };
            late = out.late;
          }
      | inr new_b ↦
          let number = new_b.counts in
          let session : so.session ≡ s = sym (ap session_in new_b.is) in
          let same : (a ≡ 0) ⊎ ((q : ℕ) × IsStart events a s q) =
          elim so.same [
            | inl initial ↦ inl initial
            | inr other ↦ inr (other.0, subst (λ (r : ℕ). IsStart events a r other.0) session (old a so.session other.0 (omega arith) other.1))
          ]
          in
          let below : a ≤ last = elim same [ inl initial ↦ omega arith | inr started ↦ is.latest a started.0 started.1 ] in
          let place_b : place_of order b ≡ place_of order (begun events + 1) = ap (λ (n : ℕ). place_of order n) number in
          elim (cases_eq a last) [
            | inl one ↦
                let place_a : place_of order a ≡ place_of order last = ap (λ (n : ℕ). place_of order n) one in
                out.late (omega arith)
            | inr apart ↦ elim is.is [
              | inl none ↦ absurd (omega arith)
              | inr found ↦
                  let less : place_of order a < place_of order last =
                  less_unless (place_of order a) (place_of order last) (λ late.
                  keeps a last record {
                    ordered = record { earlier = omega arith; place = found.0; session = s; started = found.1; same = same };
                    late = late;
                  })
                  in
                  out.late (omega arith)
            ]
          ]
    ]
  where
    old : (k r p : ℕ) → k < begun events + 1 → IsStart (with_begin events s level) k r p → IsStart events k r p
    old k r p less start = elim (start_back events (Begin s level) k r p start) [ inl before ↦ before | inr new ↦ let c = new.counts in absurd (omega arith) ]

-- places tell what stands before what
pub stands_from : (size : ℕ) (order places : List ℕ) → ArePlaces size order places → (a b : ℕ) → StandsAt places a b → StandsBefore order a b
stands_from size order places are a b at =
    let c = are.count in
    let in_a = at.first_in in
    let in_b = at.second_in in
    let less = at.before in
    let first : get_or places a 0 ≡ place_of order a = are.each a (omega arith) in
    let second : get_or places b 0 ≡ place_of order b = are.each b (omega arith) in omega arith

-- ---- scans

pub scans_push : (events : List Event) (e : Event) (told : Bool) → (IsScan e → IsTrue told) → TellsScans events told → TellsScans (events ++ e ∷ []) told
scans_push events e told here before k f at scan = elim (slice_get_push_cases events e k f at) [
  | inl old ↦ before k f old.1 scan
  | inr new ↦ here (subst (λ (g : Event). IsScan g) (sym new.1) scan)
]

-- ---- all of it

pub glance_none :
    (order : List ℕ) (glance : Glance) → glance.last.items ≡ 0 ∷ [] → glance.owners.items ≡ [] → glance.limits.items ≡ 0 ∷ [] → IsGlance [] order glance
glance_none order glance lasts owners limits = record {
  last =
      let first : List ℕ = 0 ∷ [] in
      let one : length first ≡ 1 = refl in
      subst (λ (xs : List ℕ). HoldsLast [] xs) (sym lasts) record {
        some = omega arith;
        within = λ k event is. cc;
        each = λ s small.
            let number : s ≡ 0 = omega arith in
            let zero : get_or first s 0 ≡ 0 = ap (λ (i : ℕ). get_or first i 0) number in
            subst (λ (n : ℕ). IsLastBegun [] s n) (sym zero) (last_begun_none s);
      };
  owners = record { count = ap length owners; each = λ k event is. cc };
  limits = record {
    count = ap length limits;
    each = λ number small writer chain.
        let pair = last_pair (Precedes []) writer number chain in
        absurd (none pair.before number pair.is);
  };
  keeps = λ h. keeps_none order;
  scans = λ k event is. cc;
}
  where
    none : (a b : ℕ) → Precedes [] a b → ⊥
    none a b (inl so) = let is = so.started.is in cc
    none a b (inr wr) = let is = wr.reads.of_reader.is in cc

pub glance_still :
    (events : List Event) (order : List ℕ) (e : Event) (owner : ℕ) (glance : Glance) → ForcesNothing e → (IsScan e → ⊥) → IsNoted events order e owner glance → IsGlance (events ++ e ∷ []) order glance
glance_still events order e owner glance nothing none_scan noted =
    let none : is_begin e ≡ false = begins_nothing e nothing in
    record {
      last = last_still events e glance.last.items none noted.within noted.last;
      owners = noted.owners;
      limits = limits_still events e glance.limits.items nothing noted.limits;
      keeps = λ h. keeps_still events e order none (noted.keeps h);
      scans = scans_push events e glance.scans (λ scan. absurd (none_scan scan)) noted.scans;
    }

pub glance_begin :
    (events : List Event) → IsSound events → (order places : List ℕ) (s : ℕ) (level : Level) (last : ℕ) (old new : Glance) → ArePlaces (length places) order places →
    IsNoted events order (Begin s level) last old → AddsLimit places s last old new → IsGlance (with_begin events s level) order new
glance_begin events sound order places s level last old new are noted adds =
    let number : length old.limits.items ≡ begun events + 1 = noted.limits.count in
    let lasts : set old.last.items s (begun events + 1) ≡ new.last.items = ap (λ (n : ℕ). set old.last.items s n) (sym number) ∙ sym adds.last_is in
    record {
      last =
          subst (λ (xs : List ℕ). HoldsLast (with_begin events s level) xs) lasts
          (last_begins events s level old.last.items noted.within noted.last);
      owners = subst (λ (xs : List ℕ). AreOwners (with_begin events s level) xs) (sym adds.owners) noted.owners;
      limits =
          subst (λ (xs : List ℕ). AreLimits (with_begin events s level) xs) (sym adds.limits)
          (limits_begin events sound s last level old.limits.items adds.limit noted.of adds.top.0 adds.top.1 noted.limits);
      keeps = λ h.
          let both = adds.keeps h in
          keeps_begin events s last level order noted.of
          (subst (λ (n : ℕ). StandsBefore order last n) number (stands_from (length places) order places are last (length old.limits.items) both.1)) (noted.keeps both.0);
      scans =
          subst (λ (told : Bool). TellsScans (with_begin events s level) told) (sym adds.scans)
          (scans_push events (Begin s level) old.scans (λ scan. absurd scan) noted.scans);
    }
