-- The pairs that reads demand by what they see, and those that the axiom at a level demands.
use Rattle.std.proofs.Common.{◌≡◌, ℕ, ◌+◌, ◌<◌, ◌≤◌, List, ◌-◌, Some, None, Option, length, slice_index_or, arith, refl, ap, sym, ◌∙◌, subst, inl, inr, ◌⊎◌, ◌↔◌}
use Rattle.std.specs.List.{Any}
use Rattle.std.proofs.lemmas.List.{length_push, get_or_past}
use Rattle.std.proofs.lemmas.Option.{slice_get_within}
use Rattle.std.proofs.lemmas.Bool.{cases_lt}
use Rattle.graph_base.specs.declared.Edge.{Edge}
use Rattle.cell_base.specs.declared.level.Level.{Level}
use Rattle.cell_base.specs.declared.cell.Cell.{Cell}
use Rattle.cell_base.specs.declared.key.Key.{Key}
use Rattle.cell_base.specs.declared.value.Value.{Value}
use Rattle.cell_base.specs.declared.value.Value.TheVariants.{Null}
use Rattle.history_core.specs.declared.event.Event.{Event}
use Rattle.history_core.specs.declared.event.Event.TheVariants.{Read}
use Rattle.history_core.specs.declared.txn.Seen.{Seen}
use Rattle.history_core.specs.declared.txn.Seen.TheVariants.{Read as SeenRead}
use Rattle.history_core.specs.declared.txn.Txn.{Txn}
use Rattle.history_core.specs.declared.txn.TxnState.TheVariants.{Committed}
use Rattle.history_core.specs.Events.{begun}
use Rattle.history_core.specs.Transactions.{RunsAt, IsPending}
use Rattle.history_core.specs.Relations.{Writes, Gives, Reads, Precedes, IsVisibleAt, IsVisible}
use Rattle.history_core.specs.Records.{seen_of, Saw, IsRecordOf}
use Rattle.history_core.specs.Forced.{IsDemandOf, IsTrial}
use Rattle.history_core.proofs.Places.{runs_unique}
use Rattle.history_core.proofs.Grown.{runs_kept, of_back}
use Rattle.history_core.proofs.Prefixes.{IsSound, of_kept}
use Rattle.history_core.proofs.Offers.{writer_bounded}
use Rattle.history_core.proofs.Next.{of_new}
use Rattle.saturation.specs.Laws.{with_read}
use Rattle.saturation.specs.Views.{number_of, source_of, IsUnlisted}
use Rattle.saturation.proofs.Sights.{any_from_contains, gives_from_seen, seen_from_gives, seen_number, written_from_record, none_from_record, writes_later}
use Rattle.saturation.proofs.After.{size_after, writes_kept, writes_before}
use Rattle.saturation.proofs.Decides.{committed_bounded, reader_positive}
use Rattle.axiom_base.specs.Axioms.{AreVisibleAt, DemandsAt, IsTrialAt, AreTrialAt}
use Rattle.axiom_base.specs.Sights.{WritesUnlisted, IsAfter, Sees, IsSightOf, IsSight, IsSightWith, AreAllWith, IsDemandedBy, IsDemandedOf, IsTrialIn, IsTarget, AreGathered, IsFirstBelow}

-- ---- what one read sees

-- reads see transactions that have a place in the list alone
pub seen_within : (since : List (Option ℕ)) (number writer : ℕ) → Sees since number writer → writer < length since
seen_within since number writer sees =
    elim (cases_lt writer (length since)) [
      | inl within ↦ within
      | inr past ↦ absurd (subst (λ (o : Option ℕ). IsAfter o number) (get_or_past since writer None past) sees)
    ]

-- the initial transaction is before all others
pub nothing_precedes_initial : (events : List Event) (a b : ℕ) → b ≡ 0 → Precedes events a b → ⊥
nothing_precedes_initial events a b initial (inl so) = let h = so.earlier in absurd (omega arith)
nothing_precedes_initial events a b initial (inr wr) = let h = reader_positive events b wr.place wr.cell a wr.reads in absurd (omega arith)

none_before_first : (o : Option ℕ) (number : ℕ) → number ≡ 0 → IsAfter o number → ⊥
none_before_first None number none after = after
none_before_first (Some event) number none after = absurd (omega arith)

pub visible_list :
    (level : Level) (events : List Event) (reader number : ℕ) (since : List (Option ℕ)) (writers : List ℕ) → IsSight level events reader since →
    AreAllWith (Sees since number) writers → AreVisibleAt level events reader number writers
visible_list level events reader number since writers sight are = record {
  ascending = are.ascending;
  exact = λ writer. (
    λ member.
        let sees : Sees since number writer = (are.exact writer).0 member in
        elim (cases_lt 0 number) [
          | inr none ↦ absurd (none_before_first (slice_index_or since writer None) number (omega arith) sees)
          | inl positive ↦
              let at : number ≡ (number - 1) + 1 = omega arith in
              record {
                place = number - 1;
                number_is = at;
                sees = ((sight ((number - 1) + 1)).exact (number - 1) writer (omega arith)).0 (subst (λ (n : ℕ). Sees since n writer) at sees);
              }
        ],
    λ seen.
        let sees : Sees since (seen.place + 1) writer = ((sight (seen.place + 1)).exact seen.place writer (omega arith)).1 seen.sees in
        (are.exact writer).1 (subst (λ (n : ℕ). Sees since n writer) (sym seen.number_is) sees),
  );
}

-- ---- one read

-- the history `now` has the writers of `events`
pub demands_from_read :
    (level : Level) (events now : List Event) (reader limit : ℕ) (since : List (Option ℕ)) → IsSightOf level now reader limit since →
    ((a : ℕ) (x : Cell) → Writes events a x → Writes now a x) → (seen : Seen) → (saw : Saw now reader seen) → saw.place < limit → (a b : ℕ) →
    IsDemandedBy events since seen a b → DemandsAt level now reader a b
demands_from_read level events now reader limit since sight writes seen saw within a b is =
    let number : number_of seen ≡ saw.place + 1 = seen_number saw.event (saw.place + 1) seen saw.shows in
    let sees : Sees since (saw.place + 1) a = subst (λ (n : ℕ). Sees since n a) number is.sees in
    let gives : Gives saw.event is.rival.cell b =
    subst (λ (n : ℕ). Gives saw.event is.rival.cell n) (sym is.second_is) (gives_from_seen saw.event (saw.place + 1) seen is.rival.cell saw.shows is.rival.shows) in
    record {
      place = saw.place;
      cell = is.rival.cell;
      reads = record { event = saw.event; of_reader = saw.of; gives = gives };
      other = λ same. is.rival.other (same ∙ is.second_is);
      writes = writes a is.rival.cell is.rival.writes;
      sees = (sight.exact saw.place a within).0 sees;
    }

pub read_from_demands :
    (level : Level) (events now : List Event) (reader limit : ℕ) (since : List (Option ℕ)) → IsSightOf level now reader limit since →
    ((a : ℕ) (x : Cell) → Writes now a x → Writes events a x) → (a b : ℕ) → (d : DemandsAt level now reader a b) → d.place < limit →
    (seen : Seen) × (Saw now reader seen × IsDemandedBy events since seen a b)
read_from_demands level events now reader limit since sight wrote a b d within =
    let some = seen_from_gives d.reads.event (d.place + 1) d.cell b d.reads.gives in
    let sees : Sees since (d.place + 1) a = (sight.exact d.place a within).1 d.sees in (
      some.0,
      (
        record { place = d.place; event = d.reads.event; of = d.reads.of_reader; shows = some.1.shown },
        record {
          second_is = some.1.source_is;
          sees = subst (λ (n : ℕ). Sees since n a) (sym some.1.number_is) sees;
          rival = record {
            cell = d.cell;
            shows = some.1.shows;
            other = λ equal. d.other (equal ∙ sym some.1.source_is);
            writes = wrote a d.cell d.writes;
          };
        },
      ),
    )

-- ---- the reads of the record

pub demanded_from_record :
    (events : List Event) (k : ℕ) (txn : Txn) (since : List (Option ℕ)) (a b : ℕ) → IsRecordOf events k txn →
    Any (λ s. IsDemandedBy events since s a b) txn.seen → IsDemandedOf events k since a b
demanded_from_record events k txn since a b is (i, seen, within, at, demands) =
    record { seen = seen; saw = (is.seen seen).0 (i, within, at); demands = demands }

pub record_demanded :
    (events : List Event) (k : ℕ) (txn : Txn) (since : List (Option ℕ)) (a b : ℕ) → IsRecordOf events k txn → IsDemandedOf events k since a b →
    Any (λ s. IsDemandedBy events since s a b) txn.seen
record_demanded events k txn since a b is demanded =
    any_from_contains (λ s. IsDemandedBy events since s a b) txn.seen demanded.seen ((is.seen demanded.seen).1 demanded.saw) demanded.demands

pub target_from_record :
    (events : List Event) (k : ℕ) (txn : Txn) (n : ℕ) → IsRecordOf events k txn → Any (λ s. n ≡ source_of s) txn.seen →
    (seen : Seen) × Saw events k seen × (n ≡ source_of seen)
target_from_record events k txn n is (i, seen, within, at, same) = (seen, (is.seen seen).0 (i, within, at), same)

pub record_target :
    (events : List Event) (k : ℕ) (txn : Txn) (n : ℕ) (seen : Seen) → IsRecordOf events k txn → Saw events k seen → n ≡ source_of seen →
    Any (λ s. n ≡ source_of s) txn.seen
record_target events k txn n seen is saw same = any_from_contains (λ s. n ≡ source_of s) txn.seen seen ((is.seen seen).1 saw) same

pub unlisted_from_record :
    (events : List Event) (k : ℕ) (txn : Txn) (table : ℕ) (keys : List Key) → IsRecordOf events k txn → txn.state ≡ Committed →
    Any (λ entry. IsUnlisted table keys entry.0) txn.buffer.writes → WritesUnlisted events table keys k
unlisted_from_record events k txn table keys is state (i, entry, within, at, unlisted) = record {
  cell = entry.0;
  unlisted = unlisted;
  writes = inr (is.committed.0 state, written_from_record events k txn entry.0 entry.1 is (i, within, at));
}

pub no_unlisted :
    (events : List Event) (k : ℕ) (txn : Txn) (table : ℕ) (keys : List Key) → 0 < k → IsRecordOf events k txn →
    (Any (λ entry. IsUnlisted table keys entry.0) txn.buffer.writes → ⊥) → WritesUnlisted events table keys k → ⊥
no_unlisted events k txn table keys positive is none writes =
    none_from_record events k txn writes.cell is
    (λ v member. none (any_from_contains (λ entry. IsUnlisted table keys entry.0) txn.buffer.writes (writes.cell, v) member writes.unlisted))
    (writes_later events k writes.cell positive writes.writes).1

-- ---- the further read

-- what the record shows, or the further read
saw_cases :
    (events : List Event) (s k : ℕ) (x : Cell) (w n u : ℕ) (v : Value) (seen : Seen) → Saw (with_read events s x w n u v) k seen →
    Saw events k seen ⊎ (seen ≡ SeenRead (length events + 1) x w)
saw_cases events s k x w n u v seen saw =
    elim (of_back events (Read s x w n u v) k saw.place saw.event saw.of) [
      | inl old ↦ inl record { place = saw.place; event = saw.event; of = old; shows = saw.shows }
      | inr new ↦
          let shown : seen_of (saw.place + 1) (Read s x w n u v) ≡ Some seen = subst (λ (e : Event). seen_of (saw.place + 1) e ≡ Some seen) (sym new.1) saw.shows in
          let both : Some (SeenRead (saw.place + 1) x w) ≡ Some seen = shown in
          let at : saw.place + 1 ≡ length events + 1 = ap (λ (p : ℕ). p + 1) new.0 in
          inr (let is : seen ≡ SeenRead (saw.place + 1) x w = cc in is ∙ ap (λ (q : ℕ). SeenRead q x w) at)
    ]

demands_now :
    (level : Level) (events : List Event) (reader : ℕ) (before : List (Option ℕ)) → IsSight level events reader before → (a b : ℕ) →
    IsDemandedOf events reader before a b → DemandsAt level events reader a b
demands_now level events reader before sight a b is =
    demands_from_read level events events reader (is.saw.place + 1) before (sight (is.saw.place + 1)) (λ c x writes. writes) is.seen is.saw (omega arith) a b is.demands

now_demands :
    (level : Level) (events : List Event) (reader : ℕ) (before : List (Option ℕ)) → IsSight level events reader before → (a b : ℕ) →
    DemandsAt level events reader a b → IsDemandedOf events reader before a b
now_demands level events reader before sight a b d =
    let found = read_from_demands level events events reader (d.place + 1) before (sight (d.place + 1)) (λ c x writes. writes) a b d (omega arith) in
    record { seen = found.0; saw = found.1.0; demands = found.1.1 }

pub trial_from_reads :
    (level : Level) (events : List Event) (s k : ℕ) (x : Cell) (w : ℕ) (before after : List (Option ℕ)) → IsPending events k s →
    IsSight level events k before → IsSightWith level events k x w after → (a b : ℕ) →
    IsTrialIn events k (SeenRead (length events + 1) x w) before after a b → IsTrialAt level events s k x w a b
trial_from_reads level events s k x w before after pending sight sight_with a b (inl link) = inl link
trial_from_reads level events s k x w before after pending sight sight_with a b (inr (demanded, none)) = inr (
  λ n u v.
      let now = with_read events s x w n u v in
      let see = sight_with s n u v pending in
      let writes : (c : ℕ) (y : Cell) → Writes events c y → Writes now c y = λ c y writes. writes_kept events (Read s x w n u v) c y writes in
      elim demanded [
        | inl old ↦
            let within : old.saw.place < length events = slice_get_within events old.saw.place old.saw.event old.saw.of.is in
            demands_from_read level events now k (length events + 1) after see writes old.seen record {
              place = old.saw.place;
              event = old.saw.event;
              of = of_kept events (Read s x w n u v) k old.saw.place old.saw.event old.saw.of;
              shows = old.saw.shows;
            } (omega arith) a b old.demands
        | inr new ↦
            demands_from_read level events now k (length events + 1) after see writes (SeenRead (length events + 1) x w) record {
              place = length events;
              event = Read s x w n u v;
              of = of_new events (Read s x w n u v) k pending;
              shows = refl;
            } (omega arith) a b new
      ],
  λ d. none (now_demands level events k before sight a b d),
)

pub reads_from_trial :
    (level : Level) (events : List Event) (s k : ℕ) (x : Cell) (w : ℕ) (before after : List (Option ℕ)) → IsPending events k s →
    IsSight level events k before → IsSightWith level events k x w after → (a b : ℕ) →
    IsTrialAt level events s k x w a b → IsTrialIn events k (SeenRead (length events + 1) x w) before after a b
reads_from_trial level events s k x w before after pending sight sight_with a b (inl link) = inl link
reads_from_trial level events s k x w before after pending sight sight_with a b (inr (demands, none)) =
    let now = with_read events s x w 0 0 Null in
    let d = demands 0 0 Null in
    let longer : length now ≡ length events + 1 = length_push events (Read s x w 0 0 Null) in
    let within : d.place < length now = slice_get_within now d.place d.reads.event d.reads.of_reader.is in
    let found = read_from_demands level events now k (length events + 1) after (sight_with s 0 0 Null pending)
    (λ c y writes. writes_before events s x w 0 0 Null c y writes) a b d (omega arith) in
    inr (
      elim (saw_cases events s k x w 0 0 Null found.0 found.1.0) [
        | inl old ↦ inl record { seen = found.0; saw = old; demands = found.1.1 }
        | inr same ↦ inr (subst (λ (y : Seen). IsDemandedBy events after y a b) same found.1.1)
      ],
      λ old. none (demands_now level events k before sight a b old),
    )

-- the list has a place for each transaction
pub sight_with_size :
    (level : Level) (events : List Event) (s k : ℕ) (x : Cell) (w : ℕ) (after : List (Option ℕ)) → IsPending events k s →
    IsSightWith level events k x w after → length after ≡ begun events + 1
sight_with_size level events s k x w after pending sight_with =
    (sight_with s 0 0 Null pending).size ∙ ap (λ (m : ℕ). m + 1) (size_after events s x w 0 0 Null)

-- ---- the numbers of these pairs

pub trial_first :
    (events : List Event) (k : ℕ) (further : Seen) (before after : List (Option ℕ)) → source_of further < begun events + 1 → (a b : ℕ) →
    IsTrialIn events k further before after a b → a < begun events + 1
trial_first events k further before after small a b (inl link) = let h = link.0 in omega arith
trial_first events k further before after small a b (inr (inl old, none)) = writer_bounded events a old.demands.rival.cell old.demands.rival.writes
trial_first events k further before after small a b (inr (inr new, none)) = writer_bounded events a new.rival.cell new.rival.writes

-- the second number is the reader, or the source of a read
pub trial_second :
    (events : List Event) → IsSound events → (k : ℕ) (further : Seen) (before after : List (Option ℕ)) → k ≤ begun events → source_of further ≤ begun events →
    (a b : ℕ) → IsTrialIn events k further before after a b → IsTarget events k further b
trial_second events sound k further before after bounded small a b (inl link) = let h = link.1 in (omega arith, inl h)
trial_second events sound k further before after bounded small a b (inr (inr new, none)) = let h = new.second_is in (omega arith, inr (inl h))
trial_second events sound k further before after bounded small a b (inr (inl old, none)) =
    let d = old.demands in
    let gives = gives_from_seen old.saw.event (old.saw.place + 1) old.seen d.rival.cell old.saw.shows d.rival.shows in
    let source = sound.sources k old.saw.place d.rival.cell (source_of old.seen) record { event = old.saw.event; of_reader = old.saw.of; gives = gives } in
    let h = committed_bounded events (source_of old.seen) source in
    let same = d.second_is in (omega arith, inr (inr (old.seen, old.saw, same)))

pub trial_whole :
    (level : Level) (events : List Event) (k : ℕ) (x : Cell) (w n : ℕ) (before after : List (Option ℕ)) (edges : List Edge) →
    w < begun events + 1 → begun events < n → AreGathered (IsTrialIn events k (SeenRead (length events + 1) x w) before after) (IsFirstBelow n) edges →
    IsSight level events k before → IsSightWith level events k x w after → AreTrialAt level events k x w edges
trial_whole level events k x w n before after edges small end gathered sight sight_with = record {
  ascending = gathered.ascending;
  exact = λ s pending e. (
    λ member. trial_from_reads level events s k x w before after pending sight sight_with e.before e.after (gathered.sound e member).1,
    λ is.
        let found = reads_from_trial level events s k x w before after pending sight sight_with e.before e.after is in
        let h = trial_first events k (SeenRead (length events + 1) x w) before after small e.before e.after found in
        gathered.whole e.before e.after (omega arith) found,
  );
}

-- ---- the level of the reader

pub own_visible :
    (events : List Event) (reader : ℕ) (level : Level) → RunsAt events reader level → (place writer : ℕ) →
    IsVisibleAt level events reader place writer ↔ IsVisible events reader place writer
own_visible events reader level runs place writer = (
  λ sees. record { level = level; runs = runs; sees = sees },
  λ visible. subst (λ (l : Level). IsVisibleAt l events reader place writer) (runs_unique events reader visible.level level visible.runs runs) visible.sees,
)

own_demands_on :
    (events : List Event) (reader : ℕ) (level : Level) → RunsAt events reader level → (a b : ℕ) → DemandsAt level events reader a b → IsDemandOf events reader a b
own_demands_on events reader level runs a b d = (
  record {
    reader = reader;
    place = d.place;
    cell = d.cell;
    reads = d.reads;
    other = d.other;
    writes = d.writes;
    visible = record { level = level; runs = runs; sees = d.sees };
  },
  refl,
)

own_demands_back :
    (events : List Event) (reader : ℕ) (level : Level) → RunsAt events reader level → (a b : ℕ) → IsDemandOf events reader a b → DemandsAt level events reader a b
own_demands_back events reader level runs a b (d, same) =
    let own : RunsAt events reader d.visible.level = subst (λ (r : ℕ). RunsAt events r d.visible.level) same d.visible.runs in
    let level_is : d.visible.level ≡ level = runs_unique events reader d.visible.level level own runs in
    record {
      place = d.place;
      cell = d.cell;
      reads = subst (λ (r : ℕ). Reads events r d.place d.cell b) same d.reads;
      other = d.other;
      writes = d.writes;
      sees = subst (λ (l : Level). IsVisibleAt l events reader d.place a) level_is (subst (λ (r : ℕ). IsVisibleAt d.visible.level events r d.place a) same d.visible.sees);
    }

pub own_demands :
    (events : List Event) (reader : ℕ) (level : Level) → RunsAt events reader level → (a b : ℕ) → DemandsAt level events reader a b ↔ IsDemandOf events reader a b
own_demands events reader level runs a b = (own_demands_on events reader level runs a b, own_demands_back events reader level runs a b)

pub own_trial :
    (events : List Event) (s k : ℕ) (level : Level) (x : Cell) (w : ℕ) → RunsAt events k level → (a b : ℕ) →
    IsTrialAt level events s k x w a b ↔ IsTrial events s k x w a b
own_trial events s k level x w runs a b = (
  λ trial. elim trial [
    | inl link ↦ inl link
    | inr new ↦ inr (
      λ n u v. own_demands_on (with_read events s x w n u v) k level (runs_kept events (Read s x w n u v) k level runs) a b (new.0 n u v),
      λ old. new.1 (own_demands_back events k level runs a b old),
    )
  ],
  λ trial. elim trial [
    | inl link ↦ inl link
    | inr new ↦ inr (
      λ n u v. own_demands_back (with_read events s x w n u v) k level (runs_kept events (Read s x w n u v) k level runs) a b (new.0 n u v),
      λ old. new.1 (own_demands_on events k level runs a b old),
    )
  ],
)
