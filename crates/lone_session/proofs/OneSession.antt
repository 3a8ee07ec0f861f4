-- Where one session was opened, its transactions stand in the order of their numbers.
use Rattle.std.proofs.Common.{◌≡◌, ℕ, ◌+◌, ◌<◌, ◌≤◌, List, [], ◌∷◌, ◌++◌, Some, true, cond, length, get_or, take, arith, refl, ap, sym, ◌∙◌, subst, inl, inr, ◌⊎◌}
use Rattle.std.specs.List.{slice_get, Contains}
use Rattle.std.proofs.lemmas.List.{length-take-le}
use Rattle.std.proofs.lemmas.List.Sums.{count_by_more_yes, sum_by-take-le}
use Rattle.std.proofs.lemmas.Option.{slice_get_within, slice_get-get_or, get_or_from_slice_get}
use Rattle.std.proofs.lemmas.Bool.{cases_order, cases_lt}
use Rattle.graph_base.specs.Order.{place_of}
use Rattle.graph_base.specs.Chain.{IsChain}
use Rattle.cell_base.specs.declared.level.Level.{Level}
use Rattle.cell_base.specs.declared.level.Level.TheVariants.{Rc, Ra, Cc}
use Rattle.cell_base.specs.declared.cell.Cell.{Cell}
use Rattle.cell_base.specs.declared.value.Value.{Value}
use Rattle.cell_base.specs.declared.value.Value.TheVariants.{Unset}
use Rattle.history_core.specs.declared.event.Event.{Event}
use Rattle.history_core.specs.declared.event.Event.TheVariants.{Open, Begin, Read}
use Rattle.history_core.specs.Events.{begun, opened, is_open_event}
use Rattle.history_core.specs.Transactions.{IsStart, IsPending, RunsAt}
use Rattle.history_core.specs.Relations.{Writes, Reads, IsSessionOrdered, Precedes, IsVisibleAt, Demands, Meets, IsConsistent}
use Rattle.history_core.specs.Legal.{IsFormed, IsPermitted}
use Rattle.history_core.proofs.Places.{slice_get-take, runs_unique}
use Rattle.history_core.proofs.Grown.{runs_kept, pending_not_committed, reads_back, writes_back}
use Rattle.history_core.proofs.Prefixes.{start_positive, sound_of, begun-push_other, runs_still}
use Rattle.history_core.proofs.Offers.{pending_unique, precedes_read}
use Rattle.history_core.proofs.Next.{of_new}
use Rattle.lone_session.specs.Passed.{MaySee}
use Rattle.saturation.proofs.After.{writes_kept, precedes_kept, before_kept, before_back}

pub opened-take-le : (events : List Event) (i : ℕ) → opened (take i events) ≤ opened events
opened-take-le events i = sum_by-take-le (λ e. cond (is_open_event e) 1 0) events i

-- an opening raises the count
pub opened-take_past :
    (events : List Event) (session p : ℕ) → slice_get events p ≡ Some (Open session) → opened (take p events) + 1 ≤ opened events
opened-take_past events session p is =
    let within : p < length events = slice_get_within events p (Open session) is in
    let at : is_open_event (get_or events p (Open session)) ≡ true =
    ap is_open_event (get_or_from_slice_get events p (Open session) (Open session) is) in
    let more : opened (take (p + 1) events) ≡ opened (take p events) + 1 = count_by_more_yes is_open_event events p (Open session) within at in
    let on : opened (take (p + 1) events) ≤ opened events = opened-take-le events (p + 1) in
    omega arith

-- a transaction starts in a session that was opened
pub start_opened :
    (initial : List (Cell × Value)) (events : List Event) (k s p : ℕ) → IsFormed initial events → IsStart events k s p → (0 < s) × (s ≤ opened events)
start_opened initial events k s p formed start =
    let there : Contains (take p events) (Open s) = (formed p (Begin s start.level) start.is).follows.0.0 in
    let q : ℕ = there.0 in
    let at : slice_get (take p events) q ≡ Some (Open s) =
    slice_get-get_or (take p events) q (Open s) there.1 ∙ ap (λ (e : Event). Some e) there.2 in
    let inside : p < length events = slice_get_within events p (Begin s start.level) start.is in
    let short : length (take p events) ≡ p = length-take-le p events (omega arith) in
    let below : q < p = let h = there.1 in omega arith in
    let is : slice_get events q ≡ Some (Open s) = sym (slice_get-take events p q below) ∙ at in
    let counts : s ≡ opened (take q events) + 1 = (formed q (Open s) is).follows in
    let past : opened (take q events) + 1 ≤ opened events = opened-take_past events s q is in
    (omega arith, omega arith)

-- the initial transaction, or one that has started
abbrev pub IsBegun : List Event → ℕ → Type 0
IsBegun events k = (k ≡ 0) ⊎ ((s : ℕ) × ((p : ℕ) × IsStart events k s p))

-- a formed history of at most one session
pub record IsOneSession (initial : List (Cell × Value)) (events : List Event) : Type 0 where
  pub formed : IsFormed initial events
  pub one : opened events ≤ 1

-- the lower number is first in session order
pub number_first :
    (initial : List (Cell × Value)) (events : List Event) (a b : ℕ) → IsOneSession initial events → IsBegun events a → IsBegun events b → a < b →
    IsSessionOrdered events a b
number_first initial events a b is a_begun (inl first) less = absurd (omega arith)
number_first initial events a b is (inl first) (inr (s, (p, start))) less =
    record { earlier = less; place = p; session = s; started = start; same = inl first }
number_first initial events a b is (inr (t, (q, other))) (inr (s, (p, start))) less =
    let first = start_opened initial events a t q is.formed other in
    let second = start_opened initial events b s p is.formed start in
    let same : t ≡ s = let h = first.0 in let i = first.1 in let j = second.0 in let k = second.1 in let l = is.one in omega arith in
    record {
      earlier = less;
      place = p;
      session = s;
      started = start;
      same = inr (q, subst (λ (u : ℕ). IsStart events a u q) same other);
    }

pub writer_begun : (events : List Event) (k : ℕ) (x : Cell) → Writes events k x → IsBegun events k
writer_begun events k x (inl initial) = inl initial
writer_begun events k x (inr own) = inr (own.0.session, (own.0.commit.start, own.0.commit.starts))

pub pending_begun : (events : List Event) (k s : ℕ) → IsPending events k s → IsBegun events k
pending_begun events k s pending = inr (s, (pending.start, pending.starts))

-- a writer is below the pending transaction
pub writer_below :
    (initial : List (Cell × Value)) (events : List Event) (s k w : ℕ) (x : Cell) → IsOneSession initial events → IsPending events k s → Writes events w x →
    IsSessionOrdered events w k
writer_below initial events s k w x is pending writes =
    let sound = sound_of initial events is.formed in
    let begun_w = writer_begun events w x writes in
    let begun_k = pending_begun events k s pending in
    elim (cases_order w k) [
      | inl same ↦ absurd (not_itself (subst (λ (n : ℕ). Writes events n x) same writes))
      | inr apart ↦ elim apart [
        | inl less ↦ number_first initial events w k is begun_w begun_k less
        | inr more ↦ absurd (sound.last k s w pending (number_first initial events k w is begun_k begun_w more))
      ]
    ]
  where
    not_itself : Writes events k x → ⊥
    not_itself (inl first) = let h = start_positive events k s pending.start pending.starts in absurd (omega arith)
    not_itself (inr own) = pending_not_committed events k s pending own.0

-- of two writers the lower one is first in session order
pub writers_first :
    (initial : List (Cell × Value)) (events : List Event) (a b : ℕ) (x : Cell) → IsOneSession initial events → Writes events a x → Writes events b x → a < b →
    IsSessionOrdered events a b
writers_first initial events a b x is writes_a writes_b less =
    number_first initial events a b is (writer_begun events a x writes_a) (writer_begun events b x writes_b) less

-- what the reader sees before its read, it saw without it
pub sees_back :
    (initial : List (Cell × Value)) (events : List Event) (s k : ℕ) (x : Cell) (w n u : ℕ) (v : Value) → IsOneSession initial events →
    IsPending events k s → Writes events w x → (level : Level) (r p a : ℕ) → p ≤ length events →
    IsVisibleAt level (events ++ Read s x w n u v ∷ []) r p a → IsVisibleAt level events r p a
sees_back initial events s k x w n u v is pending writes = sees
  where
    precedes : (a b : ℕ) → Precedes (events ++ Read s x w n u v ∷ []) a b → Precedes events a b
    precedes a b p =
        elim (precedes_read events (sound_of initial events is.formed) s k x w n u v pending a b p) [
          | inl old ↦ old
          | inr new ↦
              subst (λ (m : ℕ). Precedes events m b) (sym new.0)
              (subst (λ (m : ℕ). Precedes events w m) (sym new.1) (inl (writer_below initial events s k w x is pending writes)))
        ]

    chain : (a : ℕ) (between : List ℕ) (b : ℕ) → IsChain (Precedes (events ++ Read s x w n u v ∷ [])) a between b → IsChain (Precedes events) a between b
    chain a [] b link = precedes a b link
    chain a (m ∷ ms) b (link, rest) = (precedes a m link, chain m ms b rest)

    sees : (level : Level) (r p a : ℕ) → p ≤ length events → IsVisibleAt level (events ++ Read s x w n u v ∷ []) r p a → IsVisibleAt level events r p a
    sees Rc r p a within before = before_back events (Read s x w n u v) r p a within before
    sees Ra r p a within before = precedes a r before
    sees Cc r p a within before = record { between = before.between; is = chain a before.between r before.is }

-- a writer that the pending transaction sees is not above one that it may see
pub seen_below :
    (level : Level) (events : List Event) (k w a : ℕ) (x : Cell) → MaySee level events k x w → Writes events a x →
    IsVisibleAt level events k (length events) a → a ≤ w
seen_below Rc events k w a x may writes sees =
    elim (cases_lt w a) [
      | inl less ↦ absurd (may.1 record {
        later = a;
        above = less;
        writes = writes;
        read = record { place = sees.earlier; cell = sees.cell; reads = sees.reads };
      })
      | inr more ↦ more
    ]
seen_below Ra events k w a x may writes sees = may.last a writes
seen_below Cc events k w a x may writes sees = may.last a writes

pub may_write : (level : Level) (events : List Event) (k w : ℕ) (x : Cell) → MaySee level events k x w → Writes events w x
may_write Rc events k w x may = may.0
may_write Ra events k w x may = may.writes
may_write Cc events k w x may = may.writes

-- what a further read demands of an order that meets the history
demanded :
    (initial : List (Cell × Value)) (events : List Event) (s k w : ℕ) (level : Level) (x : Cell) (order : List ℕ) → IsOneSession initial events →
    Meets events order → IsPending events k s → RunsAt events k level → MaySee level events k x w → (n u : ℕ) (v : Value) (a b : ℕ) →
    Demands (events ++ Read s x w n u v ∷ []) a b → place_of order a < place_of order b
demanded initial events s k w level x order is meets pending runs may n u v a b d =
    elim (writes_back events (Read s x w n u v) a d.cell d.writes) [
      | inr new ↦ cc (new.1.0)
      | inl writes_a ↦
          elim (reads_back events (Read s x w n u v) d.reader d.place d.cell b d.reads) [
            | inl old ↦
                let within : d.place < length events = slice_get_within events d.place old.event old.of_reader.is in
                meets.demands a b record {
                  reader = d.reader;
                  place = d.place;
                  cell = d.cell;
                  reads = old;
                  other = d.other;
                  writes = writes_a;
                  visible = record {
                    level = d.visible.level;
                    runs = runs_still events (Read s x w n u v) d.reader d.visible.level refl d.visible.runs;
                    sees = sees_back initial events s k x w n u v is pending writes d.visible.level d.reader d.place a (omega arith) d.visible.sees;
                  };
                }
            | inr new ↦
                let at_end : d.place ≡ length events = new.0 in
                let reader_is : d.reader ≡ k = pending_unique events (sound_of initial events is.formed) s d.reader k new.1 pending in
                let sees : IsVisibleAt d.visible.level events d.reader d.place a =
                sees_back initial events s k x w n u v is pending writes d.visible.level d.reader d.place a (omega arith) d.visible.sees in
                let runs_d : RunsAt events k d.visible.level =
                subst (λ (m : ℕ). RunsAt events m d.visible.level) reader_is
                (runs_still events (Read s x w n u v) d.reader d.visible.level refl d.visible.runs) in
                let same_level : d.visible.level ≡ level = runs_unique events k d.visible.level level runs_d runs in
                let here : IsVisibleAt level events k (length events) a =
                subst (λ (l : Level). IsVisibleAt l events k (length events) a) same_level
                (subst (λ (m : ℕ). IsVisibleAt d.visible.level events m (length events) a) reader_is
                (subst (λ (p : ℕ). IsVisibleAt d.visible.level events d.reader p a) at_end sees)) in
                let writes_x : Writes events a x = subst (λ (y : Cell). Writes events a y) (sym new.2.0) writes_a in
                let low : a ≤ w = seen_below level events k w a x may writes_x here in
                let source_is : w ≡ b = new.2.1 in
                let apart : a ≡ w → ⊥ = λ same. d.other (same ∙ source_is) in
                let less : a < w = omega arith in
                let up : place_of order a < place_of order w = meets.precedes a w (inl (writers_first initial events a w x is writes_x writes less)) in
                let at_b : place_of order w ≡ place_of order b = ap (λ (m : ℕ). place_of order m) source_is in
                omega arith
          ]
    ]
  where
    writes : Writes events w x
    writes = may_write level events k w x may

-- what may be seen is permitted
pub seen_permitted :
    (initial : List (Cell × Value)) (events : List Event) (s k w : ℕ) (level : Level) (x : Cell) → IsOneSession initial events → IsConsistent events →
    IsPending events k s → RunsAt events k level → MaySee level events k x w → IsPermitted events s x w
seen_permitted initial events s k w level x is (order, meets) pending runs may = (writes, λ n u v. (order, still n u v))
  where
    writes : Writes events w x
    writes = may_write level events k w x may

    still : (n u : ℕ) (v : Value) → Meets (events ++ Read s x w n u v ∷ []) order
    still n u v =
        let size : begun (events ++ Read s x w n u v ∷ []) + 1 ≡ begun events + 1 = ap (λ (m : ℕ). m + 1) (begun-push_other events (Read s x w n u v) refl) in
        record {
          holds = rw size meets.holds;
          first = meets.first;
          precedes = λ a b p. elim (precedes_read events (sound_of initial events is.formed) s k x w n u v pending a b p) [
            | inl old ↦ meets.precedes a b old
            | inr new ↦
                let up : place_of order w < place_of order k = meets.precedes w k (inl (writer_below initial events s k w x is pending writes)) in
                let at_a : place_of order a ≡ place_of order w = ap (λ (m : ℕ). place_of order m) new.0 in
                let at_b : place_of order b ≡ place_of order k = ap (λ (m : ℕ). place_of order m) new.1 in
                omega arith
          ];
          demands = λ a b d. demanded initial events s k w level x order is meets pending runs may n u v a b d;
        }

-- what is permitted is not below a writer that a further read sees
overtaken :
    (initial : List (Cell × Value)) (events : List Event) (s k w : ℕ) (level : Level) (x : Cell) → IsOneSession initial events → IsPending events k s →
    RunsAt events k level → IsPermitted events s x w → (later : ℕ) → w < later → Writes events later x →
    IsVisibleAt level (events ++ Read s x w 0 0 Unset ∷ []) k (length events) later → ⊥
overtaken initial events s k w level x is pending runs permitted later above writes sees =
    let after = permitted.1 0 0 Unset in
    let order : List ℕ = after.0 in
    let here : Reads (events ++ Read s x w 0 0 Unset ∷ []) k (length events) x w =
    record { event = Read s x w 0 0 Unset; of_reader = of_new events (Read s x w 0 0 Unset) k pending; gives = (refl, refl) } in
    let back : place_of order later < place_of order w = after.1.demands later w record {
      reader = k;
      place = length events;
      cell = x;
      reads = here;
      other = λ same. absurd (omega arith);
      writes = writes_kept events (Read s x w 0 0 Unset) later x writes;
      visible = record { level = level; runs = runs_kept events (Read s x w 0 0 Unset) k level runs; sees = sees };
    } in
    let up : place_of order w < place_of order later =
    after.1.precedes w later (precedes_kept events (Read s x w 0 0 Unset) w later (inl (writers_first initial events w later x is permitted.0 writes above))) in
    omega arith

-- what is permitted may be seen
pub permitted_seen :
    (initial : List (Cell × Value)) (events : List Event) (s k w : ℕ) (level : Level) (x : Cell) → IsOneSession initial events → IsPending events k s →
    RunsAt events k level → IsPermitted events s x w → MaySee level events k x w
permitted_seen initial events s k w Rc x is pending runs permitted = (
  permitted.0,
  λ passed.
      let within : passed.read.place < length events = slice_get_within events passed.read.place passed.read.reads.event passed.read.reads.of_reader.is in
      overtaken initial events s k w Rc x is pending runs permitted passed.later passed.above passed.writes
      (before_kept events (Read s x w 0 0 Unset) k (length events) passed.later
      (record { earlier = passed.read.place; cell = passed.read.cell; below = within; reads = passed.read.reads })),
)
permitted_seen initial events s k w Ra x is pending runs permitted = record {
  writes = permitted.0;
  last = λ other writes. elim (cases_lt w other) [
    | inl less ↦ absurd (overtaken initial events s k w Ra x is pending runs permitted other less writes
        (precedes_kept events (Read s x w 0 0 Unset) other k (inl (writer_below initial events s k other x is pending writes))))
    | inr more ↦ more
  ];
}
permitted_seen initial events s k w Cc x is pending runs permitted = record {
  writes = permitted.0;
  last = λ other writes. elim (cases_lt w other) [
    | inl less ↦ absurd (overtaken initial events s k w Cc x is pending runs permitted other less writes (record {
      between = [];
      is = precedes_kept events (Read s x w 0 0 Unset) other k (inl (writer_below initial events s k other x is pending writes));
    }))
    | inr more ↦ more
  ];
}
