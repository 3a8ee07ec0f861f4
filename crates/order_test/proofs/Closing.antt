-- What one further event changes in the causal past of a transaction.
use Rattle.std.proofs.Common.{◌≡◌, ℕ, ◌+◌, ◌<◌, ◌≤◌, List, [], ◌∷◌, ◌++◌, arith, refl, sym, ◌∙◌, subst, inl, inr, ◌⊎◌}
use Rattle.std.proofs.lemmas.Bool.{cases_order}
use Rattle.graph_base.specs.Chain.{IsChain, Chained}
use Rattle.graph_base.proofs.Chains.{chained_one, chained_first, chained_on, chained_wider, last_pair}
use Rattle.cell_base.specs.declared.level.Level.{Level}
use Rattle.cell_base.specs.declared.cell.Cell.{Cell}
use Rattle.cell_base.specs.declared.value.Value.{Value}
use Rattle.history_core.specs.declared.event.Event.{Event}
use Rattle.history_core.specs.declared.event.Event.TheVariants.{Begin, Read}
use Rattle.history_core.specs.Events.{begun}
use Rattle.history_core.specs.Transactions.{IsStart, IsPending}
use Rattle.history_core.specs.Relations.{Precedes, PrecedesCausally, IsSessionOrdered}
use Rattle.history_core.proofs.Places.{start_session}
use Rattle.history_core.proofs.Grown.{start_back, start_kept}
use Rattle.history_core.proofs.Prefixes.{IsSound, start_positive, start_bounded, pending_first, new_first}
use Rattle.history_core.proofs.Next.{pending_begin}
use Rattle.history_core.proofs.Offers.{precedes_read}
use Rattle.saturation.specs.Laws.{with_read}
use Rattle.saturation.proofs.After.{precedes_kept}
use Rattle.saturation.proofs.Decides.{precedes_range}
use Rattle.further_reads.specs.Begun.{ForcesNothing, with_begin, IsLastBegun}
use Rattle.further_reads.proofs.Begins.{begin_precedes}
use Rattle.further_reads.proofs.Pending.{chained_none}
use Rattle.further_reads.proofs.NewPairs.{with_precedes}
use Rattle.further_reads.proofs.Still.{others_precede}

-- ---- any relation

-- with a further link from the source into the reader, after which nothing comes, only the past of the reader grows: by the source and what leads there
sink_back :
    (R S : ℕ → ℕ → Type 0) (source reader : ℕ) → ((a b : ℕ) → S a b → R a b ⊎ ((a ≡ source) × (b ≡ reader))) → ((b : ℕ) → R reader b → ⊥) → (source ≡ reader → ⊥) →
    (a : ℕ) (xs : List ℕ) (b : ℕ) → IsChain S a xs b → Chained R a b ⊎ ((b ≡ reader) × ((a ≡ source) ⊎ Chained R a source))
sink_back R S source reader on none apart a [] b link =
    elim (on a b link) [ inl old ↦ inl (chained_one R a b old) | inr new ↦ inr (new.1, inl new.0) ]
sink_back R S source reader on none apart a (m ∷ xs) b (link, rest) =
    let after = sink_back R S source reader on none apart m xs b rest in
    elim (on a m link) [
      | inl old ↦ elim after [
        | inl chain ↦ inl (chained_first R a m b old chain)
        | inr into ↦ inr (
          into.0,
          inr (elim into.1 [
            | inl same ↦ subst (λ (n : ℕ). Chained R a n) same (chained_one R a m old)
            | inr chain ↦ chained_first R a m source old chain
          ]),
        )
      ]
      | inr new ↦ elim after [
        | inl chain ↦ absurd (chained_none R reader none b (subst (λ (n : ℕ). Chained R n b) new.1 chain))
        | inr into ↦ elim into.1 [
          | inl same ↦ absurd (apart (sym same ∙ new.1))
          | inr chain ↦ absurd (chained_none R reader none source (subst (λ (n : ℕ). Chained R n source) new.1 chain))
        ]
      ]
    ]

-- where what is new leads into one number alone, after which nothing comes, a chain to another number is an old one
old_back :
    (R S : ℕ → ℕ → Type 0) (new : ℕ) → ((a b : ℕ) → S a b → R a b ⊎ (b ≡ new)) → ((b : ℕ) → S new b → ⊥) →
    (a : ℕ) (xs : List ℕ) (b : ℕ) → (b ≡ new → ⊥) → IsChain S a xs b → Chained R a b
old_back R S new on none a [] b other link = elim (on a b link) [ inl old ↦ chained_one R a b old | inr same ↦ absurd (other same) ]
old_back R S new on none a (m ∷ xs) b other (link, rest) =
    elim (on a m link) [
      | inl old ↦ chained_first R a m b old (old_back R S new on none m xs b other rest)
      | inr same ↦
          absurd (chained_none S new none b (subst (λ (n : ℕ). Chained S n b) same (record { between = xs; is = rest })))
    ]

-- ---- a further read

pub read_past_back :
    (events : List Event) → IsSound events → (s k : ℕ) (x : Cell) (w n u : ℕ) (v : Value) → IsPending events k s → (w ≡ k → ⊥) →
    (a b : ℕ) → PrecedesCausally (with_read events s x w n u v) a b → PrecedesCausally events a b ⊎ ((b ≡ k) × ((a ≡ w) ⊎ PrecedesCausally events a w))
read_past_back events sound s k x w n u v pending apart a b chain =
    sink_back (Precedes events) (Precedes (with_read events s x w n u v)) w k
    (precedes_read events sound s k x w n u v pending)
    (λ m p. pending_first events sound k s m pending p) apart a chain.between b chain.is

pub past_kept : (events : List Event) (e : Event) (a b : ℕ) → PrecedesCausally events a b → PrecedesCausally (events ++ e ∷ []) a b
past_kept events e = chained_wider (Precedes events) (Precedes (events ++ e ∷ [])) (precedes_kept events e)

-- the source precedes the reader, and so does what precedes the source
pub read_past_source :
    (events : List Event) (s k : ℕ) (x : Cell) (w n u : ℕ) (v : Value) → IsPending events k s →
    (a : ℕ) → (a ≡ w) ⊎ PrecedesCausally events a w → PrecedesCausally (with_read events s x w n u v) a k
read_past_source events s k x w n u v pending a from =
    let new = Precedes (with_read events s x w n u v) in
    let link : new w k = with_precedes events s k x w n u v pending w k (inr (refl, refl)) in
    elim from [
      | inl same ↦ subst (λ (m : ℕ). Chained new m k) (sym same) (chained_one new w k link)
      | inr chain ↦ chained_on new a w k (past_kept events (Read s x w n u v) a w chain) (chained_one new w k link)
    ]

-- ---- an event that is neither a begin nor a read

pub other_past_back :
    (events : List Event) (e : Event) → ForcesNothing e → (a b : ℕ) → PrecedesCausally (events ++ e ∷ []) a b → PrecedesCausally events a b
other_past_back events e nothing = chained_wider (Precedes (events ++ e ∷ [])) (Precedes events) (others_precede events e nothing)

-- ---- a begin

-- nothing comes after what begins
pub begun_first :
    (events : List Event) → IsSound events → (s : ℕ) (level : Level) (k : ℕ) → begun events < k → (b : ℕ) → PrecedesCausally (with_begin events s level) k b → ⊥
begun_first events sound s level k new =
    chained_none (Precedes (with_begin events s level)) k (λ b p. new_first events sound s level k b new p)

begin_on :
    (events : List Event) → IsSound events → (s : ℕ) (level : Level) → (a b : ℕ) → Precedes (with_begin events s level) a b → Precedes events a b ⊎ (b ≡ begun events + 1)
begin_on events sound s level a b p = elim (begin_precedes events s level a b sound p) [ inl old ↦ inl old | inr new ↦ inr new.0 ]

pub begin_past_back :
    (events : List Event) → IsSound events → (s : ℕ) (level : Level) (a b : ℕ) → b ≤ begun events → PrecedesCausally (with_begin events s level) a b →
    PrecedesCausally events a b
begin_past_back events sound s level a b old chain =
    old_back (Precedes events) (Precedes (with_begin events s level)) (begun events + 1) (begin_on events sound s level)
    (λ m p. new_first events sound s level (begun events + 1) m (omega arith) p) a chain.between b (λ same. absurd (omega arith)) chain.is

-- nothing precedes the initial transaction
pub none_before_first : (events : List Event) → IsSound events → (a : ℕ) → PrecedesCausally events a 0 → ⊥
none_before_first events sound a chain =
    let last = last_pair (Precedes events) a 0 chain in
    let range = precedes_range events sound last.before 0 last.is in
    let h = range.1 in
    absurd (omega arith)

-- what precedes the transaction that begins: the transactions of its session, and what precedes the last of them
pub begin_past_new :
    (events : List Event) → IsSound events → (s last : ℕ) (level : Level) → IsLastBegun events s last → (a t p : ℕ) → IsStart events a t p →
    PrecedesCausally (with_begin events s level) a (begun events + 1) → ((t ≡ s) × (a ≤ last)) ⊎ PrecedesCausally events a last
begin_past_new events sound s last level is a t p start chain =
    let new = with_begin events s level in
    let pair = last_pair (Precedes new) a (begun events + 1) chain in
    let so : IsSessionOrdered new pair.before (begun events + 1) = elim (begin_precedes events s level pair.before (begun events + 1) sound pair.is) [
      | inl old ↦ let range = precedes_range events sound pair.before (begun events + 1) old in let h = range.2 in absurd (omega arith)
      | inr begins ↦ begins.1
    ] in
    let begins = pending_begin events s level in
    let same : so.session ≡ s = start_session new (begun events + 1) so.session s so.place begins.start so.started begins.starts in
    let up = so.earlier in
    -- a transaction of the session that was there
    let earlier : (m q : ℕ) → m < begun events + 1 → IsStart new m so.session q → IsStart events m s q =
    λ m q less begun_new. elim (start_back events (Begin s level) m so.session q begun_new) [
      | inl old ↦ subst (λ (r : ℕ). IsStart events m r q) same old
      | inr now ↦ let h = now.counts in absurd (omega arith)
    ] in
    elim pair.leads [
      | inl here ↦
          let less : a < begun events + 1 = omega arith in
          elim so.same [
            | inl zero ↦ let h = start_positive events a t p start in absurd (omega arith)
            | inr other ↦
                let own : IsStart new a so.session other.0 = subst (λ (m : ℕ). IsStart new m so.session other.0) (sym here) other.1 in
                let old : IsStart events a s other.0 = earlier a other.0 less own in
                inl (start_session events a t s p other.0 start old, is.latest a other.0 old)
          ]
      | inr on ↦
          let old_on : PrecedesCausally events a pair.before = begin_past_back events sound s level a pair.before (omega arith) on in
          elim so.same [
            | inl zero ↦ absurd (none_before_first events sound a (subst (λ (m : ℕ). PrecedesCausally events a m) zero old_on))
            | inr other ↦
                let old : IsStart events pair.before s other.0 = earlier pair.before other.0 up other.1 in
                let below : pair.before ≤ last = is.latest pair.before other.0 old in
                inr (elim (cases_order pair.before last) [
                  | inl one ↦ subst (λ (m : ℕ). PrecedesCausally events a m) one old_on
                  | inr apart ↦ elim apart [
                    | inl less ↦ elim is.is [
                      | inl none ↦ absurd (omega arith)
                      | inr found ↦
                          let link : Precedes events pair.before last = inl record {
                            earlier = less;
                            place = found.0;
                            session = s;
                            started = found.1;
                            same = inr (other.0, old);
                          } in
                          chained_on (Precedes events) a pair.before last old_on (chained_one (Precedes events) pair.before last link)
                    ]
                    | inr more ↦ absurd (omega arith)
                  ]
                ])
          ]
    ]

pub begin_past_own :
    (events : List Event) (s last : ℕ) (level : Level) → IsLastBegun events s last → (a p : ℕ) → IsStart events a s p → a ≤ last →
    PrecedesCausally (with_begin events s level) a (begun events + 1)
begin_past_own events s last level is a p start within =
    let new = with_begin events s level in
    let begins = pending_begin events s level in
    let h : a ≤ begun events = start_bounded events a s p start in
    chained_one (Precedes new) a (begun events + 1) (inl record {
      earlier = omega arith;
      place = begins.start;
      session = s;
      started = begins.starts;
      same = inr (p, start_kept events (Begin s level) a s p start);
    })

pub begin_past_last :
    (events : List Event) → IsSound events → (s last : ℕ) (level : Level) → IsLastBegun events s last → (a : ℕ) → PrecedesCausally events a last →
    PrecedesCausally (with_begin events s level) a (begun events + 1)
begin_past_last events sound s last level is a chain =
    let new = with_begin events s level in
    elim is.is [
      | inl none ↦ absurd (none_before_first events sound a (subst (λ (m : ℕ). PrecedesCausally events a m) none chain))
      | inr found ↦
          chained_on (Precedes new) a last (begun events + 1) (past_kept events (Begin s level) a last chain)
          (begin_past_own events s last level is last found.0 found.1 (omega arith))
    ]
