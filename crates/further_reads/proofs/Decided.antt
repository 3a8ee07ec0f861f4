-- What a transaction sees can be decided.
use Rattle.std.proofs.Common.{◌≡◌, ℕ, ◌+◌, ◌<◌, ◌≤◌, zero, suc, List, [], ◌∷◌, ◌++◌, Some, None, false, length, arith, refl, ap, sym, ◌∙◌, subst, inl, inr, ◌⊎◌}
use Rattle.std.proofs.lemmas.Bool.{cases_eq, cases_lt, cases_Bool, false≢true}
use Rattle.graph_base.specs.Chain.{IsChain, Chained}
use Rattle.graph_base.proofs.Chains.{chained_one, chained_on}
use Rattle.cell_base.specs.declared.level.Level.{Level}
use Rattle.cell_base.specs.declared.cell.Cell.{Cell}
use Rattle.cell_base.specs.declared.value.Value.{Value}
use Rattle.history_core.specs.declared.event.Event.{Event}
use Rattle.history_core.specs.declared.event.Event.TheVariants.{Open, Close, Define, Look, Begin, Scan, Read, Own, Write, Commit, Rollback, Show}
use Rattle.history_core.specs.Events.{begun, session_in, is_begin, is_end}
use Rattle.history_core.specs.Transactions.{IsStart, IsPending}
use Rattle.history_core.specs.Relations.{Gives, Reads, ReadsFrom, IsSessionOrdered, Precedes, PrecedesCausally}
use Rattle.history_core.proofs.Places.{start_session}
use Rattle.history_core.proofs.Grown.{reads_back}
use Rattle.history_core.proofs.Prefixes.{IsSound, along, start_bounded, scan_source}
use Rattle.history_core.proofs.Next.{pending_kept, pending_back, pending_begin}
use Rattle.saturation.proofs.After.{reads_kept, read_now}
use Rattle.saturation.proofs.Decides.{start_exists, initial_ordered, precedes_range}

abbrev pub Decided : Type 0 → Type 0
Decided P = P ⊎ (P → ⊥)

-- ---- chains along a relation that can be decided

-- a chain whose numbers between are below the bound
abbrev Linked : (ℕ → ℕ → Type 0) → ℕ → ℕ → ℕ → Type 0
Linked R zero a b = R a b
Linked R (suc n) a b = Linked R n a b ⊎ (Linked R n a n × Linked R n n b)

linked_decided : (R : ℕ → ℕ → Type 0) → ((a b : ℕ) → Decided (R a b)) → (n a b : ℕ) → Decided (Linked R n a b)
linked_decided R each zero a b = each a b
linked_decided R each (suc n) a b =
    elim (linked_decided R each n a b) [
      | inl is ↦ inl (inl is)
      | inr none ↦ elim (linked_decided R each n a n) [
        | inr none_to ↦ inr (λ either. elim either [ inl is ↦ none is | inr both ↦ none_to both.0 ])
        | inl to ↦ elim (linked_decided R each n n b) [
          | inl on ↦ inl (inr (to, on))
          | inr none_on ↦ inr (λ either. elim either [ inl is ↦ none is | inr both ↦ none_on both.1 ])
        ]
      ]
    ]

chained_from_linked : (R : ℕ → ℕ → Type 0) (n a b : ℕ) → Linked R n a b → Chained R a b
chained_from_linked R zero a b is = chained_one R a b is
chained_from_linked R (suc n) a b (inl is) = chained_from_linked R n a b is
chained_from_linked R (suc n) a b (inr (to, on)) = chained_on R a n b (chained_from_linked R n a n to) (chained_from_linked R n n b on)

linked_one : (R : ℕ → ℕ → Type 0) (n a b : ℕ) → R a b → Linked R n a b
linked_one R zero a b is = is
linked_one R (suc n) a b is = inl (linked_one R n a b is)

linked_to : (R : ℕ → ℕ → Type 0) (n a : ℕ) → Linked R (suc n) a n → Linked R n a n
linked_to R n a (inl is) = is
linked_to R n a (inr both) = both.0

linked_from : (R : ℕ → ℕ → Type 0) (n b : ℕ) → Linked R (suc n) n b → Linked R n n b
linked_from R n b (inl is) = is
linked_from R n b (inr both) = both.1

linked_on : (R : ℕ → ℕ → Type 0) (n a m b : ℕ) → m < n → Linked R n a m → Linked R n m b → Linked R n a b
linked_on R zero a m b below first second = absurd (omega arith)
linked_on R (suc n) a m b below first second =
    elim (cases_eq m n) [
      | inl same ↦ inr (
        linked_to R n a (subst (λ (k : ℕ). Linked R (suc n) a k) same first),
        linked_from R n b (subst (λ (k : ℕ). Linked R (suc n) k b) same second),
      )
      | inr other ↦
          let less : m < n = omega arith in
          elim first [
            | inl to ↦ elim second [
              | inl on ↦ inl (linked_on R n a m b less to on)
              | inr over ↦ inr (linked_on R n a m n less to over.0, over.1)
            ]
            | inr over ↦ elim second [
              | inl on ↦ inr (over.0, linked_on R n n m b less over.1 on)
              | inr again ↦ inr (over.0, again.1)
            ]
          ]
    ]

first_of_chain : (R : ℕ → ℕ → Type 0) (size : ℕ) → ((a b : ℕ) → R a b → a < size) → (a : ℕ) (between : List ℕ) (b : ℕ) → IsChain R a between b → a < size
first_of_chain R size bounded a [] b link = bounded a b link
first_of_chain R size bounded a (m ∷ between) b (link, rest) = bounded a m link

linked_from_chain :
    (R : ℕ → ℕ → Type 0) (size : ℕ) → ((a b : ℕ) → R a b → a < size) → (a : ℕ) (between : List ℕ) (b : ℕ) → IsChain R a between b → Linked R size a b
linked_from_chain R size bounded a [] b link = linked_one R size a b link
linked_from_chain R size bounded a (m ∷ between) b (link, rest) =
    linked_on R size a m b (first_of_chain R size bounded m between b rest) (linked_one R size a m link)
    (linked_from_chain R size bounded m between b rest)

pub chained_decided :
    (R : ℕ → ℕ → Type 0) (size : ℕ) → ((a b : ℕ) → Decided (R a b)) → ((a b : ℕ) → R a b → a < size) → (a b : ℕ) → Decided (Chained R a b)
chained_decided R size each bounded a b =
    elim (linked_decided R each size a b) [
      | inl is ↦ inl (chained_from_linked R size a b is)
      | inr none ↦ inr (λ chain. none (linked_from_chain R size bounded a chain.between b chain.is))
    ]

-- ---- pending transactions

begins_or_not : (e : Event) → ((s : ℕ) × ((level : Level) × (e ≡ Begin s level))) ⊎ (is_begin e ≡ false)
begins_or_not (Begin s level) = inl (s, (level, refl))
begins_or_not (Open s) = inr refl
begins_or_not (Close s) = inr refl
begins_or_not (Define s name) = inr refl
begins_or_not (Look s count) = inr refl
begins_or_not (Scan s table keys) = inr refl
begins_or_not (Read s x w n u v) = inr refl
begins_or_not (Own s x v) = inr refl
begins_or_not (Write s x v) = inr refl
begins_or_not (Commit s) = inr refl
begins_or_not (Rollback s) = inr refl
begins_or_not (Show s number) = inr refl

pending_next : (events : List Event) (e : Event) (k s : ℕ) → Decided (IsPending events k s) → Decided (IsPending (events ++ e ∷ []) k s)
pending_next events e k s (inl pending) =
    elim (cases_eq (session_in e) s) [
      | inr other ↦ inl (pending_kept events e k s (λ same. absurd (other same)) pending)
      | inl same ↦ elim (cases_Bool (is_end e)) [
        | inr goes_on ↦ inl (pending_kept events e k s (λ _. goes_on) pending)
        | inl ends ↦ inr (λ after. elim (pending_back events e k s after) [
          | inl both ↦ false≢true (sym (both.1 same) ∙ ends)
          | inr begins ↦ false≢true (ap is_end (sym begins.is) ∙ ends)
        ])
      ]
    ]
pending_next events e k s (inr none) =
    elim (begins_or_not e) [
      | inr other ↦ inr (λ after. elim (pending_back events e k s after) [
        | inl both ↦ none both.0
        | inr begins ↦ false≢true (sym other ∙ ap is_begin begins.is)
      ])
      | inl begin ↦ elim (cases_eq begin.0 s) [
        | inr other ↦ inr (λ after. elim (pending_back events e k s after) [
          | inl both ↦ none both.0
          | inr begins ↦ other (ap session_in (sym begin.1.1 ∙ begins.is))
        ])
        | inl same ↦ elim (cases_eq k (begun events + 1)) [
          | inr apart ↦ inr (λ after. elim (pending_back events e k s after) [ inl both ↦ none both.0 | inr begins ↦ apart begins.counts ])
          | inl next ↦
              let begins : IsPending (events ++ Begin begin.0 begin.1.0 ∷ []) (begun events + 1) begin.0 = pending_begin events begin.0 begin.1.0 in
              inl (subst (λ (f : Event). IsPending (events ++ f ∷ []) k s) (sym begin.1.1)
              (subst (λ (n : ℕ). IsPending (events ++ Begin begin.0 begin.1.0 ∷ []) n s) (sym next)
              (subst (λ (t : ℕ). IsPending (events ++ Begin begin.0 begin.1.0 ∷ []) (begun events + 1) t) same begins)))
        ]
      ]
    ]

pub pending_decided : (events : List Event) (k s : ℕ) → Decided (IsPending events k s)
pending_decided events k s =
    along (λ (h : List Event). Decided (IsPending h k s)) (λ h e holds. pending_next h e k s holds) [] events
    (inr (λ pending. let is : None ≡ Some (Begin s pending.starts.level) = pending.starts.is in cc))

-- ---- the write-read relation

record IsRead (e : Event) : Type 0 where
  session : ℕ
  cell : Cell
  source : ℕ
  count : ℕ
  word : ℕ
  value : Value
  is : e ≡ Read session cell source count word value

-- another event gives nothing but of the initial transaction
reads_or_not : (e : Event) → IsRead e ⊎ ((cell : Cell) (a : ℕ) → 0 < a → Gives e cell a → ⊥)
reads_or_not (Read s x w n u v) = inl record { session = s; cell = x; source = w; count = n; word = u; value = v; is = refl }
reads_or_not (Scan s table keys) = inr (λ cell a positive gives. let initial = scan_source s table keys cell a gives in absurd (omega arith))
reads_or_not (Begin s level) = inr (λ cell a positive gives. gives)
reads_or_not (Open s) = inr (λ cell a positive gives. gives)
reads_or_not (Close s) = inr (λ cell a positive gives. gives)
reads_or_not (Define s name) = inr (λ cell a positive gives. gives)
reads_or_not (Look s count) = inr (λ cell a positive gives. gives)
reads_or_not (Own s x v) = inr (λ cell a positive gives. gives)
reads_or_not (Write s x v) = inr (λ cell a positive gives. gives)
reads_or_not (Commit s) = inr (λ cell a positive gives. gives)
reads_or_not (Rollback s) = inr (λ cell a positive gives. gives)
reads_or_not (Show s number) = inr (λ cell a positive gives. gives)

from_next : (events : List Event) (e : Event) (a b : ℕ) → 0 < a → Decided (ReadsFrom events a b) → Decided (ReadsFrom (events ++ e ∷ []) a b)
from_next events e a b positive (inl wr) = inl record { place = wr.place; cell = wr.cell; reads = reads_kept events e b wr.place wr.cell a wr.reads }
from_next events e a b positive (inr none) =
    elim (reads_or_not e) [
      | inr nothing ↦ inr (λ wr. elim (reads_back events e b wr.place wr.cell a wr.reads) [
        | inl old ↦ none record { place = wr.place; cell = wr.cell; reads = old }
        | inr new ↦ nothing wr.cell a positive new.2
      ])
      | inl read ↦ elim (pending_decided events b read.session) [
        | inr idle ↦ inr (λ wr. elim (reads_back events e b wr.place wr.cell a wr.reads) [
          | inl old ↦ none record { place = wr.place; cell = wr.cell; reads = old }
          | inr new ↦ idle (subst (λ (t : ℕ). IsPending events b t) (ap session_in read.is) new.1)
        ])
        | inl pending ↦ elim (cases_eq read.source a) [
          | inr other ↦ inr (λ wr. elim (reads_back events e b wr.place wr.cell a wr.reads) [
            | inl old ↦ none record { place = wr.place; cell = wr.cell; reads = old }
            | inr new ↦
                let gives : Gives (Read read.session read.cell read.source read.count read.word read.value) wr.cell a =
                subst (λ (f : Event). Gives f wr.cell a) read.is new.2 in
                other gives.1
          ])
          | inl same ↦
              let now : Reads (events ++ Read read.session read.cell read.source read.count read.word read.value ∷ []) b (length events) read.cell read.source =
              read_now events read.session b read.cell read.source read.count read.word read.value pending in
              let there : Reads (events ++ e ∷ []) b (length events) read.cell a =
              subst (λ (f : Event). Reads (events ++ f ∷ []) b (length events) read.cell a) (sym read.is)
              (subst (λ (w : ℕ). Reads (events ++ Read read.session read.cell read.source read.count read.word read.value ∷ []) b (length events) read.cell w) same now) in
              inl record { place = length events; cell = read.cell; reads = there }
        ]
      ]
    ]

pub reads_from_decided : (events : List Event) (a b : ℕ) → 0 < a → Decided (ReadsFrom events a b)
reads_from_decided events a b positive =
    along (λ (h : List Event). Decided (ReadsFrom h a b)) (λ h e holds. from_next h e a b positive holds) [] events
    (inr (λ wr. let is : None ≡ Some wr.reads.event = wr.reads.of_reader.is in cc))

-- ---- session order, and what precedes

pub session_order_decided : (events : List Event) (a b : ℕ) → Decided (IsSessionOrdered events a b)
session_order_decided events a b =
    elim (cases_lt a b) [
      | inr late ↦ inr (λ so. let up = so.earlier in absurd (omega arith))
      | inl less ↦ elim (cases_lt (begun events) b) [
        | inl past ↦ inr (λ so. let h : b ≤ begun events = start_bounded events b so.session so.place so.started in absurd (omega arith))
        | inr within ↦ elim (cases_eq a 0) [
          | inl initial ↦ inl (initial_ordered events a b initial (omega arith) within)
          | inr positive ↦
              let first = start_exists events a (omega arith) (omega arith) in
              let second = start_exists events b (omega arith) within in
              elim (cases_eq first.0 second.0) [
                | inl same ↦ inl record {
                  earlier = less;
                  place = second.1.0;
                  session = second.0;
                  started = second.1.1;
                  same = inr (first.1.0, subst (λ (t : ℕ). IsStart events a t first.1.0) same first.1.1);
                }
                | inr other ↦ inr (λ so. elim so.same [
                  | inl initial ↦ positive initial
                  | inr start ↦
                      let one : first.0 ≡ so.session = start_session events a first.0 so.session first.1.0 start.0 first.1.1 start.1 in
                      let two : so.session ≡ second.0 = start_session events b so.session second.0 so.place second.1.0 so.started second.1.1 in
                      other (one ∙ two)
                ])
              ]
        ]
      ]
    ]

pub precedes_decided : (events : List Event) → IsSound events → (a b : ℕ) → Decided (Precedes events a b)
precedes_decided events sound a b =
    elim (session_order_decided events a b) [
      | inl so ↦ inl (inl so)
      | inr unordered ↦ elim (cases_eq a 0) [
        | inl initial ↦ inr (λ precedes.
            let range = precedes_range events sound a b precedes in
            let some = range.1 in let small = range.2 in
            unordered (initial_ordered events a b initial some (omega arith)))
        | inr positive ↦ elim (reads_from_decided events a b (omega arith)) [
          | inl wr ↦ inl (inr wr)
          | inr none ↦ inr (λ precedes. elim precedes [ inl so ↦ unordered so | inr wr ↦ none wr ])
        ]
      ]
    ]

pub past_decided : (events : List Event) → IsSound events → (a b : ℕ) → Decided (PrecedesCausally events a b)
past_decided events sound a b =
    chained_decided (Precedes events) (begun events + 1) (precedes_decided events sound)
    (λ a b precedes. let range = precedes_range events sound a b precedes in range.0) a b
