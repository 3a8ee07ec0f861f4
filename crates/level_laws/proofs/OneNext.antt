-- After a legal history one call has one next event.
use Rattle.std.proofs.Common.{◌≡◌, ℕ, ◌<◌, ◌≤◌, List, Some, length, arith, ap, sym, ◌∙◌, subst, inl, inr, ◌%◌}
use Rattle.std.specs.List.{Contains, slice_get}
use Rattle.cell_base.specs.declared.cell.Cell.{Cell}
use Rattle.cell_base.specs.declared.key.Key.{Key}
use Rattle.cell_base.specs.declared.value.Value.{Value}
use Rattle.history_core.specs.declared.event.Event.{Event}
use Rattle.history_core.specs.declared.event.Event.TheVariants.{Open, Close, Define, Look, Begin, Scan, Read, Own, Write, Commit, Rollback, Show}
use Rattle.history_core.specs.Events.{names}
use Rattle.history_core.specs.Initial.{WritesInitially, IsInitialState}
use Rattle.history_core.specs.Transactions.{IsCommitted, IsPending}
use Rattle.history_core.specs.Relations.{LastWrites, WritesValue}
use Rattle.history_core.specs.Legal.{IsLegal, IsOffered, IsOffer, ListsKeys, WroteItself, Follows}
use Rattle.history_core.proofs.Prefixes.{IsSound, sound_of, start_positive}
use Rattle.history_core.proofs.Offers.{pending_unique}
use Rattle.indexed_history.proofs.Scans.{one_value as one_held}
use Rattle.level_laws.specs.Shown.{BookCall, AnswersCall, IsNextAt}
use Rattle.level_laws.specs.Shown as calls
use Rattle.level_laws.proofs.Rising.{one_rising, one_key_list}

-- ---- one value

not_initial : (events : List Event) (number : ℕ) → number ≡ 0 → IsCommitted events number → ⊥
not_initial events number is committed =
    let of = committed.commit in
    let h : 0 < number = start_positive events number committed.session of.start of.starts in
    omega arith

last_unique : (events : List Event) (n : ℕ) (x : Cell) (v w : Value) → LastWrites events n x v → LastWrites events n x w → v ≡ w
last_unique events n x v w first second =
    let below : second.place ≤ first.place = first.last second.place second.session w second.write in
    let above : first.place ≤ second.place = second.last first.place first.session v first.write in
    let same : first.place ≡ second.place = omega arith in
    let both : Some (Write first.session x v) ≡ Some (Write second.session x w) =
    sym first.write.is ∙ ap (λ (p : ℕ). slice_get events p) same ∙ second.write.is in
    cc

one_initial :
    (initial : List (Cell × Value)) (x : Cell) (v w : Value) → IsInitialState initial → WritesInitially initial x v → WritesInitially initial x w → v ≡ w
one_initial initial x v w is (inl a) (inl b) = one_held initial x v w is a b
one_initial initial x v w is (inl a) (inr b) = absurd (b.0 v a)
one_initial initial x v w is (inr a) (inl b) = absurd (a.0 w b)
one_initial initial x v w is (inr a) (inr b) = a.1 ∙ sym b.1

pub one_value :
    (initial : List (Cell × Value)) (events : List Event) (number : ℕ) (x : Cell) (v w : Value) → IsInitialState initial → WritesValue initial events number x v →
    WritesValue initial events number x w → v ≡ w
one_value initial events number x v w is (inl a) (inl b) = one_initial initial x v w is a.1 b.1
one_value initial events number x v w is (inl a) (inr b) = absurd (not_initial events number a.0 b.0)
one_value initial events number x v w is (inr a) (inl b) = absurd (not_initial events number b.0 a.0)
one_value initial events number x v w is (inr a) (inr b) = last_unique events number x v w a.1 b.1

-- ---- one offer and one list of keys

one_offer : (events : List Event) (s : ℕ) (x : Cell) (xs ys : List ℕ) → IsOffer events s x xs → IsOffer events s x ys → xs ≡ ys
one_offer events s x xs ys a b =
    one_rising xs ys a.ascending b.ascending (λ z there. (b.exact z).1 ((a.exact z).0 there)) (λ z there. (a.exact z).1 ((b.exact z).0 there))

pub one_listing :
    (initial : List (Cell × Value)) (events : List Event) (s table : ℕ) (xs ys : List Key) → ListsKeys initial events s table xs →
    ListsKeys initial events s table ys → xs ≡ ys
one_listing initial events s table xs ys a b =
    one_key_list xs ys a.ascending b.ascending (λ z there. (b.listed z).1 ((a.listed z).0 there)) (λ z there. (a.listed z).1 ((b.listed z).0 there))

-- the source and the count of a read, and its value
pub record OneRead (source other count more : ℕ) (v w : Value) : Type 0 where
  pub sources : source ≡ other
  pub counts : count ≡ more
  pub values : v ≡ w

pub one_read :
    (initial : List (Cell × Value)) (events : List Event) (s : ℕ) (x : Cell) (source other count more word : ℕ) (v w : Value) → IsInitialState initial →
    IsOffered events (Read s x source count word v) → IsOffered events (Read s x other more word w) → WritesValue initial events source x v →
    WritesValue initial events other x w → OneRead source other count more v w
one_read initial events s x source other count more word v w is (xs, a, many, at) (ys, b, many_too, at_too) value value_too =
    let same : xs ≡ ys = one_offer events s x xs ys a b in
    let counts : count ≡ more = many ∙ ap length same ∙ sym many_too in
    let here : slice_get ys (word % more) ≡ Some source =
    subst (λ (n : ℕ). slice_get ys (word % n) ≡ Some source) counts (subst (λ (zs : List ℕ). slice_get zs (word % count) ≡ Some source) same at) in
    let both : Some source ≡ Some other = sym here ∙ at_too in
    let sources : source ≡ other = cc in
    record {
      sources = sources;
      counts = counts;
      values = one_value initial events other x v w is (subst (λ (n : ℕ). WritesValue initial events n x v) sources value) value_too;
    }

-- ---- a read or an own write

-- what an own read finds, the transaction has written
own_written :
    (events : List Event) (s : ℕ) (x : Cell) (v : Value) → (number : ℕ) × IsPending events number s × LastWrites events number x v → WroteItself events s x
own_written events s x v (number, pending, last) = record {
  number = number;
  pending = pending;
  written = record { place = last.place; session = last.session; value = v; write = last.write };
}

one_own :
    (events : List Event) → IsSound events → (s : ℕ) (x : Cell) (v w : Value) → (number : ℕ) × IsPending events number s × LastWrites events number x v →
    (number : ℕ) × IsPending events number s × LastWrites events number x w → v ≡ w
one_own events sound s x v w (a, pending, last) (b, pending_too, last_too) =
    let same : a ≡ b = pending_unique events sound s a b pending pending_too in
    last_unique events b x v w (subst (λ (n : ℕ). LastWrites events n x v) same last) last_too

-- ---- one event

same_scan : (s t table beside : ℕ) (xs ys : List Key) → s ≡ t → table ≡ beside → xs ≡ ys → Scan s table xs ≡ Scan t beside ys
same_scan s t table beside xs ys a b c = ap (λ k. Scan k table xs) a ∙ ap (λ k. Scan t k xs) b ∙ ap (λ k. Scan t beside k) c

same_own : (s t : ℕ) (x y : Cell) (v w : Value) → s ≡ t → x ≡ y → v ≡ w → Own s x v ≡ Own t y w
same_own s t x y v w a b c = ap (λ k. Own k x v) a ∙ ap (λ k. Own t k v) b ∙ ap (λ k. Own t y k) c

same_read :
    (s t : ℕ) (x y : Cell) (a b m n u w : ℕ) (v z : Value) → s ≡ t → x ≡ y → a ≡ b → m ≡ n → u ≡ w → v ≡ z → Read s x a m u v ≡ Read t y b n w z
same_read s t x y a b m n u w v z h i j k l o =
    ap (λ c. Read c x a m u v) h
    ∙ ap (λ c. Read t c a m u v) i
    ∙ ap (λ c. Read t y c m u v) j
    ∙ ap (λ c. Read t y b c u v) k
    ∙ ap (λ c. Read t y b n c v) l
    ∙ ap (λ c. Read t y b n w c) o

-- the same call's two next events, where each names the call's own parts
pub next_is_one :
    (initial : List (Cell × Value)) (events : List Event) (call : BookCall) (e f : Event) → IsInitialState initial → IsSound events →
    IsNextAt initial events call e → IsNextAt initial events call f → e ≡ f
next_is_one initial events call e f is sound one two =
    by_call call e f one.answers two.answers one.may.follows two.may.follows one.offered two.offered
  where
    by_call :
        (call : BookCall) (e f : Event) → AnswersCall events call e → AnswersCall events call f → Follows initial events e → Follows initial events f →
        IsOffered events e → IsOffered events f → e ≡ f
    by_call calls.opens (Open s) (Open t) a b p q o r = ap (λ k. Open k) (p ∙ sym q)
    by_call (calls.closes x) (Close s) (Close t) a b p q o r = ap (λ k. Close k) (a ∙ sym b)
    by_call (calls.defines x n) (Define s i) (Define t j) a b p q o r =
        ap (λ k. Define k i) (a.0 ∙ sym b.0) ∙ ap (λ k. Define t k) (a.1 ∙ sym b.1)
    by_call (calls.defines x n) (Define s i) (Look t j) a b p q o r =
        absurd (p.1 (subst (λ (k : List ℕ). Contains (names events) k) (sym a.1) b.1))
    by_call (calls.defines x n) (Look s i) (Define t j) a b p q o r =
        absurd (q.1 (subst (λ (k : List ℕ). Contains (names events) k) (sym b.1) a.1))
    by_call (calls.defines x n) (Look s i) (Look t j) a b p q o r = ap (λ k. Look k i) (a.0 ∙ sym b.0) ∙ ap (λ k. Look t k) (p.1 ∙ sym q.1)
    by_call (calls.looks x) (Look s i) (Look t j) a b p q o r = ap (λ k. Look k i) (a ∙ sym b) ∙ ap (λ k. Look t k) (p.1 ∙ sym q.1)
    by_call (calls.begins x l) (Begin s i) (Begin t j) a b p q o r = ap (λ k. Begin k i) (a.0 ∙ sym b.0) ∙ ap (λ k. Begin t k) (a.1 ∙ sym b.1)
    by_call (calls.scans x n) (Scan s i xs) (Scan t j ys) a b p q o r =
        let session : s ≡ t = a.0 ∙ sym b.0 in
        let table : i ≡ j = a.1 ∙ sym b.1 in
        let lists : ListsKeys initial events t j xs =
        subst (λ (k : ℕ). ListsKeys initial events k j xs) session (subst (λ (k : ℕ). ListsKeys initial events s k xs) table p.2) in
        same_scan s t i j xs ys session table (one_listing initial events t j xs ys lists q.2)
    by_call (calls.reads x y u) (Read s i w n k v) (Read t j z m l c) a b p q o r =
        let session : s ≡ t = a.0 ∙ sym b.0 in
        let cell : i ≡ j = a.1 ∙ sym b.1 in
        let word : k ≡ l = a.2 ∙ sym b.2 in
        let offered : IsOffered events (Read t j w n l v) =
        subst (λ (h : ℕ). IsOffered events (Read h j w n l v)) session
        (subst (λ (h : Cell). IsOffered events (Read s h w n l v)) cell (subst (λ (h : ℕ). IsOffered events (Read s i w n h v)) word o)) in
        let value : WritesValue initial events w j v = subst (λ (h : Cell). WritesValue initial events w h v) cell p.3 in
        let same = one_read initial events t j w z n m l v c is offered r value q.3 in
        same_read s t i j w z n m k l v c session cell same.sources same.counts word same.values
    by_call (calls.reads x y u) (Read s i w n k v) (Own t j c) a b p q o r =
        absurd (p.1 (subst (λ (h : ℕ). WroteItself events h i) (b.0 ∙ sym a.0)
        (subst (λ (h : Cell). WroteItself events t h) (b.1 ∙ sym a.1) (own_written events t j c q))))
    by_call (calls.reads x y u) (Own s i v) (Read t j z m l c) a b p q o r =
        absurd (q.1 (subst (λ (h : ℕ). WroteItself events h j) (a.0 ∙ sym b.0)
        (subst (λ (h : Cell). WroteItself events s h) (a.1 ∙ sym b.1) (own_written events s i v p))))
    by_call (calls.reads x y u) (Own s i v) (Own t j c) a b p q o r =
        let session : s ≡ t = a.0 ∙ sym b.0 in
        let cell : i ≡ j = a.1 ∙ sym b.1 in
        let here : (number : ℕ) × IsPending events number t × LastWrites events number j v =
        subst (λ (h : ℕ). (number : ℕ) × IsPending events number h × LastWrites events number j v) session
        (subst (λ (h : Cell). (number : ℕ) × IsPending events number s × LastWrites events number h v) cell p) in
        same_own s t i j v c session cell (one_own events sound t j v c here q)
    by_call (calls.writes x y u) (Write s i v) (Write t j c) a b p q o r =
        ap (λ k. Write k i v) (a.0 ∙ sym b.0) ∙ ap (λ k. Write t k v) (a.1 ∙ sym b.1) ∙ ap (λ k. Write t j k) (a.2 ∙ sym b.2)
    by_call (calls.commits x) (Commit s) (Commit t) a b p q o r = ap (λ k. Commit k) (a ∙ sym b)
    by_call (calls.rolls_back x) (Rollback s) (Rollback t) a b p q o r = ap (λ k. Rollback k) (a ∙ sym b)
    by_call (calls.shows x) (Show s i) (Show t j) a b p q o r = ap (λ k. Show k i) (a ∙ sym b) ∙ ap (λ k. Show t k) (p.1 ∙ sym q.1)
    by_call calls.opens (Open s) _ a b p q o r = absurd b
    by_call (calls.closes x) (Close s) _ a b p q o r = absurd b
    by_call (calls.defines x n) (Define s i) _ a b p q o r = absurd b
    by_call (calls.defines x n) (Look s i) _ a b p q o r = absurd b
    by_call (calls.looks x) (Look s i) _ a b p q o r = absurd b
    by_call (calls.begins x l) (Begin s i) _ a b p q o r = absurd b
    by_call (calls.scans x n) (Scan s i xs) _ a b p q o r = absurd b
    by_call (calls.reads x y u) (Read s i w n k v) _ a b p q o r = absurd b
    by_call (calls.reads x y u) (Own s i v) _ a b p q o r = absurd b
    by_call (calls.writes x y u) (Write s i v) _ a b p q o r = absurd b
    by_call (calls.commits x) (Commit s) _ a b p q o r = absurd b
    by_call (calls.rolls_back x) (Rollback s) _ a b p q o r = absurd b
    by_call (calls.shows x) (Show s i) _ a b p q o r = absurd b
    by_call _ _ _ a b p q o r = absurd a

pub next_of_legal :
    (initial : List (Cell × Value)) (events : List Event) (call : BookCall) (e f : Event) → IsInitialState initial → IsLegal initial events →
    IsNextAt initial events call e → IsNextAt initial events call f → e ≡ f
next_of_legal initial events call e f is legal one two = next_is_one initial events call e f is (sound_of initial events legal.formed) one two
