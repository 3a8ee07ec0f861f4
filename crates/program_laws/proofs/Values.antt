-- What is read is one value, and what was written last is one.
use Rattle.std.proofs.Common.{◌≡◌, ◌≢◌, ℕ, ◌<◌, suc, List, [], ◌∷◌, ◌++◌, Some, length, arith, refl, ap, sym, ◌∙◌, subst, inl, inr, ◌%◌}
use Rattle.std.specs.List.{All, slice_get}
use Rattle.std.proofs.lemmas.List.Elements.{All-contains}
use Rattle.cell_base.specs.declared.cell.Cell.{Cell}
use Rattle.cell_base.specs.declared.key.Key.{Key}
use Rattle.cell_base.specs.declared.value.Value.{Value}
use Rattle.history_core.specs.declared.event.Event.{Event}
use Rattle.history_core.specs.declared.event.Event.TheVariants.{Read}
use Rattle.history_core.specs.Initial.{WritesInitially, IsInitialState}
use Rattle.history_core.specs.Transactions.{IsCommitted}
use Rattle.history_core.specs.Relations.{WritesValue}
use Rattle.history_core.specs.Legal.{IsOffered, IsOffer, ListsKeys}
use Rattle.history_book.specs.Book.{SessionState, IsUnwritten, HasWrite, LastWrite, writes_of}
use Rattle.history_core.proofs.Prefixes.{start_positive}
use Rattle.indexed_history.proofs.Scans.{one_value as one_held}
use Rattle.committed_rows.proofs.Newly.{last_unique}
use Rattle.program_laws.proofs.Lists.{one_rising, one_key_list}

not_initial : (events : List Event) (number : ℕ) → number ≡ 0 → IsCommitted events number → ⊥
not_initial events number is committed =
    let of = committed.commit in
    let h : 0 < number = start_positive events number committed.session of.start of.starts in
    omega arith

-- ---- what the initial state has

one_initial : (initial : List (Cell × Value)) (cell : Cell) (v w : Value) → IsInitialState initial → WritesInitially initial cell v →
    WritesInitially initial cell w → v ≡ w
one_initial initial cell v w is (inl a) (inl b) = one_held initial cell v w is a b
one_initial initial cell v w is (inl a) (inr b) = absurd (b.0 v a)
one_initial initial cell v w is (inr a) (inl b) = absurd (a.0 w b)
one_initial initial cell v w is (inr a) (inr b) = a.1 ∙ sym b.1

pub one_value : (initial : List (Cell × Value)) (events : List Event) (number : ℕ) (cell : Cell) (v w : Value) → IsInitialState initial →
    WritesValue initial events number cell v → WritesValue initial events number cell w → v ≡ w
one_value initial events number cell v w is (inl a) (inl b) = one_initial initial cell v w is a.1 b.1
one_value initial events number cell v w is (inl a) (inr b) = absurd (not_initial events number a.0 b.0)
one_value initial events number cell v w is (inr a) (inl b) = absurd (not_initial events number b.0 a.0)
one_value initial events number cell v w is (inr a) (inr b) = last_unique events number cell v w a.1 b.1

-- ---- what is offered

pub one_offer : (events : List Event) (s : ℕ) (cell : Cell) (xs ys : List ℕ) → IsOffer events s cell xs →
    IsOffer events s cell ys → xs ≡ ys
one_offer events s cell xs ys a b =
    one_rising xs ys a.ascending b.ascending (λ z there. (b.exact z).1 ((a.exact z).0 there)) (λ z there. (a.exact z).1 ((b.exact z).0 there))

-- the source and the count of a read, and its value
pub record OneRead (source other count more : ℕ) (v w : Value) : Type 0 where
  pub sources : source ≡ other
  pub counts : count ≡ more
  pub values : v ≡ w

pub one_read : (initial : List (Cell × Value)) (events : List Event) (s : ℕ) (cell : Cell) (source other count more word : ℕ) (v w : Value) → IsInitialState initial →
    IsOffered events (Read s cell source count word v) → IsOffered events (Read s cell other more word w) →
    WritesValue initial events source cell v → WritesValue initial events other cell w → OneRead source other count more v w
one_read initial events s cell source other count more word v w is (xs, a, many, at) (ys, b, many_too, at_too) value value_too =
    let same : xs ≡ ys = one_offer events s cell xs ys a b in
    let counts : count ≡ more = many ∙ ap length same ∙ sym many_too in
    let here : slice_get ys (word % more) ≡ Some source =
    subst (λ (n : ℕ). slice_get ys (word % n) ≡ Some source) counts (subst (λ (zs : List ℕ). slice_get zs (word % count) ≡ Some source) same at) in
    let both : Some source ≡ Some other = sym here ∙ at_too in
    let sources : source ≡ other = cc in
    record {
      sources = sources;
      counts = counts;
      values = one_value initial events other cell v w is (subst (λ (n : ℕ). WritesValue initial events n cell v) sources value) value_too;
    }

-- ---- what a scan lists

pub one_listing : (initial : List (Cell × Value)) (events : List Event) (s table : ℕ) (xs ys : List Key) → ListsKeys initial events s table xs →
    ListsKeys initial events s table ys → xs ≡ ys
one_listing initial events s table xs ys a b =
    one_key_list xs ys a.ascending b.ascending (λ z there. (b.listed z).1 ((a.listed z).0 there)) (λ z there. (a.listed z).1 ((b.listed z).0 there))

-- ---- what the state says

pub not_both : (cell : Cell) (state : SessionState) → HasWrite cell state → IsUnwritten cell state → ⊥
not_both cell state (k, x, within, at, is) unwritten = All-contains (λ (write : Cell × Value). write.0 ≢ cell) (writes_of state) x unwritten (k, within, at) is

none_here : (cell : Cell) (value : Value) (front back : List (Cell × Value)) → All (λ write. write.0 ≢ cell) (front ++ (cell, value) ∷ back) → ⊥
none_here cell value [] back all = all 0 (cell, value) (omega arith) refl
none_here cell value (x ∷ front) back all =
    none_here cell value front back (All-later x (front ++ (cell, value) ∷ back) all)
  where
    All-later : (x : Cell × Value) (xs : List (Cell × Value)) → All (λ write. write.0 ≢ cell) (x ∷ xs) → All (λ write. write.0 ≢ cell) xs
    All-later x xs all k d within = all (suc k) d (omega arith)

-- the last of some writes to a cell is one
last_one : (front others : List (Cell × Value)) (cell : Cell) (v w : Value) (back rest : List (Cell × Value)) →
    front ++ (cell, v) ∷ back ≡ others ++ (cell, w) ∷ rest → All (λ write. write.0 ≢ cell) back → All (λ write. write.0 ≢ cell) rest → v ≡ w
last_one [] [] cell v w back rest same a b = let both : ◌≡◌ {A = Cell × Value} (cell, v) (cell, w) = cc in ap (λ (x : Cell × Value). x.1) both
last_one [] (y ∷ others) cell v w back rest same a b =
    let tail : back ≡ others ++ (cell, w) ∷ rest = cc in
    absurd (none_here cell w others rest (subst (λ (xs : List (Cell × Value)). All (λ write. write.0 ≢ cell) xs) tail a))
last_one (x ∷ front) [] cell v w back rest same a b =
    let tail : front ++ (cell, v) ∷ back ≡ rest = cc in
    absurd (none_here cell v front back (subst (λ (xs : List (Cell × Value)). All (λ write. write.0 ≢ cell) xs) (sym tail) b))
last_one (x ∷ front) (y ∷ others) cell v w back rest same a b =
    let tail : front ++ (cell, v) ∷ back ≡ others ++ (cell, w) ∷ rest = cc in
    last_one front others cell v w back rest tail a b

pub one_last_write : (cell : Cell) (v w : Value) (state : SessionState) → LastWrite cell v state → LastWrite cell w state → v ≡ w
one_last_write cell v w state a b =
    last_one a.before b.before cell v w a.after b.after (sym a.split ∙ b.split) a.last b.last
