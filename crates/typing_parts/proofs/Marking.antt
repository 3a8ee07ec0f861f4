-- Marks for the columns of a table, walk by walk.
use Rattle.std.proofs.Common.{◌≡◌, ℕ, zero, suc, ◌+◌, ◌<◌, ◌≤◌, ◌==◌, Bool, true, false, ◌||◌, ◌&&◌, not, cond, List, [], ◌∷◌, ◌++◌, length, take, get_or, replicate, refl, ap, sym, ◌∙◌, add-one, arith}
use Rattle.std.specs.List.{list_any}
use Rattle.std.proofs.Math.Seq.{take-suc}
use Rattle.std.proofs.lemmas.List.{append-nil}
use Rattle.sql_tree.specs.declared.table.Table.{Table}
use Rattle.typing_rules.specs.Mentions.{kept, numbers_from, columns_where}
use Rattle.typing_parts.specs.Marked.{IsMarked}

or_none : (b : Bool) → (b || false) ≡ b
or_none true = refl
or_none false = refl

or_assoc : (a b c : Bool) → ((a || b) || c) ≡ (a || (b || c))
or_assoc true b c = refl
or_assoc false b c = refl

-- no walk
pub marked_none : (marks : List Bool) → IsMarked marks marks (λ c. false)
marked_none marks = record { same = refl; each = λ c h. sym (or_none (get_or marks c false)) }

-- one walk after another
pub marked_then : (a b d : List Bool) (p q : ℕ → Bool) → IsMarked a b p → IsMarked b d q → IsMarked a d (λ c. p c || q c)
marked_then a b d p q first then = record {
  same = then.same ∙ first.same;
  each = λ c h.
      then.each c (omega (arith, first.same)) ∙ ap (λ m. m || q c) (first.each c h) ∙ or_assoc (get_or a c false) (p c) (q c);
}

-- the same columns in other words
pub marked_as : (a b : List Bool) (p q : ℕ → Bool) → IsMarked a b p → ((c : ℕ) → p c ≡ q c) → IsMarked a b q
marked_as a b p q marked same = record { same = marked.same; each = λ c h. marked.each c h ∙ ap (λ m. get_or a c false || m) (same c) }

list_any-append : {A : Type 0} (p : A → Bool) (xs : List A) (x : A) → list_any p (xs ++ x ∷ []) ≡ (list_any p xs || p x)
list_any-append p [] x = or_none (p x)
list_any-append p (y ∷ ys) x = ap (λ m. p y || m) (list_any-append p ys x) ∙ sym (or_assoc (p y) (list_any p ys) (p x))

-- one item more of which one may be such
pub any_more : {A : Type 0} (p : A → Bool) (all : List A) (i : ℕ) (x : A) → i < length all → x ≡ get_or all i x
    → list_any p (take (i + 1) all) ≡ (list_any p (take i all) || p x)
any_more p all i x within is =
    let longer : take (i + 1) all ≡ take i all ++ x ∷ [] = rw add-one (take-suc all i x within ∙ ap (λ z. take i all ++ z ∷ []) (sym is)) in
    ap (list_any p) longer ∙ list_any-append p (take i all) x

kept_one : (p q : ℕ → Bool) (n : ℕ) (ns ms : List ℕ) → p n ≡ q n → kept p ns ≡ kept q ms → kept p (n ∷ ns) ≡ kept q (n ∷ ms)
kept_one p q n ns ms e f = rw (e, f) refl

kept_same : (p q : ℕ → Bool) (i n : ℕ) → ((c : ℕ) → i ≤ c → c < i + n → p c ≡ q c) → kept p (numbers_from i n) ≡ kept q (numbers_from i n)
kept_same p q i zero same = refl
kept_same p q i (suc n) same =
    kept_one p q i (numbers_from (i + 1) n) (numbers_from (i + 1) n) (same i (omega arith) (omega arith))
    (kept_same p q (i + 1) n (λ c h k. same c (omega arith) (omega arith)))

none_before : (n c : ℕ) → get_or (replicate {A = Bool} n false) c false ≡ false
none_before zero c = refl
none_before (suc n) zero = refl
none_before (suc n) (suc c) = none_before n c

length-replicate : (n : ℕ) → length (replicate {A = Bool} n false) ≡ n
length-replicate zero = refl
length-replicate (suc n) = ap suc (length-replicate n)

-- a column that was marked on marks of so many columns
pub marked_at : (n : ℕ) (marks : List Bool) (p : ℕ → Bool) (c : ℕ) → IsMarked (replicate {A = Bool} n false) marks p → c < n
    → get_or marks c false ≡ p c
marked_at n marks p c marked within = marked.each c (omega (arith, length-replicate n)) ∙ ap (λ m. m || p c) (none_before n c)

-- the columns that were marked on marks of a table's columns
pub columns_marked : (t : Table) (marks : List Bool) (p : ℕ → Bool) → IsMarked (replicate {A = Bool} (length t.columns) false) marks p
    → kept (λ c. not (c == t.key) && get_or marks c false) (numbers_from 0 (length marks)) ≡ columns_where t p
columns_marked t marks p marked =
    let many : length marks ≡ length t.columns = marked.same ∙ length-replicate (length t.columns) in
    rw many (kept_same (λ c. not (c == t.key) && get_or marks c false) (λ c. not (c == t.key) && p c) 0 (length t.columns)
    (λ c h k. ap (λ m. not (c == t.key) && m) (marked_at (length t.columns) marks p c marked (omega arith))))

numbers-append : (i n : ℕ) → numbers_from i (suc n) ≡ numbers_from i n ++ (i + n) ∷ []
numbers-append i zero = ap (λ k. k ∷ []) (omega arith)
numbers-append i (suc n) =
    let same : i + 1 + n ≡ i + suc n = omega arith in
    ap (λ ks. i ∷ ks) (numbers-append (i + 1) n ∙ ap (λ k. numbers_from (i + 1) n ++ k ∷ []) same)

kept-append : (p : ℕ → Bool) (ns : List ℕ) (n : ℕ) → kept p (ns ++ n ∷ []) ≡ kept p ns ++ cond (p n) (n ∷ []) []
kept-append p [] n = refl
kept-append p (m ∷ ms) n = following (p m) m (kept p (ms ++ n ∷ [])) (kept p ms) (cond (p n) (n ∷ []) []) (kept-append p ms n)
  where
    following : (b : Bool) (m : ℕ) (all before last : List ℕ) → all ≡ before ++ last → cond b (m ∷ all) all ≡ cond b (m ∷ before) before ++ last
    following true m all before last e = ap (λ ns. m ∷ ns) e
    following false m all before last e = e

kept-step : (p : ℕ → Bool) (n : ℕ) → kept p (numbers_from 0 (n + 1)) ≡ kept p (numbers_from 0 n) ++ cond (p n) (n ∷ []) []
kept-step p n =
    let next : 0 + n ≡ n = omega arith in
    let longer : numbers_from 0 (n + 1) ≡ numbers_from 0 n ++ n ∷ [] =
    rw add-one (numbers-append 0 n ∙ ap (λ k. numbers_from 0 n ++ k ∷ []) next) in
    ap (kept p) longer ∙ kept-append p (numbers_from 0 n) n

-- one number more, which is kept
pub kept_more : (p : ℕ → Bool) (n : ℕ) → p n ≡ true → kept p (numbers_from 0 n) ++ n ∷ [] ≡ kept p (numbers_from 0 (n + 1))
kept_more p n e = sym (kept-step p n ∙ ap (λ b. kept p (numbers_from 0 n) ++ cond b (n ∷ []) []) e)

-- one number more, which isn't
pub kept_less : (p : ℕ → Bool) (n : ℕ) → p n ≡ false → kept p (numbers_from 0 n) ≡ kept p (numbers_from 0 (n + 1))
kept_less p n e = sym (kept-step p n ∙ ap (λ b. kept p (numbers_from 0 n) ++ cond b (n ∷ []) []) e ∙ append-nil (kept p (numbers_from 0 n)))
