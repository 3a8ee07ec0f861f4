-- The columns that a SELECT mentions, and the keys at which its entries are read, entry by entry.
use Rattle.std.proofs.Common.{◌≡◌, ℕ, zero, suc, ◌+◌, ◌<◌, ◌≤◌, ◌^◌, ◌==◌, Bool, true, false, ◌||◌, ◌&&◌, cond, List, [], ◌∷◌, ◌++◌, length, take, drop, get_or, map, Option, None, refl, ap, sym, ◌∙◌, add-one, append_assoc, arith}
use Rattle.std.specs.List.{list_any}
use Rattle.std.proofs.Math.Seq.{take-suc}
use Rattle.std.proofs.lemmas.List.{map-append, length-map, length-take-le}
use Rattle.cell_base.specs.declared.key.Key.{Key}
use Rattle.sql_tree.specs.declared.typed_expr.TypedExpr.{TypedExpr}
use Rattle.typing_rules.specs.Mentions.{mentions}
use Rattle.typing_rules.specs.Points.{point_of}
use Rattle.typing_rules.specs.Select.{Entry, mentions_table, times_mentioned, points_from}
use Rattle.expr_typing.specs.Scope.{IsNarrow}
use Rattle.typing_parts.specs.Marked.{IsMarked}
use Rattle.typing_parts.proofs.Marking.{marked_then, marked_as, any_more}
use Rattle.select_typing.specs.declared.from.FromEntry.{FromEntry}
use Rattle.select_typing.specs.Entries.{entry, entries, seen}
use Rattle.typing_rules.proofs.Lists.{cut_at}
use Rattle.select_typing.proofs.Steps.{any_map}

or_none : (b : Bool) → (b || false) ≡ b
or_none true = refl
or_none false = refl

or_assoc : (a b c : Bool) → ((a || b) || c) ≡ (a || (b || c))
or_assoc true b c = refl
or_assoc false b c = refl

-- ---- mentions

mentions-push : (n c e k : ℕ) (ts : List Entry) (t : Entry) (x : TypedExpr) → k ≡ e + length ts
    → mentions_table n c e (ts ++ t ∷ []) x ≡ (mentions_table n c e ts x || ((t.found.number == n) && mentions k c x))
mentions-push n c e k [] t x is =
    let same : k ≡ e = omega arith in
    or_none ((t.found.number == n) && mentions e c x) ∙ ap (λ m. (t.found.number == n) && mentions m c x) (sym same)
mentions-push n c e k (s ∷ ts) t x is =
    ap (λ m. ((s.found.number == n) && mentions e c x) || m) (mentions-push n c (e + 1) k ts t x (omega arith))
    ∙ sym (or_assoc ((s.found.number == n) && mentions e c x) (mentions_table n c (e + 1) ts x) ((t.found.number == n) && mentions k c x))

pub mentions_more : (n c : ℕ) (all : List FromEntry) (i : ℕ) (t : FromEntry) (x : TypedExpr) → i < length all → t ≡ get_or all i t
    → mentions_table n c 0 (entries (take (i + 1) all)) x
    ≡ (mentions_table n c 0 (entries (take i all)) x || ((t.found.number == n) && mentions i c x))
mentions_more n c all i t x within is =
    let longer : take (i + 1) all ≡ take i all ++ t ∷ [] = rw add-one (take-suc all i t within ∙ ap (λ z. take i all ++ z ∷ []) (sym is)) in
    let shown : entries (take (i + 1) all) ≡ entries (take i all) ++ entry t ∷ [] = ap entries longer ∙ map-append entry (take i all) (t ∷ []) in
    let many : length (entries (take i all)) ≡ i = length-map (take i all) entry ∙ length-take-le i all (omega arith) in
    ap (λ es. mentions_table n c 0 es x) shown ∙ mentions-push n c 0 i (entries (take i all)) (entry t) x (omega arith)

pub marked_entry : (before now after : List Bool) (n : ℕ) (all : List FromEntry) (i : ℕ) (t : FromEntry) (x : TypedExpr) → i < length all
    → t ≡ get_or all i t
    → IsMarked before now (λ c. mentions_table n c 0 (entries (take i all)) x) → IsMarked now after (λ c. (t.found.number == n) && mentions i c x)
    → IsMarked before after (λ c. mentions_table n c 0 (entries (take (i + 1) all)) x)
marked_entry before now after n all i t x within is first then =
    marked_as before after (λ c. mentions_table n c 0 (entries (take i all)) x || ((t.found.number == n) && mentions i c x))
    (λ c. mentions_table n c 0 (entries (take (i + 1) all)) x)
    (marked_then before now after (λ c. mentions_table n c 0 (entries (take i all)) x) (λ c. (t.found.number == n) && mentions i c x) first then)
    (λ c. sym (mentions_more n c all i t x within is))

-- one expression more
pub marked_expr : {A : Type 0} (before now after : List Bool) (p : ℕ → A → Bool) (all : List A) (i : ℕ) (x : A) → i < length all → x ≡ get_or all i x
    → IsMarked before now (λ c. list_any (p c) (take i all)) → IsMarked now after (λ c. p c x)
    → IsMarked before after (λ c. list_any (p c) (take (i + 1) all))
marked_expr before now after p all i x within is first then =
    marked_as before after (λ c. list_any (p c) (take i all) || p c x) (λ c. list_any (p c) (take (i + 1) all))
    (marked_then before now after (λ c. list_any (p c) (take i all)) (λ c. p c x) first then)
    (λ c. sym (any_more (p c) all i x within is))

any-append : {A : Type 0} (p : A → Bool) (xs ys : List A) → list_any p (xs ++ ys) ≡ (list_any p xs || list_any p ys)
any-append p [] ys = refl
any-append p (x ∷ xs) ys = ap (λ b. p x || b) (any-append p xs ys) ∙ sym (or_assoc (p x) (list_any p xs) (list_any p ys))

-- three lists of expressions, one after another
pub marked_all : {A B : Type 0} (before first second after : List Bool) (p : ℕ → A → Bool) (f : B → A) (xs ys : List A) (zs : List B)
    → IsMarked before first (λ c. list_any (p c) xs) → IsMarked first second (λ c. list_any (p c) ys)
    → IsMarked second after (λ c. list_any (λ z. p c (f z)) zs)
    → IsMarked before after (λ c. list_any (p c) ((xs ++ ys) ++ map f zs))
marked_all before first second after p f xs ys zs a b d =
    marked_as before after (λ c. (list_any (p c) xs || list_any (p c) ys) || list_any (λ z. p c (f z)) zs)
    (λ c. list_any (p c) ((xs ++ ys) ++ map f zs))
    (marked_then before second after (λ c. list_any (p c) xs || list_any (p c) ys) (λ c. list_any (λ z. p c (f z)) zs)
    (marked_then before first second (λ c. list_any (p c) xs) (λ c. list_any (p c) ys) a b) d)
    (λ c. ap (λ m. (list_any (p c) xs || list_any (p c) ys) || m) (sym (any_map (p c) f zs))
    ∙ ap (λ m. m || list_any (p c) (map f zs)) (sym (any-append (p c) xs ys))
    ∙ sym (any-append (p c) (xs ++ ys) (map f zs)))

-- ---- points

pub points_more : (all : List FromEntry) (filter : Option TypedExpr) (i : ℕ) (t : FromEntry) (key : Option Key) (before : List (Option Key))
    (o : List (Option Key)) → i < length all → t ≡ get_or all i t
    → key ≡ cond (times_mentioned t.found.number (entries all) == 1) (point_of i t.found.table.now.key filter) None
    → before ++ points_from (entries all) filter i (entries (drop i all)) ≡ o
    → (before ++ key ∷ []) ++ points_from (entries all) filter (i + 1) (entries (drop (i + 1) all)) ≡ o
points_more all filter i t key before o within is k was =
    append_assoc before (key ∷ []) (points_from (entries all) filter (i + 1) (entries (drop (i + 1) all)))
    ∙ ap (λ x. before ++ x ∷ points_from (entries all) filter (i + 1) (entries (drop (i + 1) all))) k
    ∙ ap (λ es. before ++ points_from (entries all) filter i (entries es)) (sym (cut_at all i t within is)) ∙ was

one_time : (b : Bool) (m n : ℕ) → m ≤ n → cond b 1 0 + m ≤ suc n
one_time true m n h = omega arith
one_time false m n h = omega arith

-- a table stands at most as often as there are entries
pub times_within : (n : ℕ) (es : List Entry) → times_mentioned n es ≤ length es
times_within n [] = omega arith
times_within n (e ∷ es) = one_time (e.found.number == n) (times_mentioned n es) (length es) (times_within n es)

pub times_fit : (n times rest : ℕ) (all : List FromEntry) → times + rest ≡ times_mentioned n (entries all) → times ≤ length all
times_fit n times rest all h = let within = times_within n (entries all) in let many = length-map all entry in omega arith

-- ---- the columns of an entry's table have numbers of 32 bits

seen-get_or : (all : List FromEntry) (i : ℕ) (t : FromEntry) → get_or (map seen all) i (seen t) ≡ seen (get_or all i t)
seen-get_or [] i t = refl
seen-get_or (x ∷ xs) zero t = refl
seen-get_or (x ∷ xs) (suc i) t = seen-get_or xs i t

pub narrow_at : (all : List FromEntry) (i : ℕ) (t : FromEntry) → IsNarrow (map seen all) → i < length all → t ≡ get_or all i t
    → length t.found.table.now.columns < 2 ^ 32
narrow_at all i t h within is =
    let many : length (map seen all) ≡ length all = length-map all seen in
    let narrow : length (get_or (map seen all) i (seen t)).table.now.columns < 2 ^ 32 = h.narrow i (seen t) (omega arith) in
    let same : get_or (map seen all) i (seen t) ≡ seen t = seen-get_or all i t ∙ ap seen (sym is) in
    rw same at narrow
