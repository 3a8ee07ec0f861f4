-- The order of values and of rows is total.
use Rattle.std.proofs.Common.{◌≡◌, ℕ, ◌<◌, ◌≤◌, length, drop, drop-cons, ℤ, Bool, true, false, List, [], ◌∷◌, Option, Some, None, refl, subst, pos}
use Rattle.std.proofs.lemmas.List.{drop_all}
use Rattle.std.proofs.lemmas.List.Sorted.{ranks_by}
use Rattle.std.specs.declared.cmp.Ordering.{Ordering}
use Rattle.std.specs.declared.cmp.Ordering.TheVariants.{Less, Equal, Greater}
use Rattle.std.specs.Cmp.{IsTotalOrder, IsStrictWeakOrder, nat_cmp_total, int_cmp_total, bool_cmp_total, then_total, on_total, back_total}
use Rattle.std.specs.Cmp.Lexicographic.{slice_cmp, nat_list_cmp_total, options_total}
use Rattle.std.specs.Option.{option_cmp}
use Rattle.std.specs.Ordering.{nat_cmp, int_cmp, bool_cmp, ordering_then, then_cmp, on}
use Rattle.cell_base.specs.declared.value.Value.{Value}
use Rattle.cell_base.specs.declared.value.Value.TheVariants.{Unset, Flag, Int, Wide, Text, Null}
use Rattle.row_meaning.specs.Ordering.{Sorted, rank, order_ascending, order_directed, order_by, is_before}

flag_in : Value → Bool
flag_in (Flag flag) = flag
flag_in _ = false

number_in : Value → ℤ
number_in (Int n) = n
number_in (Wide n) = n
number_in _ = pos 0

text_in : Value → List ℕ
text_in (Text text) = text
text_in _ = []

-- by the type, and then by what stands in the value
abbrev by_parts : Value → Value → Ordering
by_parts = then_cmp (on rank nat_cmp) (then_cmp (on flag_in bool_cmp) (then_cmp (on number_in int_cmp) (on text_in (slice_cmp nat_cmp))))

parts_total : IsTotalOrder by_parts
parts_total = then_total (on_total rank nat_cmp_total) (then_total (on_total flag_in bool_cmp_total) (then_total (on_total number_in int_cmp_total) (on_total text_in nat_list_cmp_total)))

then_equal : (r : Ordering) → ordering_then r Equal ≡ r
then_equal Less = refl
then_equal Equal = refl
then_equal Greater = refl

is_by_parts : (a b : Value) → by_parts a b ≡ order_ascending a b
unfolding flag_in number_in text_in
is_by_parts (Int a) (Int b) = then_equal (int_cmp a b)
is_by_parts (Wide a) (Wide b) = then_equal (int_cmp a b)
is_by_parts (Flag a) (Flag b) = then_equal (bool_cmp a b)
is_by_parts Unset (Int b) = refl
is_by_parts (Text a) (Int b) = refl
is_by_parts Null (Int b) = refl
is_by_parts _ _ = refl

pub ascending_total : IsTotalOrder order_ascending
ascending_total = subst IsTotalOrder (λ i a b. is_by_parts a b i) parts_total

pub directed_total : (d : Bool) → IsTotalOrder (order_directed d)
directed_total false = ascending_total
directed_total true = back_total ascending_total

first_term : List Value → Option Value
first_term [] = None
first_term (v ∷ vs) = Some v

other_terms : List Value → List Value
other_terms [] = []
other_terms (v ∷ vs) = vs

abbrev by_first : Bool → List Bool → List Value → List Value → Ordering
by_first d ds = then_cmp (on first_term (option_cmp (order_directed d))) (on other_terms (order_by ds))

none_equal : (ds : List Bool) → order_by ds [] [] ≡ Equal
none_equal [] = refl
none_equal (d ∷ ds) = refl

is_by_first : (d : Bool) (ds : List Bool) (xs ys : List Value) → by_first d ds xs ys ≡ order_by (d ∷ ds) xs ys
unfolding first_term other_terms
is_by_first d ds [] [] = none_equal ds
is_by_first d ds [] (y ∷ ys) = refl
is_by_first d ds (x ∷ xs) [] = refl
is_by_first d ds (x ∷ xs) (y ∷ ys) = refl

level : (xs ys : List Value) → Ordering
level xs ys = Equal

pub terms_total : (ds : List Bool) → IsTotalOrder (order_by ds)
terms_total [] = record { antisymm = λ x y. refl; trans = λ x y z h k. cc; congr = λ x y z h. refl }
terms_total (d ∷ ds) = subst IsTotalOrder (λ i xs ys. is_by_first d ds xs ys i) (then_total (on_total first_term (options_total (directed_total d))) (on_total other_terms (terms_total ds)))

pub before_weak : (ds : List Bool) → IsStrictWeakOrder (is_before ds)
before_weak ds = ranks_by (terms_total ds) (λ (r : Sorted). r.terms)

-- ---- where the values of one row end before those of the other

pub left_ends : (i : ℕ) (ds : List Bool) (xs ys : List Value) → i < length ds → length xs ≤ i → i < length ys → order_by (drop i ds) (drop i xs) (drop i ys) ≡ Less
left_ends i ds xs ys a b c = rw (drop-cons ds i false, drop_all i xs b, drop-cons ys i Null) refl

pub right_ends : (i : ℕ) (ds : List Bool) (xs ys : List Value) → i < length ds → i < length xs → length ys ≤ i → order_by (drop i ds) (drop i xs) (drop i ys) ≡ Greater
right_ends i ds xs ys a b c = rw (drop-cons ds i false, drop-cons xs i Null, drop_all i ys c) refl

pub both_end : (i : ℕ) (ds : List Bool) (xs ys : List Value) → i < length ds → length xs ≤ i → length ys ≤ i → order_by (drop i ds) (drop i xs) (drop i ys) ≡ Equal
both_end i ds xs ys a b c = rw (drop-cons ds i false, drop_all i xs b, drop_all i ys c) refl
