-- Keys that ascend are different.
use Rattle.std.proofs.Common.{◌≡◌, ℕ, ◌+◌, suc, List, [], ◌∷◌, Some, arith, rules, refl, ap, sym, ◌∙◌}
use Rattle.std.specs.Cmp.{IsTotalOrder}
use Rattle.std.specs.List.{AllByRecursion, slice_get}
use Rattle.std.specs.declared.cmp.Ordering.{Ordering}
use Rattle.std.specs.declared.cmp.Ordering.TheVariants.{Less, Equal}
use Rattle.std.proofs.lemmas.Cmp.{tied_itself}
use Rattle.std.proofs.lemmas.List.Elements.{All-contains, All-from_recursion}
use Rattle.cell_base.specs.contracts.key.KeyOrd.TheImpl as key_ord
use Rattle.cell_base.specs.contracts.key.KeyOrd.TheImpl.Laws as key_laws
use Rattle.cell_base.specs.declared.key.Key.{Key}
use Rattle.cell_base.specs.declared.key.Key.TheVariants.{Int, Text}
use Rattle.history_core.specs.Legal.{IsKeyBelow}
use Rattle.statement_course.specs.Laws.{AreDistinct}

abbrev key_cmp : Key → Key → Ordering
key_cmp = (key_ord.ghosts).cmp

key_total : IsTotalOrder key_cmp
key_total = key_laws.total-law

below_from_less : (a b : Key) → key_cmp a b ≡ Less → IsKeyBelow a b
below_from_less (Int a) (Int b) is = search rules
below_from_less (Int a) (Text b) is = tt
below_from_less (Text a) (Int b) is = search rules
below_from_less (Text a) (Text b) is = search rules

less_from_below : (a b : Key) → IsKeyBelow a b → key_cmp a b ≡ Less
less_from_below (Int a) (Int b) is = search rules
less_from_below (Int a) (Text b) is = search rules
less_from_below (Text a) (Int b) is = absurd is
less_from_below (Text a) (Text b) is = search rules

not_itself : (a : Key) → IsKeyBelow a a → ⊥
not_itself a below = let both : Less ≡ Equal = sym (less_from_below a a below) ∙ tied_itself key_total a in cc

below_later : (a b c : Key) → IsKeyBelow a b → IsKeyBelow b c → IsKeyBelow a c
below_later a b c first second = below_from_less a c (key_total.trans a b c (less_from_below a b first) (less_from_below b c second))

-- each key is below the next one
abbrev pub Ascends : List Key → Type 0
Ascends keys = (k : ℕ) (a b : Key) → slice_get keys k ≡ Some a → slice_get keys (k + 1) ≡ Some b → IsKeyBelow a b

after_first : (key : Key) (keys : List Key) → Ascends (key ∷ keys) → Ascends keys
after_first key keys h k a b at_a at_b =
    let same : suc k + 1 ≡ suc (k + 1) = omega arith in h (suc k) a b at_a (ap (slice_get (key ∷ keys)) same ∙ at_b)

all_above : (low key : Key) (keys : List Key) → IsKeyBelow low key → AllByRecursion (IsKeyBelow key) keys → AllByRecursion (IsKeyBelow low) keys
all_above low key [] below h = tt
all_above low key (k ∷ ks) below h = (below_later low key k below h.0, all_above low key ks below h.1)

above_first : (key : Key) (keys : List Key) → Ascends (key ∷ keys) → AllByRecursion (IsKeyBelow key) keys
above_first key [] h = tt
above_first key (k ∷ ks) h =
    let below = h 0 key k refl refl in (below, all_above key k ks below (above_first k ks (after_first key (k ∷ ks) h)))

pub ascending_distinct : (keys : List Key) → Ascends keys → AreDistinct keys
ascending_distinct [] h = tt
ascending_distinct (key ∷ keys) h = (
  (λ there. not_itself key (All-contains (IsKeyBelow key) keys key (All-from_recursion (IsKeyBelow key) keys (above_first key keys h)) there)),
  ascending_distinct keys (after_first key keys h),
)
