-- Tests over lists, and loops item by item.
use Rattle.std.proofs.Common.{Bool, ◌≡◌, ℕ, ◌+◌, ◌<◌, ◌||◌, List, [], ◌∷◌, ◌++◌, length, drop, get_or, map, Ok, Err, refl, ap, ◌∙◌}
use Rattle.std.specs.List.{list_any}
use Rattle.cell_base.specs.declared.sql_fault.SqlFault.{SqlFault}
use Rattle.cell_base.specs.declared.sql_fault.SqlFault.TheVariants.{State, Memory}
use Rattle.typing_rules.specs.Gives.{Gives}
use Rattle.typing_rules.specs.Outcome.{Outcome}
use Rattle.typing_rules.proofs.Lists.{with_rest, index_more, index_fault}

-- one of the values passes where one of the items does by its value
pub any_map : {A B : Type 0} (p : B → Bool) (f : A → B) (xs : List A) → list_any p (map f xs) ≡ list_any (λ x. p (f x)) xs
any_map p f [] = refl
any_map p f (x ∷ xs) = ap (λ b. p (f x) || b) (any_map p f xs)

-- one item more
pub item_more : {A B : Type 0} (f : A → Outcome B) (all : List A) (i : ℕ) (x : A) (y : B) (done after : List B) (o : Outcome (List B))
    → i < length all → x ≡ get_or all i x → f x ≡ Ok y → after ≡ done ++ y ∷ [] → with_rest f done (drop i all) ≡ o
    → with_rest f after (drop (i + 1) all) ≡ o
item_more f all i x y done after o within is e longer so_far =
    ap (λ ys. with_rest f ys (drop (i + 1) all)) longer ∙ index_more f all i x y done o within is e so_far

-- an item that fails
pub item_failed : {A B : Type 0} (f : A → Outcome B) (all : List A) (i : ℕ) (x : A) (done : List B) (why : SqlFault) (o : Outcome (List B))
    → i < length all → x ≡ get_or all i x → Gives {A = B} (f x) (Err why) → with_rest f done (drop i all) ≡ o → Gives {A = List B} o (Err why)
item_failed f all i x done (State code) o within is e so_far = index_fault f all i x code done o within is e so_far
item_failed f all i x done Memory o within is e so_far = tt
