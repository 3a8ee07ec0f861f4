-- The column of the key is never null, and the others stay.
use Rattle.std.proofs.Common.{◌≡◌, ℕ, zero, suc, ◌+◌, ◌<◌, ◌==◌, true, false, cond, List, [], ◌∷◌, length, get_or, set, refl, ap, sym, ◌∙◌, arith}
use Rattle.std.proofs.lemmas.Bool.{eq-eqb, ne_eqb}
use Rattle.sql_tree.specs.declared.table.Column.{Column}
use Rattle.typing_rules.specs.Building.{keyed_from, keyed}

abbrev pub never_null : Column → Column
never_null c = record c { not_null = true }

following : (key i : ℕ) (c : Column) (cs : List Column) → (i == key) ≡ false → keyed_from key i (c ∷ cs) ≡ c ∷ keyed_from key (i + 1) cs
following key i c cs h = ap (λ t. cond t (never_null c) c ∷ keyed_from key (i + 1) cs) h

here : (key i : ℕ) (c : Column) (cs : List Column) → (i == key) ≡ true → keyed_from key i (c ∷ cs) ≡ never_null c ∷ keyed_from key (i + 1) cs
here key i c cs h = ap (λ t. cond t (never_null c) c ∷ keyed_from key (i + 1) cs) h

kept : (key i : ℕ) (cs : List Column) → key < i → keyed_from key i cs ≡ cs
kept key i [] h = refl
kept key i (c ∷ cs) h = following key i c cs (ne_eqb i key (λ e. omega arith)) ∙ ap (λ rest. c ∷ rest) (kept key (i + 1) cs (omega arith))

keyed_at : (key i k : ℕ) (cs : List Column) (d : Column) → key ≡ i + k → k < length cs → keyed_from key i cs ≡ set cs k (never_null (get_or cs k d))
keyed_at key i k [] d is within = absurd (omega arith)
keyed_at key i zero (c ∷ cs) d is within = here key i c cs (eq-eqb i key (omega arith)) ∙ ap (λ rest. never_null c ∷ rest) (kept key (i + 1) cs (omega arith))
keyed_at key i (suc k) (c ∷ cs) d is within =
    following key i c cs (ne_eqb i key (λ e. omega arith)) ∙ ap (λ rest. c ∷ rest) (keyed_at key (i + 1) k cs d (omega arith) (omega arith))

-- the key's column alone changes
pub keyed_is : (key : ℕ) (cs : List Column) (d : Column) → key < length cs → keyed key cs ≡ set cs key (never_null (get_or cs key d))
keyed_is key cs d within = keyed_at key 0 key cs d (omega arith) within

pub keyed_after : (key : ℕ) (cs items : List Column) (now : Column) → items ≡ cs → key < length cs → now ≡ get_or items key now → keyed key cs ≡ set items key (never_null now)
keyed_after key cs items now same within is =
    keyed_is key cs now within ∙ ap (λ xs. set xs key (never_null (get_or xs key now))) (sym same) ∙ ap (λ c. set items key (never_null c)) (sym is)
