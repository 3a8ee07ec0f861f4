-- The columns of a SELECT: how many there are, their names and their types.
use Rattle.std.proofs.Common.{◌≡◌, ℕ, ◌+◌, ◌≤◌, List, [], ◌∷◌, ◌++◌, length, length-append, Ok, Err, refl, All, arith}
use Rattle.std.specs.Prelude.{nat_lt}
use Rattle.std.proofs.lemmas.Bool.{cond_both, ltb-false}
use Rattle.std.proofs.lemmas.List.Elements.{All-nil, All-cons, All-head, All-tail, All-append}
use Rattle.cell_base.specs.declared.sql_state.SqlState.TheVariants.{S54000}
use Rattle.sql_tree.specs.declared.expr.Expr.{out-Expr}
use Rattle.sql_tree.specs.declared.statement.Item.{Item}
use Rattle.sql_tree.specs.declared.statement.Item.TheVariants as item
use Rattle.sql_tree.specs.declared.table.Column.{Column}
use Rattle.sql_grammar.specs.Limited.{IsPlainName}
use Rattle.typing_rules.specs.declared.place.Place.{Place}
use Rattle.typing_rules.specs.declared.place.Place.TheVariants.{Row, Group}
use Rattle.typing_rules.specs.Expressions as forms
use Rattle.typing_rules.specs.Expressions.{typing}
use Rattle.typing_rules.specs.Names.{Source}
use Rattle.typing_rules.specs.Select.{Output, column_outputs, star_outputs, star_of, width, outputs_of, items_from, name_or, plain_name}
use Rattle.typing_rules.specs.Sound.{Holds}
use Rattle.typing_rules.proofs.Numbers.{then_holds}
use Rattle.pg_framing.specs.Replies.{FitsModifier}
use Rattle.described_columns.specs.Described.{NamesPlainly}
use Rattle.described_columns.proofs.Columns.{IsShown, AreShown}
use Rattle.described_columns.proofs.Types.{TypeFits, FormFits, typing_fits, item_fits}

pub record IsOutput (o : Output) : Type 0 where
  pub named : IsPlainName o.name
  pub fits : FitsModifier o.expr.kind

-- ---- all columns of all entries

columns_output : (e c : ℕ) (xs : List Column) → All IsShown xs → All IsOutput (column_outputs e c xs)
columns_output e c [] h = All-nil IsOutput
columns_output e c (x ∷ xs) h =
    let is = All-head IsShown x xs h in
    All-cons IsOutput _ (column_outputs e (c + 1) xs) (record { named = is.named; fits = is.fits }) (columns_output e (c + 1) xs (All-tail IsShown x xs h))

star_output : (e : ℕ) (ss : List Source) → All AreShown ss → All IsOutput (star_outputs e ss)
star_output e [] h = All-nil IsOutput
star_output e (s ∷ ss) h =
    All-append IsOutput (column_outputs e 0 s.columns) (star_outputs (e + 1) ss)
    (columns_output e 0 s.columns (All-head AreShown s ss h)) (star_output (e + 1) ss (All-tail AreShown s ss h))

-- ---- items

-- so many columns
record AreOutputs (n : ℕ) (os : List Output) : Type 0 where
  long : length os ≡ n
  each : All IsOutput os

star_gives : (place : Place) (ss : List Source) → All AreShown ss → Holds (AreOutputs (width ss item.Star)) (star_of place ss)
star_gives place [] h = tt
star_gives Row (s ∷ ss) h = record { long = refl; each = star_output 0 (s ∷ ss) h }
star_gives Group (s ∷ ss) h = tt

item_gives : (place : Place) (ss : List Source) (i : Item) → All AreShown ss → NamesPlainly i → Holds (AreOutputs (width ss i)) (outputs_of place ss i)
item_gives place ss item.Star h plain = star_gives place ss h
item_gives place ss (item.Expr e alias) h plain =
    let name = name_or (plain_name (out-Expr e)) alias in
    then_holds FormFits (AreOutputs 1) (typing ss e place) _ (typing_fits ss h e place)
    (λ x fits. then_holds TypeFits (AreOutputs 1) (forms.item x) (λ t. Ok (record { name = name; expr = t } ∷ [])) (item_fits x fits)
    (λ t is. record { long = refl; each = All-cons IsOutput (record { name = name; expr = t }) [] (record { named = plain; fits = is }) (All-nil IsOutput) }))

-- at most as many columns as a result may have
pub record AreFew (os : List Output) : Type 0 where
  pub few : length os ≤ 1664
  pub each : All IsOutput os

joined : (before os : List Output) (n : ℕ) → AreFew before → AreOutputs n os → length before + n ≤ 1664 → AreFew (before ++ os)
joined before os n h more fits =
    record { few = omega (arith, length-append before os, more.long, fits); each = All-append IsOutput before os h.each more.each }

pub items_few : (place : Place) (ss : List Source) (before : List Output) (is : List Item)
    → All AreShown ss → All NamesPlainly is → AreFew before → Holds AreFew (items_from place ss before is)
items_few place ss before [] h plain few = few
items_few place ss before (i ∷ is) h plain few =
    cond_both (nat_lt 1664 (length before + width ss i)) (Err S54000) _ (Holds AreFew) (λ _. tt)
    (λ fits. then_holds (AreOutputs (width ss i)) AreFew (outputs_of place ss i) _ (item_gives place ss i h (All-head NamesPlainly i is plain))
    (λ os more. items_few place ss (before ++ os) is h (All-tail NamesPlainly i is plain)
    (joined before os (width ss i) few more (ltb-false 1664 (length before + width ss i) fits))))
