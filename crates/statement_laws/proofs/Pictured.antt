-- Each run of a course that asks for nothing twice has a picture.
use Rattle.std.proofs.Common.{◌≡◌, ℕ, suc, ◌==◌, Bool, true, cond, List, [], ◌∷◌, ◌++◌, map, refl, sym, ap, subst, ◌∙◌, arith, rules}
use Rattle.std.specs.List.{AllByRecursion, Contains}
use Rattle.std.proofs.lemmas.Bool.{cond_both, eqb-true, eqb-false}
use Rattle.cell_base.specs.declared.cell.Cell.{Cell}
use Rattle.cell_base.specs.contracts.cell.CellPartialEq.TheImpl as cell_eq
use Rattle.cell_base.specs.declared.key.Key.{Key}
use Rattle.cell_base.specs.declared.value.Value.{Value}
use Rattle.cell_base.specs.declared.value.Value.TheVariants.{Null}
use Rattle.statement_course.specs.declared.demand.Demand.TheVariants as demands
use Rattle.statement_course.specs.Course.{Course, scan, touch, write, done}
use Rattle.statement_course.specs.Laws.{TouchesOnce}
use Rattle.statement_laws.specs.Demands.{demands_of}
use Rattle.statement_laws.specs.Runs.{Step, lists, finds, puts, demand_of, Ran, ListsOnce}
use Rattle.statement_laws.specs.Pictures.{Picture, IsOver}
use Rattle.statement_laws.specs.Scans.{ScansOnce}

-- ---- one more answer

abbrev same_cell : Cell → Cell → Bool
same_cell = (cell_eq.ghosts).eq

cell_same : (a b : Cell) → same_cell a b ≡ true → a ≡ b
cell_same a b is = search rules

cell_here : (a : Cell) → same_cell a a ≡ true
cell_here a = search rules

abbrev with_keys : Picture → ℕ → List Key → Picture
with_keys p table keys = record { listed = λ t. cond (t == table) keys (p.listed t); value = p.value }

abbrev with_value : Picture → Cell → Value → Picture
with_value p cell v = record { listed = p.listed; value = λ c. cond (same_cell c cell) v (p.value c) }

keys_here : (p : Picture) (table : ℕ) (keys : List Key) → (with_keys p table keys).listed table ≡ keys
keys_here p table keys =
    cond_both (table == table) keys (p.listed table) (λ ks. ks ≡ keys) (λ _. refl) (λ no. absurd (eqb-false table table no refl))

keys_there : (p : Picture) (table : ℕ) (keys : List Key) (t : ℕ) → (t ≡ table → ⊥) → (with_keys p table keys).listed t ≡ p.listed t
keys_there p table keys t other =
    cond_both (t == table) keys (p.listed t) (λ ks. ks ≡ p.listed t) (λ yes. absurd (other (eqb-true t table yes))) (λ no. refl)

value_here : (p : Picture) (cell : Cell) (v : Value) → (with_value p cell v).value cell ≡ v
value_here p cell v = ap (λ b. cond b v (p.value cell)) (cell_here cell)

value_there : (p : Picture) (cell : Cell) (v : Value) (c : Cell) → (c ≡ cell → ⊥) → (with_value p cell v).value c ≡ p.value c
value_there p cell v c other =
    cond_both (same_cell c cell) v (p.value c) (λ w. w ≡ p.value c) (λ yes. absurd (other (cell_same c cell yes))) (λ no. refl)

-- ---- members

first_in : {A : Type 0} (x : A) (xs : List A) → Contains (x ∷ xs) x
first_in x xs = (0, omega arith, refl)

later_in : {A : Type 0} (y x : A) (ys : List A) → Contains ys x → Contains (y ∷ ys) x
later_in y x ys there = (suc there.0, omega (arith, there.1), there.2)

-- ---- the picture

-- a picture of the run that agrees with an older one on these tables and cells
record Pictured (tables : List ℕ) (cells : List Cell) (old : Picture) (course : Course) (steps : List Step) (left : Course) : Type 0 where
  new : Picture
  same_keys : (t : ℕ) → Contains tables t → new.listed t ≡ old.listed t
  same_values : (c : Cell) → Contains cells c → new.value c ≡ old.value c
  over : IsOver new course steps left

pictured : (tables : List ℕ) (cells : List Cell) (old : Picture) (course : Course) (steps : List Step) (left : Course)
    → ScansOnce tables course → TouchesOnce cells course → Ran course steps left → AllByRecursion ListsOnce steps
    → Pictured tables cells old course steps left
pictured tables cells old course [] left scans touches ran once = record {
  new = old;
  same_keys = λ t there. refl;
  same_values = λ c there. refl;
  over = record { shown = tt; demands = ap (demands_of old.listed old.value) (sym ran) };
}
pictured tables cells old (scan table rest) (lists t keys ∷ steps) left scans touches ran once =
    let now = with_keys old table keys in
    let more = pictured (table ∷ tables) cells now (rest keys) steps left (scans.1 keys) (touches keys once.0) ran.1 once.1 in
    let here : more.new.listed table ≡ keys = more.same_keys table (first_in table tables) ∙ keys_here old table keys in record {
      new = more.new;
      same_keys = λ u there. more.same_keys u (later_in table u tables there)
          ∙ keys_there old table keys u (λ e. scans.0 (subst (Contains tables) e there));
      same_values = more.same_values;
      over = record {
        shown = (ap more.new.listed ran.0 ∙ here, more.over.shown);
        demands = ap (λ ks. demands.Scan table ∷ demands_of more.new.listed more.new.value (rest ks)) here
            ∙ (ap (λ ds. demands.Scan table ∷ ds) more.over.demands
            ∙ ap (λ n. demands.Scan n ∷ (map demand_of steps ++ demands_of more.new.listed more.new.value left)) (sym ran.0));
      };
    }
pictured tables cells old (touch cell rest) (finds c v ∷ steps) left scans touches ran once =
    let now = with_value old cell v in
    let more = pictured tables (cell ∷ cells) now (rest v) steps left (scans v) (touches.1 v) ran.1 once.1 in
    let here : more.new.value cell ≡ v = more.same_values cell (first_in cell cells) ∙ value_here old cell v in record {
      new = more.new;
      same_keys = more.same_keys;
      same_values = λ d there. more.same_values d (later_in cell d cells there)
          ∙ value_there old cell v d (λ e. touches.0 (subst (Contains cells) e there));
      over = record {
        shown = (ap more.new.value ran.0 ∙ here, more.over.shown);
        demands = ap (λ w. demands.Touch cell ∷ demands_of more.new.listed more.new.value (rest w)) here
            ∙ (ap (λ ds. demands.Touch cell ∷ ds) more.over.demands
            ∙ ap (λ d. demands.Touch d ∷ (map demand_of steps ++ demands_of more.new.listed more.new.value left)) (sym ran.0));
      };
    }
pictured tables cells old (write cell value rest) (puts c v ∷ steps) left scans touches ran once =
    let more = pictured tables cells old rest steps left scans touches ran.2 once.1 in record {
      new = more.new;
      same_keys = more.same_keys;
      same_values = more.same_values;
      over = record {
        shown = (tt, more.over.shown);
        demands = ap (λ ds. demands.Write cell value ∷ ds) more.over.demands
            ∙ (ap (λ d. demands.Write d value ∷ (map demand_of steps ++ demands_of more.new.listed more.new.value left)) (sym ran.0)
            ∙ ap (λ w. demands.Write c w ∷ (map demand_of steps ++ demands_of more.new.listed more.new.value left)) (sym ran.1));
      };
    }
pictured tables cells old (scan table rest) (finds c v ∷ steps) left scans touches ran once = absurd ran
pictured tables cells old (scan table rest) (puts c v ∷ steps) left scans touches ran once = absurd ran
pictured tables cells old (touch cell rest) (lists t keys ∷ steps) left scans touches ran once = absurd ran
pictured tables cells old (touch cell rest) (puts c v ∷ steps) left scans touches ran once = absurd ran
pictured tables cells old (write cell value rest) (lists t keys ∷ steps) left scans touches ran once = absurd ran
pictured tables cells old (write cell value rest) (finds c v ∷ steps) left scans touches ran once = absurd ran
pictured tables cells old (done outcome) (step ∷ steps) left scans touches ran once = absurd ran

-- a course that asks for nothing twice
pub has_picture : (course : Course) (steps : List Step) (left : Course)
    → ScansOnce [] course → TouchesOnce [] course → Ran course steps left → AllByRecursion ListsOnce steps
    → (p : Picture) × IsOver p course steps left
has_picture course steps left scans touches ran once =
    let found = pictured [] [] (record { listed = λ t. []; value = λ c. Null }) course steps left scans touches ran once in
    (found.new, found.over)
