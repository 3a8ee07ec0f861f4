-- An expression with IN is typed by its left side and its members.
use Rattle.std.proofs.Common.{◌≡◌, List, [], ◌∷◌, map, Ok, refl, ap, ◌∙◌, rules, arith}
use Rattle.std.specs.Prelude.{Bool, Result}
use Rattle.sql_tree.specs.declared.expr.Expr.{Expr, the_lemmas}
use Rattle.sql_tree.specs.declared.expr.Expr.TheVariants.{In}
use Rattle.cell_base.specs.declared.sql_fault.SqlFault.{SqlFault}
use Rattle.typing_rules.specs.Gives.{Gives}
use Rattle.typing_rules.specs.declared.form.Form.{Form}
use Rattle.typing_rules.specs.declared.place.Place.{Place}
use Rattle.typing_rules.specs.Names.{Source}
use Rattle.typing_rules.specs.Expressions.{typing, typings, among}
use Rattle.typing_rules.specs.Outcome.{Outcome, and_then, all_of}

map_twice : {A B C : Type 0} (f : A → B) (g : B → C) (xs : List A) → map g (map f xs) ≡ map (λ x. g (f x)) xs
map_twice f g [] = refl
map_twice f g (x ∷ xs) = ap (λ ys. g (f x) ∷ ys) (map_twice f g xs)

pub typing_in : (sources : List Source) (place : Place) (left : Expr) (members : List Expr) (negated : Bool)
    → typing sources (In left members negated) place ≡ and_then (typing sources left place) (λ x. and_then (typings sources members place) (λ xs. among x xs negated))
typing_in sources place left members negated =
    let opened : typing sources (In left members negated) place ≡ and_then (typing sources left place) (λ x. and_then (all_of (map (λ m. m place) (map (typing sources) members))) (λ xs. among x xs negated))
    = first_of (search (rules, the_lemmas), grind (arith, the_lemmas), search rules) in
    opened ∙ ap (λ ms. and_then (typing sources left place) (λ x. and_then (all_of ms) (λ xs. among x xs negated))) (map_twice (typing sources) (λ m. m place) members)

pub gives_in : (left : Outcome Form) (members : Outcome (List Form)) (x : Form) (xs : List Form) (negated : Bool) (r : Result Form SqlFault)
    → left ≡ Ok x → members ≡ Ok xs → Gives (among x xs negated) r → Gives (and_then left (λ x. and_then members (λ xs. among x xs negated))) r
gives_in left members x xs negated r e f g = rw (e, f) g
