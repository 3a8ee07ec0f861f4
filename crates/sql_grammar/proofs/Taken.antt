-- What the steps of a reading say where they succeed.
use Rattle.std.proofs.Common.{◌≡◌, ℕ, ◌≤◌, Bool, true, false, List, [], ◌∷◌, ◌++◌, Option, Some, None, refl, ap, subst}
use Rattle.std.specs.Prelude.{nat_le}
use Rattle.std.proofs.lemmas.Option.{cond_some}
use Rattle.std.proofs.lemmas.Bool.{leb-true}
use Rattle.sql_tree.specs.declared.token.Sign.TheVariants as s
use Rattle.sql_tree.specs.declared.expr.Expr.{Expr}
use Rattle.sql_grammar.specs.declared.mark.Keyword.TheVariants as k
use Rattle.sql_grammar.specs.declared.mark.Mark.{Mark}
use Rattle.sql_grammar.specs.declared.mark.Mark.TheVariants.{Key, Plain, Quoted, Sign}
use Rattle.sql_grammar.specs.declared.mark.Node.{Node}
use Rattle.sql_grammar.specs.Grammar.{Level, Spells, name_of, nots}
use Rattle.sql_grammar.specs.Reading.{Parser, and_then, node, made, close, opening, null_word, and_word, not_word, comma, name}

-- both steps of a bind
pub record Steps {A B : Type 0} (o : Option (A × List Mark)) (f : A → Parser B) (y : B × List Mark) : Type 0 where
  pub value : A
  pub after : List Mark
  pub first : o ≡ Some (value, after)
  pub second : f value after ≡ Some y

pub bind : {A B : Type 0} (o : Option (A × List Mark)) (f : A → Parser B) (y : B × List Mark) → and_then o f ≡ Some y → Steps o f y
bind None f y e = absurd (cc)
bind (Some p) f y e = record { value = p.0; after = p.1; first = refl; second = e }

pub none_some : {A : Type 0} {x : A} → None ≡ Some x → ⊥
none_some e = cc

-- what is in a Some
pub pair_of : {A : Type 0} (x y : A) → Some x ≡ Some y → x ≡ y
pair_of x y e = cc

pub value_of : {A : Type 0} (a x : A) (b y : List Mark) → ◌≡◌ {A = Option (A × List Mark)} (Some (a, b)) (Some (x, y)) → a ≡ x
value_of a x b y e = ap (λ p. p.0) (pair_of _ _ e)

pub after_of : {A : Type 0} (a x : A) (b y : List Mark) → ◌≡◌ {A = Option (A × List Mark)} (Some (a, b)) (Some (x, y)) → b ≡ y
after_of a x b y e = ap (λ p. p.1) (pair_of _ _ e)

-- the marks in front of the rest spell the tree
pub record Took (room : ℕ) (l : Level) (whole : List Mark) (x : Node) (after : List Mark) : Type 0 where
  pub taken : List Mark
  pub splits : whole ≡ taken ++ after
  pub spells : Spells l taken x.tree x.depth
  pub fits : x.depth ≤ room

pub done : (room : ℕ) (l : Level) (x : Node) (ts taken whole : List Mark) (y : Node) (r : List Mark) → ◌≡◌ {A = Option (Node × List Mark)} (Some (x, ts)) (Some (y, r))
    → whole ≡ taken ++ ts → Spells l taken x.tree x.depth → x.depth ≤ room → Took room l whole y r
done room l x ts taken whole y r e s sp f =
    let same : ◌≡◌ {A = Node × List Mark} (x, ts) (y, r) = pair_of _ _ e in
    let P : Node × List Mark → Type 0 = λ p. Took room l whole p.0 p.1 in
    subst P same (record { taken = taken; splits = s; spells = sp; fits = f })

pub made_takes : (room : ℕ) (l : Level) (t : Expr) (d : ℕ) (ts taken whole : List Mark) (y : Node) (r : List Mark) → made room t d ts ≡ Some (y, r)
    → whole ≡ taken ++ ts → Spells l taken t d → Took room l whole y r
unfolding made
made_takes room l t d ts taken whole y r e s sp =
    let h = cond_some (nat_le d room) (node t d, ts) (y, r) e in
    let P : Node × List Mark → Type 0 = λ p. Took room l whole p.0 p.1 in
    subst P h.1 (record { taken = taken; splits = s; spells = sp; fits = leb-true d room h.0 })

true_not_false : true ≡ false → ⊥
true_not_false e = cc

false_not_true : false ≡ true → ⊥
false_not_true e = cc

-- ---- single marks

pub close_takes : (ts : List Mark) (u : Unit {0}) (r : List Mark) → close ts ≡ Some (u, r) → ts ≡ Sign s.Close ∷ r
unfolding close
close_takes [] u r e = cc
close_takes (Sign s.Close ∷ ts) u r e = ap (λ z. Sign s.Close ∷ z) (after_of _ _ _ _ e)
close_takes (m ∷ ts) u r e = cc

pub opening_takes : (ts : List Mark) (u : Unit {0}) (r : List Mark) → opening ts ≡ Some (u, r) → ts ≡ Sign s.Open ∷ r
unfolding opening
opening_takes [] u r e = cc
opening_takes (Sign s.Open ∷ ts) u r e = ap (λ z. Sign s.Open ∷ z) (after_of _ _ _ _ e)
opening_takes (m ∷ ts) u r e = cc

pub null_word_takes : (ts : List Mark) (u : Unit {0}) (r : List Mark) → null_word ts ≡ Some (u, r) → ts ≡ Key k.Null ∷ r
unfolding null_word
null_word_takes [] u r e = cc
null_word_takes (Key k.Null ∷ ts) u r e = ap (λ z. Key k.Null ∷ z) (after_of _ _ _ _ e)
null_word_takes (m ∷ ts) u r e = cc

pub and_word_takes : (ts : List Mark) (u : Unit {0}) (r : List Mark) → and_word ts ≡ Some (u, r) → ts ≡ Key k.And ∷ r
unfolding and_word
and_word_takes [] u r e = cc
and_word_takes (Key k.And ∷ ts) u r e = ap (λ z. Key k.And ∷ z) (after_of _ _ _ _ e)
and_word_takes (m ∷ ts) u r e = cc

pub not_word_takes : (ts : List Mark) (n : Bool) (r : List Mark) → not_word ts ≡ Some (n, r) → ts ≡ nots n ++ r
unfolding not_word
not_word_takes [] true r e = absurd (false_not_true (value_of _ _ _ _ e))
not_word_takes [] false r e = after_of _ _ _ _ e
not_word_takes (Key k.Not ∷ ts) true r e = ap (λ z. Key k.Not ∷ z) (after_of _ _ _ _ e)
not_word_takes (Key k.Not ∷ ts) false r e = absurd (true_not_false (value_of _ _ _ _ e))
not_word_takes (m ∷ ts) true r e = absurd (false_not_true (value_of _ _ _ _ e))
not_word_takes (m ∷ ts) false r e = after_of _ _ _ _ e

-- a comma and what comes after it, or nothing
abbrev pub commas : Bool → List Mark
commas true = Sign s.Comma ∷ []
commas false = []

pub comma_takes : (ts : List Mark) (n : Bool) (r : List Mark) → comma ts ≡ Some (n, r) → ts ≡ commas n ++ r
unfolding comma
comma_takes [] true r e = absurd (false_not_true (value_of _ _ _ _ e))
comma_takes [] false r e = after_of _ _ _ _ e
comma_takes (Sign s.Comma ∷ ts) true r e = ap (λ z. Sign s.Comma ∷ z) (after_of _ _ _ _ e)
comma_takes (Sign s.Comma ∷ ts) false r e = absurd (true_not_false (value_of _ _ _ _ e))
comma_takes (m ∷ ts) true r e = absurd (false_not_true (value_of _ _ _ _ e))
comma_takes (m ∷ ts) false r e = after_of _ _ _ _ e

pub record Named (ts : List Mark) (called : List ℕ) (r : List Mark) : Type 0 where
  pub mark : Mark
  pub splits : ts ≡ mark ∷ r
  pub names : name_of mark ≡ Some called

pub name_takes : (ts : List Mark) (called : List ℕ) (r : List Mark) → name ts ≡ Some (called, r) → Named ts called r
unfolding name
name_takes [] called r e = absurd (cc)
name_takes (Plain w n ∷ ts) called r e = record { mark = Plain w n; splits = ap (λ z. Plain w n ∷ z) (after_of _ _ _ _ e); names = ap Some (value_of _ _ _ _ e) }
name_takes (Quoted n ∷ ts) called r e = record { mark = Quoted n; splits = ap (λ z. Quoted n ∷ z) (after_of _ _ _ _ e); names = ap Some (value_of _ _ _ _ e) }
name_takes (m ∷ ts) called r e = absurd (cc)
