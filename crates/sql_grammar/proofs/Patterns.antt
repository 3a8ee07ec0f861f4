-- Patterns of marks.
use Rattle.std.proofs.Common.{◌≡◌, ℕ, ◌<◌, Bool, true, false, List, [], ◌∷◌, ◌++◌, Option, Some, refl, sym, ◌∙◌, arith, inl, inr}
use Rattle.std.specs.Prelude.{◌||◌, ◌&&◌, not, ◌⊎◌, eqb}
use Rattle.std.proofs.lemmas.Bool.{eqb-true, eq-eqb}
use denote.Enum.Declared.{tag_of}
use Rattle.sql_tree.specs.declared.token.Sign.TheVariants as s
use Rattle.sql_tree.specs.contracts.token.Sign as the_sign
use Rattle.sql_grammar.specs.contracts.mark.Keyword as the_keyword
use Rattle.sql_grammar.specs.declared.mark.Keyword.TheVariants as k
use Rattle.sql_grammar.specs.declared.mark.Sought.TheVariants as sought
use Rattle.sql_grammar.specs.declared.mark.Word.{Word}
use Rattle.sql_grammar.specs.declared.mark.Mark.{Mark}
use Rattle.sql_grammar.specs.declared.mark.Mark.TheVariants.{Key, Plain, Quoted, Number, Str, Sign}
use Rattle.sql_grammar.specs.Grammar.{expr}
use Rattle.sql_grammar.specs.Syntax
use Rattle.sql_grammar.specs.Syntax.{Kind, kind, place, among, is, is_name}
use Rattle.sql_grammar.specs.Steps.{Pattern, the, a_name, a_number, a_string, the_end, fit, any, differ, differs, apart, goes_on, begins_expression}
use Rattle.sql_grammar.proofs.Follow.{rank, begins}

pub and_left : (a b : Bool) → (a && b) ≡ true → a ≡ true
and_left true b e = refl
and_left false b e = e

pub and_right : (a b : Bool) → (a && b) ≡ true → b ≡ true
and_right true b e = e
and_right false b e = cc

pub not_true : (a : Bool) → not a ≡ true → a ≡ false
not_true true e = cc
not_true false e = refl

pub true_false : {a : Bool} → a ≡ true → a ≡ false → ⊥
true_false e f = cc

pub or_left : (a b : Bool) → a ≡ true → (a || b) ≡ true
or_left true b e = refl
or_left false b e = cc

pub or_right : (a b : Bool) → b ≡ true → (a || b) ≡ true
or_right true b e = refl
or_right false b e = e

pub or_split : (a b : Bool) → (a || b) ≡ true → (a ≡ true) ⊎ (b ≡ true)
or_split true b e = inl refl
or_split false b e = inr e

-- ---- lists of patterns

pub any_first : (p : Pattern) (ps : List Pattern) (m : Kind) → fit p m ≡ true → any (p ∷ ps) m ≡ true
any_first p [] m e = e
any_first p (q ∷ ps) m e = or_left (fit p m) (any (q ∷ ps) m) e

pub any_rest : (p : Pattern) (ps : List Pattern) (m : Kind) → any ps m ≡ true → any (p ∷ ps) m ≡ true
any_rest p [] m e = cc
any_rest p (q ∷ ps) m e = or_right (fit p m) (any (q ∷ ps) m) e

pub any_cases : (p : Pattern) (ps : List Pattern) (m : Kind) → any (p ∷ ps) m ≡ true → (fit p m ≡ true) ⊎ (any ps m ≡ true)
any_cases p [] m e = inl e
any_cases p (q ∷ ps) m e = or_split (fit p m) (any (q ∷ ps) m) e

pub any_left : (ps qs : List Pattern) (m : Kind) → any ps m ≡ true → any (ps ++ qs) m ≡ true
any_left [] qs m e = cc
any_left (p ∷ ps) qs m e = elim (any_cases p ps m e) as (λ _. any (p ∷ (ps ++ qs)) m ≡ true) [ inl h ↦ any_first p (ps ++ qs) m h | inr h ↦ any_rest p (ps ++ qs) m (any_left ps qs m h) ]

pub any_right : (ps qs : List Pattern) (m : Kind) → any qs m ≡ true → any (ps ++ qs) m ≡ true
any_right [] qs m e = e
any_right (p ∷ ps) qs m e = any_rest p (ps ++ qs) m (any_right ps qs m e)

pub any_split : (ps qs : List Pattern) (m : Kind) → any (ps ++ qs) m ≡ true → (any ps m ≡ true) ⊎ (any qs m ≡ true)
any_split [] qs m e = inr e
any_split (p ∷ ps) qs m e = elim (any_cases p (ps ++ qs) m e) as (λ _. (any (p ∷ ps) m ≡ true) ⊎ (any qs m ≡ true)) [
  | inl h ↦ inl (any_first p ps m h)
  | inr h ↦ elim (any_split ps qs m h) as (λ _. (any (p ∷ ps) m ≡ true) ⊎ (any qs m ≡ true)) [ inl g ↦ inl (any_rest p ps m g) | inr g ↦ inr g ]
]

-- ---- patterns that differ

two_ways : (a : Bool) → a ≡ true → not a ≡ true → ⊥
two_ways true e f = cc
two_ways false e f = cc

-- two numbers that are a third are one
same_places : (n a b : ℕ) → eqb n a ≡ true → eqb n b ≡ true → not (eqb a b) ≡ true → ⊥
same_places n a b e f h = let g : a ≡ b = sym (eqb-true n a e) ∙ eqb-true n b f in two_ways (eqb a b) (eq-eqb a b g) h

not_among : (but : List Word) (n : ℕ) (v : Word) → eqb n (place v) ≡ true → not (among but n) ≡ true → among but (place v) ≡ true → ⊥
not_among but n v e f h = let g : n ≡ place v = eqb-true n (place v) e in let i : among but n ≡ true = rw g h in two_ways (among but n) i f

clash : (m : Kind) (p q : Pattern) → differ p q ≡ true → fit p m ≡ true → fit q m ≡ true → ⊥
clash (Syntax.word true n) (the (sought.Plain v)) (the (sought.Plain w)) h e f = same_places n (place v) (place w) e f h
clash (Syntax.word true n) (the (sought.Plain v)) (a_name but) h e f = not_among but n v e f h
clash (Syntax.word true n) (a_name but) (the (sought.Plain v)) h e f = not_among but n v f e h
clash (Syntax.word false n) (the (sought.Reserved v)) (the (sought.Reserved w)) h e f = same_places n (place v) (place w) e f h
clash (Syntax.key n) (the (sought.Key v)) (the (sought.Key w)) h e f = same_places n (tag_of the_keyword.the_type v) (tag_of the_keyword.the_type w) e f h
clash (Syntax.sign n) (the (sought.Sign v)) (the (sought.Sign w)) h e f = same_places n (tag_of the_sign.the_type v) (tag_of the_sign.the_type w) e f h
clash Syntax.end the_end (the (sought.Plain v)) h e f = cc
clash Syntax.end (the (sought.Plain v)) q h e f = cc
clash Syntax.quoted (a_name but) (the (sought.Plain v)) h e f = cc
clash Syntax.quoted (the (sought.Plain v)) q h e f = cc
clash Syntax.number a_number (the (sought.Plain v)) h e f = cc
clash Syntax.number (the (sought.Plain v)) q h e f = cc
clash Syntax.string a_string (the (sought.Plain v)) h e f = cc
clash Syntax.string (the (sought.Plain v)) q h e f = cc
clash Syntax.parameter (the (sought.Plain v)) q h e f = cc
clash _ _ _ h e f = cc

one_apart : (p : Pattern) (qs : List Pattern) (m : Kind) → differs p qs ≡ true → any qs m ≡ true → fit p m ≡ true → ⊥
one_apart p [] m h f e = cc
one_apart p (q ∷ qs) m h f e = elim (any_cases q qs m f) as (λ _. ⊥) [
  | inl g ↦ clash m p q (and_left (differ p q) (differs p qs) h) e g
  | inr g ↦ one_apart p qs m (and_right (differ p q) (differs p qs) h) g e
]

all_apart : (ps qs : List Pattern) (m : Kind) → apart ps qs ≡ true → any qs m ≡ true → any ps m ≡ true → ⊥
all_apart [] qs m h f e = cc
all_apart (p ∷ ps) qs m h f e = elim (any_cases p ps m e) as (λ _. ⊥) [
  | inl g ↦ one_apart p qs m (and_left (differs p qs) (apart ps qs) h) f g
  | inr g ↦ all_apart ps qs m (and_right (differs p qs) (apart ps qs) h) f g
]

never : (a : Bool) → (a ≡ true → ⊥) → a ≡ false
never true f = absurd (f refl)
never false f = refl

pub apart_mark : (ps qs : List Pattern) → apart ps qs ≡ true → (m : Option Mark) → any qs (kind m) ≡ true → any ps (kind m) ≡ false
apart_mark ps qs h m f = never (any ps (kind m)) (all_apart ps qs (kind m) h f)

-- what no expression goes on with ends it
pub expression_ends : (m : Option Mark) → any goes_on (kind m) ≡ false → 10 < rank m
expression_ends (Some (Sign s.Dot)) e = absurd (true_false {a = true} refl e)
expression_ends (Some (Sign s.Open)) e = absurd (true_false {a = true} refl e)
expression_ends (Some (Sign s.Star)) e = absurd (true_false {a = true} refl e)
expression_ends (Some (Sign s.Slash)) e = absurd (true_false {a = true} refl e)
expression_ends (Some (Sign s.Percent)) e = absurd (true_false {a = true} refl e)
expression_ends (Some (Sign s.Plus)) e = absurd (true_false {a = true} refl e)
expression_ends (Some (Sign s.Minus)) e = absurd (true_false {a = true} refl e)
expression_ends (Some (Sign s.Eq)) e = absurd (true_false {a = true} refl e)
expression_ends (Some (Sign s.Ne)) e = absurd (true_false {a = true} refl e)
expression_ends (Some (Sign s.Lt)) e = absurd (true_false {a = true} refl e)
expression_ends (Some (Sign s.Le)) e = absurd (true_false {a = true} refl e)
expression_ends (Some (Sign s.Gt)) e = absurd (true_false {a = true} refl e)
expression_ends (Some (Sign s.Ge)) e = absurd (true_false {a = true} refl e)
expression_ends (Some (Key k.In)) e = absurd (true_false {a = true} refl e)
expression_ends (Some (Key k.Between)) e = absurd (true_false {a = true} refl e)
expression_ends (Some (Key k.Not)) e = absurd (true_false {a = true} refl e)
expression_ends (Some (Key k.Is)) e = absurd (true_false {a = true} refl e)
expression_ends (Some (Key k.And)) e = absurd (true_false {a = true} refl e)
expression_ends (Some (Key k.Or)) e = absurd (true_false {a = true} refl e)
expression_ends _ e = omega arith

-- what an expression begins with
pub expression_begins : (m : Mark) → begins expr m ≡ true → any begins_expression (kind (Some m)) ≡ true
expression_begins (Number n) e = refl
expression_begins (Str t) e = refl
expression_begins (Plain v t) e = refl
expression_begins (Quoted t) e = refl
expression_begins (Key k.True) e = refl
expression_begins (Key k.False) e = refl
expression_begins (Key k.Null) e = refl
expression_begins (Key k.Not) e = refl
expression_begins (Sign s.Open) e = refl
expression_begins (Sign s.Plus) e = refl
expression_begins (Sign s.Minus) e = refl
expression_begins m e = absurd (true_false e refl)
