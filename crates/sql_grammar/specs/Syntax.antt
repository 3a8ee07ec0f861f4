-- What the rules of statements are made of, and which marks each spells with which value.
use Rattle.std.specs.Prelude.{◌≡◌, ℕ, ℤ, Bool, true, false, eqb, not, if◌then◌else◌, List, [], ◌∷◌, ◌++◌, Option, Some, None}
use denote.Enum.Declared.{tag_of}
use Rattle.sql_tree.specs.declared.expr.Expr.{Expr}
use Rattle.sql_tree.specs.contracts.token.Sign as the_sign
use Rattle.sql_grammar.specs.contracts.mark.Keyword as the_keyword
use Rattle.sql_grammar.specs.declared.mark.Word.{Word}
use Rattle.sql_grammar.specs.contracts.mark.Word as the_word
use Rattle.sql_grammar.specs.declared.mark.Sought.{Sought}
use Rattle.sql_grammar.specs.declared.mark.Sought.TheVariants as sought
use Rattle.sql_grammar.specs.declared.mark.Mark.{Mark}
use Rattle.sql_grammar.specs.declared.mark.Mark.TheVariants.{Key, Reserved, Plain, Quoted, Number, Str, Param, Sign}
use Rattle.sql_grammar.specs.Grammar.{IsExpr, name_of}

-- ---- marks by kind

-- A mark without its text: words, keywords and signs by their places in their enums, and whether a word may be a name.
pub data Kind : Type 0 where
  end : Kind
  word : Bool → ℕ → Kind
  key : ℕ → Kind
  sign : ℕ → Kind
  quoted : Kind
  number : Kind
  string : Kind
  parameter : Kind

abbrev pub place : Word → ℕ
place w = tag_of the_word.the_type w

abbrev pub kind : Option Mark → Kind
kind None = end
kind (Some (Key k)) = key (tag_of the_keyword.the_type k)
kind (Some (Reserved w)) = word false (place w)
kind (Some (Plain w text)) = word true (place w)
kind (Some (Quoted text)) = quoted
kind (Some (Number n)) = number
kind (Some (Str text)) = string
kind (Some (Param n)) = parameter
kind (Some (Sign s)) = sign (tag_of the_sign.the_type s)

-- the word or the sign that a rule asks for
abbrev pub is : Sought → Kind → Bool
is (sought.Plain w) (word true n) = eqb n (place w)
is (sought.Reserved w) (word false n) = eqb n (place w)
is (sought.Key k) (key n) = eqb n (tag_of the_keyword.the_type k)
is (sought.Sign s) (sign n) = eqb n (tag_of the_sign.the_type s)
is _ _ = false

abbrev pub among : List Word → ℕ → Bool
among [] n = false
among (w ∷ ws) n = if eqb n (place w) then true else among ws n

-- a quoted name, or a word that isn't reserved and none of these
abbrev pub is_name : List Word → Kind → Bool
is_name but quoted = true
is_name but (word true n) = not (among but n)
is_name but _ = false

-- ---- rules

infixr 20 ◌⨟◌
pub data Syntax : Type 0 → Type 1 where
  -- nothing
  gives : {A : Type 0} → A → Syntax A
  -- one mark
  one : Sought → Syntax (Unit {0})
  name_but : List Word → Syntax (List ℕ)
  integer : Syntax ℤ
  text : Syntax (List ℕ)
  -- an expression whose spelling is at most so deep
  expression : ℕ → Syntax Expr
  -- one after the other
  ◌⨟◌ : {A B : Type 0} → Syntax A → Syntax B → Syntax (A × B)
  -- another value of it, or those alone that pass a test
  map : {A B : Type 0} → (A → B) → Syntax A → Syntax B
  only : {A : Type 0} → (A → Bool) → Syntax A → Syntax A
  -- the one or the other
  either : {A : Type 0} → Syntax A → Syntax A → Syntax A
  -- a list, and any number of further ones after it
  repeat : {A : Type 0} → Syntax (List A) → Syntax (List A) → Syntax (List A)

-- ---- what they spell

-- any number of lists one after the other
pub data Repeats {A : Type 0} (R : List Mark → List A → Type 0) : List Mark → List A → Type 0 where
  none : Repeats R [] []
  more : {ts us : List Mark} {xs ys : List A} → R ts xs → Repeats R us ys → Repeats R (ts ++ us) (xs ++ ys)

pub record One (test : Kind → Bool) (ts : List Mark) : Type 0 where
  pub mark : Mark
  pub alone : ts ≡ mark ∷ []
  pub passes : test (kind (Some mark)) ≡ true

pub record Name (but : List Word) (ts : List Mark) (text : List ℕ) : Type 0 where
  pub mark : Mark
  pub alone : ts ≡ mark ∷ []
  pub passes : is_name but (kind (Some mark)) ≡ true
  pub reads : name_of mark ≡ Some text

pub record Both {A B : Type 0} (R : List Mark → A → Type 0) (S : List Mark → B → Type 0) (ts : List Mark) (x : A) (y : B) : Type 0 where
  pub front : List Mark
  pub rest : List Mark
  pub splits : ts ≡ front ++ rest
  pub first : R front x
  pub second : S rest y

pub record Made {A B : Type 0} (f : A → B) (R : List Mark → A → Type 0) (ts : List Mark) (y : B) : Type 0 where
  pub of : A
  pub spelled : R ts of
  pub made : f of ≡ y

pub record Passing {A : Type 0} (test : A → Bool) (R : List Mark → A → Type 0) (ts : List Mark) (x : A) : Type 0 where
  pub spelled : R ts x
  pub passes : test x ≡ true

pub data Either {A : Type 0} (R S : List Mark → A → Type 0) (ts : List Mark) (x : A) : Type 0 where
  left : R ts x → Either R S ts x
  right : S ts x → Either R S ts x

pub record Begun {A : Type 0} (R S : List Mark → List A → Type 0) (ts : List Mark) (zs : List A) : Type 0 where
  pub xs : List A
  pub ys : List A
  pub all : zs ≡ xs ++ ys
  pub parts : Both R (Repeats S) ts xs ys

-- the marks, all of them, spell the value
abbrev pub spells : {A : Type 0} → Syntax A → List Mark → A → Type 0
spells (gives x) ts y = (ts ≡ []) × (x ≡ y)
spells (one t) ts u = One (is t) ts
spells (name_but but) ts name = Name but ts name
spells integer ts n = ts ≡ Number n ∷ []
spells text ts t = ts ≡ Str t ∷ []
spells (expression most) ts x = IsExpr most ts x
spells (a ⨟ b) ts p = Both (spells a) (spells b) ts p.0 p.1
spells (map f a) ts y = Made f (spells a) ts y
spells (only test a) ts x = Passing test (spells a) ts x
spells (either a b) ts x = Either (spells a) (spells b) ts x
spells (repeat a b) ts zs = Begun (spells a) (spells b) ts zs
