-- What holds of each value that a rule of the grammar gives to plain marks.
use Rattle.std.proofs.Common.{◌≡◌, ℕ, Bool, List, [], ◌++◌, Some, All, refl, sym, subst, lit<}
use Rattle.std.specs.List.{Contains}
use Rattle.std.proofs.lemmas.List.Elements.{All-nil, All-cons, All-append, Contains-append_left, Contains-append_right}
use Rattle.sql_grammar.specs.declared.mark.Mark.{Mark}
use Rattle.sql_grammar.specs.declared.mark.Mark.TheVariants as m
use Rattle.sql_grammar.specs.declared.mark.Word.{Word}
use Rattle.sql_grammar.specs.Grammar.{name_of}
use Rattle.sql_grammar.specs.Limited.{IsPlainName}
use Rattle.sql_grammar.specs.Statements.{◌▹◌, ◌◃◌, braced, single, listed}
use Rattle.sql_grammar.specs.Syntax as syntax
use Rattle.sql_grammar.specs.Syntax.{Syntax, gives, name_but, ◌⨟◌, map, only, either, repeat, spells, Repeats}

-- ---- marks

abbrev pub IsPlainMark : Mark → Type 0
IsPlainMark (m.Plain w name) = IsPlainName name
IsPlainMark (m.Quoted name) = IsPlainName name
IsPlainMark _ = Unit {0}

abbrev pub ArePlain : List Mark → Type 0
ArePlain ts = (mark : Mark) → Contains ts mark → IsPlainMark mark

front_plain : (ts us vs : List Mark) → ts ≡ us ++ vs → ArePlain ts → ArePlain us
front_plain ts us vs e h mark at = subst ArePlain e h mark (Contains-append_left us vs mark at)

rest_plain : (ts us vs : List Mark) → ts ≡ us ++ vs → ArePlain ts → ArePlain vs
rest_plain ts us vs e h mark at = subst ArePlain e h mark (Contains-append_right us vs mark at)

named_plain : (mark : Mark) (text : List ℕ) → name_of mark ≡ Some text → IsPlainMark mark → IsPlainName text
named_plain (m.Plain w name) text e h = let same : name ≡ text = cc in subst IsPlainName same h
named_plain (m.Quoted name) text e h = let same : name ≡ text = cc in subst IsPlainName same h
named_plain _ text e h = absurd (cc)

-- ---- rules

-- each value that the rule gives to plain marks has the property
pub record Yields {A : Type 0} (a : Syntax A) (P : A → Type 0) : Type 0 where
  pub each : (ts : List Mark) (x : A) → ArePlain ts → spells a ts x → P x

abbrev pub Any : {A : Type 0} → A → Type 0
Any x = Unit {0}

pub whatever : {A : Type 0} {a : Syntax A} → Yields a Any
whatever = record { each = λ ts x h s. tt }

pub a_name : {but : List Word} → Yields (name_but but) IsPlainName
a_name = record { each = λ ts text h s. named_plain s.mark text s.reads (subst ArePlain s.alone h s.mark (0, lit< tt, refl)) }

pub both : {A B : Type 0} {P : A → Type 0} {Q : B → Type 0} {a : Syntax A} {b : Syntax B} → Yields a P → Yields b Q → Yields (a ⨟ b) (λ p. P p.0 × Q p.1)
both f g = record {
  each = λ ts x h s. (
    f.each s.front x.0 (front_plain ts s.front s.rest s.splits h) s.first,
    g.each s.rest x.1 (rest_plain ts s.front s.rest s.splits h) s.second,
  );
}

pub made : {A B : Type 0} {P : A → Type 0} {Q : B → Type 0} {f : A → B} {a : Syntax A} → Yields a P → ((x : A) → P x → Q (f x)) → Yields (map f a) Q
made {Q = Q} g k = record { each = λ ts y h s. subst Q s.made (k s.of (g.each ts s.of h s.spelled)) }

pub given : {A : Type 0} {P : A → Type 0} {x : A} → P x → Yields (gives x) P
given {P = P} p = record { each = λ ts y h s. subst P s.1 p }

pub passed : {A : Type 0} {P : A → Type 0} {test : A → Bool} {a : Syntax A} → Yields a P → Yields (only test a) P
passed g = record { each = λ ts x h s. g.each ts x h s.spelled }

chosen : {A : Type 0} {P : A → Type 0} {a b : Syntax A} → Yields a P → Yields b P → (ts : List Mark) (x : A) → ArePlain ts → spells (either a b) ts x → P x
chosen f g ts x h (syntax.left s) = f.each ts x h s
chosen f g ts x h (syntax.right s) = g.each ts x h s

pub one_of : {A : Type 0} {P : A → Type 0} {a b : Syntax A} → Yields a P → Yields b P → Yields (either a b) P
one_of f g = record { each = chosen f g }

further : {A : Type 0} (P : A → Type 0) {b : Syntax (List A)} → Yields b (All P) → {ts : List Mark} {xs : List A}
    → ArePlain ts → Repeats (spells b) ts xs → All P xs
further P g h Repeats.none = All-nil P
further P g h (Repeats.more {ts = ts} {us = us} {xs = xs} {ys = ys} o os) =
    All-append P xs ys (g.each ts xs (front_plain (ts ++ us) ts us refl h) o) (further P g (rest_plain (ts ++ us) ts us refl h) os)

pub repeated : {A : Type 0} (P : A → Type 0) {a b : Syntax (List A)} → Yields a (All P) → Yields b (All P) → Yields (repeat a b) (All P)
repeated P f g = record {
  each = λ ts zs h s.
      let p = s.parts in
      subst (All P) (sym s.all)
      (All-append P s.xs s.ys
      (f.each p.front s.xs (front_plain ts p.front p.rest p.splits h) p.first) (further P g (rest_plain ts p.front p.rest p.splits h) p.second));
}

-- ---- rules made of these

pub second : {A B : Type 0} {Q : B → Type 0} {a : Syntax A} {b : Syntax B} → Yields b Q → Yields (a ▹ b) Q
second {Q = Q} g = made (both whatever g) (λ p h. h.1)

pub first : {A B : Type 0} {P : A → Type 0} {a : Syntax A} {b : Syntax B} → Yields a P → Yields (a ◃ b) P
first f = made (both f whatever) (λ p h. h.0)

pub in_braces : {A : Type 0} {P : A → Type 0} {a : Syntax A} → Yields a P → Yields (braced a) P
in_braces f = second (first f)

alone : {A : Type 0} {P : A → Type 0} {a : Syntax A} → Yields a P → Yields (single a) (All P)
alone {P = P} f = made f (λ x h. All-cons P x [] h (All-nil P))

pub in_list : {A : Type 0} (P : A → Type 0) {a : Syntax A} → Yields a P → Yields (listed a) (All P)
in_list P f = repeated P (alone f) (second (alone f))
