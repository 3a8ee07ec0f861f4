-- What a rule spells is read, whatever follows that the rule doesn't go on with.
use Rattle.std.proofs.Common.{◌≡◌, ℕ, zero, suc, ◌+◌, ◌≤◌, Bool, true, false, List, [], ◌∷◌, ◌++◌, length, Option, Some, refl, ap, sym, ◌∙◌, subst, append_assoc, length-append, arith, inl, inr}
use Rattle.std.specs.Prelude.{◌||◌, ◌&&◌, not, if◌then◌else◌}
use Rattle.std.proofs.lemmas.List.{append-nil}
use Rattle.sql_grammar.specs.declared.mark.Mark.{Mark}
use Rattle.sql_grammar.specs.declared.mark.Mark.TheVariants.{Number, Str}
use Rattle.sql_grammar.specs.Grammar.{expr, IsExpr}
use Rattle.sql_grammar.specs.Reading.{Parser, front, node, read}
use Rattle.sql_grammar.specs.Syntax
use Rattle.sql_grammar.specs.Syntax.{Kind, kind, is, is_name, Syntax, gives, one, name_but, integer, text, expression, ◌⨟◌, map, only, either, repeat, spells, Repeats}
use Rattle.sql_grammar.specs.Steps.{Pattern, a_number, a_string, fit, any, empty, begins, begins_expression, opens, reading, repeat_from, fits, apart, goes_on}
use Rattle.sql_grammar.proofs.Follow.{spelling_begins}
use Rattle.sql_grammar.proofs.Complete.{name_reads, reads_on}
use Rattle.sql_grammar.proofs.Patterns.{and_left, and_right, not_true, true_false, any_left, any_right, any_split, apart_mark, expression_ends, expression_begins}
use Rattle.sql_grammar.proofs.Whole.{expr_reads}

both_same : {A : Type 0} (a x : A) (b y : List Mark) → a ≡ x → b ≡ y → ◌≡◌ {A = Option (A × List Mark)} (Some (a, b)) (Some (x, y))
both_same a x b y e f = cc

-- ---- how long, and how it begins

first_is : (m : Mark) (ts : List Mark) → ts ≡ m ∷ [] → (p : Kind → Bool) → p (kind (Some m)) ≡ true → (r : List Mark) → p (kind (front (ts ++ r))) ≡ true
first_is m ts alone p h r = let P : List Mark → Type 0 = λ z. p (kind (front (z ++ r))) ≡ true in subst P (sym alone) h

opens_expression : (most : ℕ) (ts : List Mark) (x : _) → IsExpr most ts x → (r : List Mark) → any begins_expression (kind (front (ts ++ r))) ≡ true
opens_expression most ts x i r =
    let b = spelling_begins i.spelled in
    let P : List Mark → Type 0 = λ z. any begins_expression (kind (front (z ++ r))) ≡ true in
    subst P (sym b.splits) (expression_begins b.first b.may)

open_both : (a b : Bool) (p q f : List Pattern) (m : Kind) → any (if a then p ++ (if b then q ++ f else q) else p) m ≡ true → any (if a && b then (if a then p ++ q else p) ++ f else (if a then p ++ q else p)) m ≡ true
open_both true true p q f m e = rw append_assoc e
open_both true false p q f m e = e
open_both false b p q f m e = e

open_left : (a b : Bool) (p q f : List Pattern) (m : Kind) → any (if a then p ++ f else p) m ≡ true → any (if a || b then (p ++ q) ++ f else p ++ q) m ≡ true
open_left true b p q f m e = elim (any_split p f m e) as (λ _. any ((p ++ q) ++ f) m ≡ true) [ inl h ↦ any_left (p ++ q) f m (any_left p q m h) | inr h ↦ any_right (p ++ q) f m h ]
open_left false true p q f m e = any_left (p ++ q) f m (any_left p q m e)
open_left false false p q f m e = any_left p q m e

open_right : (a b : Bool) (p q f : List Pattern) (m : Kind) → any (if b then q ++ f else q) m ≡ true → any (if a || b then (p ++ q) ++ f else p ++ q) m ≡ true
open_right true true p q f m e = rw append_assoc (any_right p (q ++ f) m e)
open_right true false p q f m e = any_left (p ++ q) f m (any_right p q m e)
open_right false true p q f m e = rw append_assoc (any_right p (q ++ f) m e)
open_right false false p q f m e = any_right p q m e

open_more : (a : Bool) (p q f : List Pattern) (m : Kind) → any (if a then p ++ (q ++ f) else p) m ≡ true → any (if a then (if a then p ++ q else p) ++ f else (if a then p ++ q else p)) m ≡ true
open_more true p q f m e = rw append_assoc e
open_more false p q f m e = e

open_again : (b : Bool) (q f : List Pattern) (m : Kind) → any (if b then q ++ (q ++ f) else q) m ≡ true → any (q ++ f) m ≡ true
open_again true q f m e = elim (any_split q (q ++ f) m e) as (λ _. any (q ++ f) m ≡ true) [ inl h ↦ any_left q f m h | inr h ↦ h ]
open_again false q f m e = any_left q f m e

open_some : (a : Bool) (p f : List Pattern) (m : Kind) → a ≡ false → any (if a then p ++ f else p) m ≡ true → any p m ≡ true
open_some true p f m n e = cc
open_some false p f m n e = e

-- lists begin as the first of them, or as what follows
more_open : {A : Type 0} (b : Syntax (List A)) → ((ts : List Mark) (x : List A) → spells b ts x → (g : List Pattern) (r : List Mark) → any g (kind (front r)) ≡ true → any (opens b g) (kind (front (ts ++ r))) ≡ true)
    → (f : List Pattern) → {us : List Mark} {ys : List A} → Repeats (spells b) us ys → (r : List Mark) → any f (kind (front r)) ≡ true → any (begins b ++ f) (kind (front (us ++ r))) ≡ true
more_open b each f Repeats.none r h = any_right (begins b) f (kind (front r)) h
more_open b each f (Repeats.more {ts = ts} {us = us} {xs = x} o os) r h =
    let i = each ts x o (begins b ++ f) (us ++ r) (more_open b each f os r h) in
    let P : List Mark → Type 0 = λ z. any (begins b ++ f) (kind (front z)) ≡ true in
    let regrouped : ts ++ (us ++ r) ≡ (ts ++ us) ++ r = simp append_assoc in
    subst P regrouped (open_again (empty b) (begins b) f (kind (front (ts ++ (us ++ r)))) i)

regroup : (ts us vs r : List Mark) → ts ≡ us ++ vs → ts ++ r ≡ us ++ (vs ++ r)
regroup ts us vs r e = ap (λ z. z ++ r) e ∙ simp append_assoc

pub starts : {A : Type 0} (a : Syntax A) (ts : List Mark) (x : A) → spells a ts x → (f : List Pattern) (r : List Mark) → any f (kind (front r)) ≡ true → any (opens a f) (kind (front (ts ++ r))) ≡ true
starts (gives y) ts x o f r h = let P : List Mark → Type 0 = λ z. any f (kind (front (z ++ r))) ≡ true in subst P (sym o.0) h
starts (one t) ts x o f r h = first_is o.mark ts o.alone (is t) o.passes r
starts (name_but but) ts x o f r h = first_is o.mark ts o.alone (is_name but) o.passes r
starts integer ts x o f r h = first_is (Number x) ts o (fit a_number) refl r
starts text ts x o f r h = first_is (Str x) ts o (fit a_string) refl r
starts (expression most) ts x o f r h = opens_expression most ts x o r
starts (a ⨟ b) ts p o f r h =
    let g = starts b o.rest p.1 o.second f r h in
    let m = kind (front (o.front ++ (o.rest ++ r))) in
    let i = starts a o.front p.0 o.first (opens b f) (o.rest ++ r) g in
    let P : List Mark → Type 0 = λ z. any (opens (a ⨟ b) f) (kind (front z)) ≡ true in
    subst P (sym (regroup ts o.front o.rest r o.splits)) (open_both (empty a) (empty b) (begins a) (begins b) f m i)
starts (map g a) ts x o f r h = starts a ts o.of o.spelled f r h
starts (only test a) ts x o f r h = starts a ts x o.spelled f r h
starts (either a b) ts x (Syntax.left o) f r h = open_left (empty a) (empty b) (begins a) (begins b) f (kind (front (ts ++ r))) (starts a ts x o f r h)
starts (either a b) ts x (Syntax.right o) f r h = open_right (empty a) (empty b) (begins a) (begins b) f (kind (front (ts ++ r))) (starts b ts x o f r h)
starts (repeat a b) ts zs o f r h =
    let p = o.parts in
    let m = kind (front (p.front ++ (p.rest ++ r))) in
    let g = more_open b (starts b) f p.second r h in
    let i = starts a p.front o.xs p.first (begins b ++ f) (p.rest ++ r) g in
    let P : List Mark → Type 0 = λ z. any (opens (repeat a b) f) (kind (front z)) ≡ true in
    subst P (sym (regroup ts p.front p.rest r p.splits)) (open_more (empty a) (begins a) (begins b) f m i)

one_long : (m : Mark) (ts : List Mark) → ts ≡ m ∷ [] → 1 ≤ length ts
one_long m ts e = let n = ap length e in omega arith

either_false : (a b : Bool) → (a && b) ≡ false → (a ≡ false → ⊥) → b ≡ false
either_false true b e n = e
either_false false b e n = absurd (n refl)

long_both : (a b : Bool) (m n : ℕ) → (a && b) ≡ false → (a ≡ false → 1 ≤ m) → (b ≡ false → 1 ≤ n) → 1 ≤ m + n
long_both true b m n e f g = let h = g e in omega arith
long_both false b m n e f g = let h = f refl in omega arith

or_false_left : (a b : Bool) → (a || b) ≡ false → a ≡ false
or_false_left true b e = cc
or_false_left false b e = refl

or_false_right : (a b : Bool) → (a || b) ≡ false → b ≡ false
or_false_right true b e = cc
or_false_right false b e = e

pub long : {A : Type 0} (a : Syntax A) (ts : List Mark) (x : A) → spells a ts x → empty a ≡ false → 1 ≤ length ts
long (gives y) ts x o n = absurd (true_false refl n)
long (one t) ts x o n = one_long o.mark ts o.alone
long (name_but but) ts x o n = one_long o.mark ts o.alone
long integer ts x o n = one_long (Number x) ts o
long text ts x o n = one_long (Str x) ts o
long (expression most) ts x o n = let b = spelling_begins o.spelled in let e = ap length b.splits in omega arith
long (a ⨟ b) ts p o n =
    let h = long_both (empty a) (empty b) (length o.front) (length o.rest) n (long a o.front p.0 o.first) (long b o.rest p.1 o.second) in
    let e = ap length o.splits in
    omega (arith, length-append o.front o.rest)
long (map f a) ts x o n = long a ts o.of o.spelled n
long (only test a) ts x o n = long a ts x o.spelled n
long (either a b) ts x (Syntax.left o) n = long a ts x o (or_false_left (empty a) (empty b) n)
long (either a b) ts x (Syntax.right o) n = long b ts x o (or_false_right (empty a) (empty b) n)
long (repeat a b) ts zs o n =
    let h = long a o.parts.front o.xs o.parts.first n in
    let e = ap length o.parts.splits in
    omega (arith, length-append o.parts.front o.parts.rest)

-- ---- items one after the other

module _ {A : Type 0} (R : List Mark → List A → Type 0) (first f : List Pattern) (item : Parser (List A))
    (begun : (ts : List Mark) (x : List A) → R ts x → (r : List Mark) → any (first ++ f) (kind (front r)) ≡ true → any first (kind (front (ts ++ r))) ≡ true)
    (reads : (ts : List Mark) (x : List A) → R ts x → (r : List Mark) → any (first ++ f) (kind (front r)) ≡ true → item (ts ++ r) ≡ Some (x, r))
    (some : (ts : List Mark) (x : List A) → R ts x → 1 ≤ length ts)
    (ends : (r : List Mark) → any f (kind (front r)) ≡ true → any first (kind (front r)) ≡ false)
    (follows : (us : List Mark) (ys : List A) → Repeats R us ys → (r : List Mark) → any f (kind (front r)) ≡ true → any (first ++ f) (kind (front (us ++ r))) ≡ true) where
  more_reads : {us : List Mark} {ys : List A} → Repeats R us ys → (turns : ℕ) → length us ≤ turns → (found : List A) (r : List Mark) → any f (kind (front r)) ≡ true
      → repeat_from (any first) item turns found (us ++ r) ≡ Some (found ++ ys, r)
  unfolding repeat_from
  more_reads Repeats.none zero h found r e = both_same found (found ++ []) r r (sym (append-nil found)) refl
  more_reads Repeats.none (suc n) h found r e = rw (ends r e) (both_same found (found ++ []) r r (sym (append-nil found)) refl)
  more_reads (Repeats.more {ts = ts} {us = us} {xs = x} o os) zero h found r e = let l = some ts x o in absurd (omega (arith, length-append ts us))
  more_reads (Repeats.more {ts = ts} {us = us} {xs = x} {ys = xs} o os) (suc n) h found r e =
      let l = some ts x o in
      let le : length us ≤ n = omega (arith, length-append ts us) in
      let g = follows us xs os r e in
      let i = more_reads os n le (found ++ x) r e in
      let regrouped : (ts ++ us) ++ r ≡ ts ++ (us ++ r) = simp append_assoc in
      let all : (found ++ x) ++ xs ≡ found ++ (x ++ xs) = simp append_assoc in
      ap (λ z. repeat_from (any first) item (suc n) found z) regrouped
      ∙ rw (begun ts x o (us ++ r) g, reads ts x o (us ++ r) g) (i ∙ ap (λ z. Some (z, r)) all)

-- ---- the theorem

pub exact : {A : Type 0} (a : Syntax A) (f : List Pattern) → fits a f ≡ true → (ts : List Mark) (x : A) → spells a ts x → (r : List Mark) → any f (kind (front r)) ≡ true → reading a (ts ++ r) ≡ Some (x, r)
exact (gives y) f w ts x o r h = both_same y x (ts ++ r) r o.1 (ap (λ z. z ++ r) o.0)
exact (one t) f w ts x o r h = let P : List Mark → Type 0 = λ z. reading (one t) (z ++ r) ≡ Some (x, r) in subst P (sym o.alone) (rw o.passes refl)
exact (name_but but) f w ts x o r h = let P : List Mark → Type 0 = λ z. reading (name_but but) (z ++ r) ≡ Some (x, r) in subst P (sym o.alone) (rw o.passes (name_reads o.mark x r o.reads))
exact integer f w ts x o r h = let P : List Mark → Type 0 = λ z. reading integer (z ++ r) ≡ Some (x, r) in subst P (sym o) refl
exact text f w ts x o r h = let P : List Mark → Type 0 = λ z. reading text (z ++ r) ≡ Some (x, r) in subst P (sym o) refl
exact (expression most) f w ts x o r h =
    reads_on (read most expr (ts ++ r)) _ (node x o.depth) r _ (expr_reads most ts x o r (expression_ends (front r) (apart_mark goes_on f w (front r) h))) refl
exact (a ⨟ b) f w ts p o r h =
    let g = starts b o.rest p.1 o.second f r h in
    let i = exact a (opens b f) (and_left (fits a (opens b f)) (fits b f) w) o.front p.0 o.first (o.rest ++ r) g in
    let j = exact b f (and_right (fits a (opens b f)) (fits b f) w) o.rest p.1 o.second r h in
    ap (λ z. reading (a ⨟ b) z) (regroup ts o.front o.rest r o.splits)
    ∙ reads_on (reading a (o.front ++ (o.rest ++ r))) _ p.0 (o.rest ++ r) _ i (reads_on (reading b (o.rest ++ r)) _ p.1 r _ j refl)
exact (map g a) f w ts x o r h = reads_on (reading a (ts ++ r)) _ o.of r _ (exact a f w ts o.of o.spelled r h) (ap (λ z. Some (z, r)) o.made)
exact (only test a) f w ts x o r h = reads_on (reading a (ts ++ r)) _ x r _ (exact a f w ts x o.spelled r h) (rw o.passes refl)
exact (either a b) f w ts x (Syntax.left o) r h =
    let front_fits : Bool = not (empty a) && apart (begins a) (opens b f) in
    let parts_fit : Bool = fits a f && fits b f in
    let one_first : front_fits ≡ true = and_left front_fits parts_fit w in
    let both_fit : parts_fit ≡ true = and_right front_fits parts_fit w in
    let some : empty a ≡ false = not_true (empty a) (and_left (not (empty a)) (apart (begins a) (opens b f)) one_first) in
    let e = open_some (empty a) (begins a) f (kind (front (ts ++ r))) some (starts a ts x o f r h) in
    rw e (exact a f (and_left (fits a f) (fits b f) both_fit) ts x o r h)
exact (either a b) f w ts x (Syntax.right o) r h =
    let front_fits : Bool = not (empty a) && apart (begins a) (opens b f) in
    let parts_fit : Bool = fits a f && fits b f in
    let one_first : front_fits ≡ true = and_left front_fits parts_fit w in
    let both_fit : parts_fit ≡ true = and_right front_fits parts_fit w in
    let other : apart (begins a) (opens b f) ≡ true = and_right (not (empty a)) (apart (begins a) (opens b f)) one_first in
    let e = apart_mark (begins a) (opens b f) other (front (ts ++ r)) (starts b ts x o f r h) in
    rw e (exact b f (and_right (fits a f) (fits b f) both_fit) ts x o r h)
exact (repeat a b) f w ts zs o r h =
    let p = o.parts in
    let either_of : List Pattern = begins b ++ f in
    let front_fits : Bool = not (empty b) && apart (begins b) f in
    let parts_fit : Bool = fits a either_of && fits b either_of in
    let first : front_fits ≡ true = and_left front_fits parts_fit w in
    let second : parts_fit ≡ true = and_right front_fits parts_fit w in
    let some : empty b ≡ false = not_true (empty b) (and_left (not (empty b)) (apart (begins b) f) first) in
    let ends : apart (begins b) f ≡ true = and_right (not (empty b)) (apart (begins b) f) first in
    let b_fits : fits b either_of ≡ true = and_right (fits a either_of) (fits b either_of) second in
    let g = more_open b (starts b) f p.second r h in
    let i = exact a either_of (and_left (fits a either_of) (fits b either_of) second) p.front o.xs p.first (p.rest ++ r) g in
    let j = more_reads (spells b) (begins b) f (reading b)
    (λ us x q v e. open_some (empty b) (begins b) either_of (kind (front (us ++ v))) some (starts b us x q either_of v e))
    (λ us x q v e. exact b either_of b_fits us x q v e)
    (λ us x q. long b us x q some)
    (λ v e. apart_mark (begins b) f ends (front v) e)
    (λ us ys q v e. more_open b (starts b) f q v e)
    p.second (length (p.rest ++ r)) (omega (arith, length-append p.rest r)) o.xs r h in
    ap (λ z. reading (repeat a b) z) (regroup ts p.front p.rest r p.splits)
    ∙ reads_on (reading a (p.front ++ (p.rest ++ r))) _ o.xs (p.rest ++ r) _ i (j ∙ ap (λ z. Some (z, r)) (sym o.all))
