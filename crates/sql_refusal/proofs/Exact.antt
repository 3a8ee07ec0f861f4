-- What is spelled so is passed over, whatever follows that doesn't go on with it.
use Rattle.std.proofs.Common.{◌≡◌, ℕ, zero, suc, ◌+◌, ◌≤◌, Bool, true, false, List, [], ◌∷◌, ◌++◌, length, Option, Some, None, refl, ap, sym, ◌∙◌, subst, append_assoc, length-append, arith, inl, inr}
use Rattle.std.specs.Prelude.{◌||◌, ◌&&◌, not, if◌then◌else◌, ◌⊎◌}
use Rattle.sql_grammar.specs.declared.mark.Mark.{Mark}
use Rattle.sql_grammar.specs.Grammar.{Level}
use Rattle.sql_grammar.specs.Reading.{front}
use Rattle.sql_grammar.specs.Syntax.{Kind, kind}
use Rattle.sql_grammar.specs.Steps.{Pattern, any, apart}
use Rattle.sql_grammar.proofs.Patterns.{and_left, and_right, not_true, true_false, any_left, any_right, any_split, apart_mark, or_left, or_right, or_split}
use Rattle.sql_grammar.proofs.Taken.{none_some}
use Rattle.sql_refusal.specs.Forms
use Rattle.sql_refusal.specs.Forms.{Form, nothing, mark, part, ◌▸◌, either, many, Spelled, Passer, and_on, one_of, many_from, passes, may_begin, begins, begins_at, goes_at, goes_on, empty, clear}

-- ---- tests of a mark

agree : (a b : Bool) → (a ≡ true → b ≡ true) → (b ≡ true → a ≡ true) → a ≡ b
agree true b f g = sym (f refl)
agree false true f g = g refl
agree false false f g = refl

pub neither : (ps qs : List Pattern) (m : Kind) → any ps m ≡ false → any qs m ≡ false → any (ps ++ qs) m ≡ false
neither ps qs m e f = no_way (any (ps ++ qs) m) (λ h. elim (any_split ps qs m h) as (λ _. ⊥) [ inl a ↦ true_false a e | inr b ↦ true_false b f ])
  where
    no_way : (a : Bool) → (a ≡ true → ⊥) → a ≡ false
    no_way true f = absurd (f refl)
    no_way false f = refl

pub not_left : (ps qs : List Pattern) (m : Kind) → any (ps ++ qs) m ≡ false → any ps m ≡ false
not_left ps qs m e = no_way (any ps m) (λ h. true_false (any_left ps qs m h) e)
  where
    no_way : (a : Bool) → (a ≡ true → ⊥) → a ≡ false
    no_way true f = absurd (f refl)
    no_way false f = refl

pub not_right : (ps qs : List Pattern) (m : Kind) → any (ps ++ qs) m ≡ false → any qs m ≡ false
not_right ps qs m e = no_way (any qs m) (λ h. true_false (any_right ps qs m h) e)
  where
    no_way : (a : Bool) → (a ≡ true → ⊥) → a ≡ false
    no_way true f = absurd (f refl)
    no_way false f = refl

any_both : (ps qs : List Pattern) (m : Kind) → any (ps ++ qs) m ≡ (any ps m || any qs m)
any_both ps qs m = agree (any (ps ++ qs) m) (any ps m || any qs m)
    (λ h. elim (any_split ps qs m h) as (λ _. (any ps m || any qs m) ≡ true) [ inl a ↦ or_left _ _ a | inr b ↦ or_right _ _ b ])
    (λ h. elim (or_split (any ps m) (any qs m) h) as (λ _. any (ps ++ qs) m ≡ true) [ inl a ↦ any_left ps qs m a | inr b ↦ any_right ps qs m b ])

perhaps : (c : Bool) (qs : List Pattern) (m : Kind) → any (if c then qs else []) m ≡ (c && any qs m)
perhaps true qs m = refl
perhaps false qs m = refl

-- the test of one mark is that of the list of patterns
pub may_begin_is : (f : Form) (m : Kind) → may_begin f m ≡ any (begins f) m
may_begin_is nothing m = refl
may_begin_is (mark ps) m = refl
may_begin_is (part l) m = refl
may_begin_is (a ▸ b) m =
    rw (any_both (begins a) (if empty a then begins b else []) m, perhaps (empty a) (begins b) m, may_begin_is a m, may_begin_is b m) refl
may_begin_is (either a b) m = rw (any_both (begins a) (begins b) m, may_begin_is a m, may_begin_is b m) refl
may_begin_is (many a) m = may_begin_is a m

-- ---- how a spelling begins

abbrev Starts : Form → List Mark → Type 0
Starts f ts = ((ts ≡ []) × (empty f ≡ true)) ⊎ ((r : List Mark) → any (begins f) (kind (front (ts ++ r))) ≡ true)

both_empty : (a b : Bool) → a ≡ true → b ≡ true → (a && b) ≡ true
both_empty true b e f = f
both_empty false b e f = e

first_part : (a b : Form) (ts us : List Mark) → ((r : List Mark) → any (begins a) (kind (front (ts ++ r))) ≡ true) → (r : List Mark) → any (begins (a ▸ b)) (kind (front ((ts ++ us) ++ r))) ≡ true
first_part a b ts us h r =
    let regrouped : ts ++ (us ++ r) ≡ (ts ++ us) ++ r = simp append_assoc in
    let P : List Mark → Type 0 = λ z. any (begins (a ▸ b)) (kind (front z)) ≡ true in
    subst P regrouped (any_left (begins a) _ (kind (front (ts ++ (us ++ r)))) (h (us ++ r)))

second_part : (a b : Form) (ts us : List Mark) → ts ≡ [] → empty a ≡ true → ((r : List Mark) → any (begins b) (kind (front (us ++ r))) ≡ true) → (r : List Mark) → any (begins (a ▸ b)) (kind (front ((ts ++ us) ++ r))) ≡ true
second_part a b ts us e n h r =
    let P : List Mark → Type 0 = λ z. any (begins (a ▸ b)) (kind (front ((z ++ us) ++ r))) ≡ true in
    let Q : Bool → Type 0 = λ c. any (begins a ++ (if c then begins b else [])) (kind (front (us ++ r))) ≡ true in
    subst P (sym e) (subst Q (sym n) (any_right (begins a) (begins b) (kind (front (us ++ r))) (h r)))

more_part : (a : Form) (ts us : List Mark) → ((r : List Mark) → any (begins a) (kind (front (ts ++ r))) ≡ true) → (r : List Mark) → any (begins a) (kind (front ((ts ++ us) ++ r))) ≡ true
more_part a ts us h r =
    let regrouped : ts ++ (us ++ r) ≡ (ts ++ us) ++ r = simp append_assoc in
    let P : List Mark → Type 0 = λ z. any (begins a) (kind (front z)) ≡ true in
    subst P regrouped (h (us ++ r))

after_none : (f : Form) (ts us : List Mark) → ts ≡ [] → Starts f us → Starts f (ts ++ us)
after_none f ts us e s = let P : List Mark → Type 0 = λ z. Starts f (z ++ us) in subst P (sym e) s

module _ (E : Level → List Mark → Type 0) (begun : (l : Level) (ts : List Mark) → E l ts → (r : List Mark) → any (begins_at l) (kind (front (ts ++ r))) ≡ true) where
  pub starts : {f : Form} {ts : List Mark} → Spelled E f ts → Starts f ts
  starts Forms.is_nothing = inl (refl, refl)
  starts (Forms.is_mark e) = inr (λ r. e)
  starts (Forms.is_part {l = l} {ts = ts} x) = inr (begun l ts x)
  starts (Forms.both {a = a} {b = b} {ts = ts} {us = us} x y) = elim (starts x) as (λ _. Starts (a ▸ b) (ts ++ us)) [
    | inr h ↦ inr (first_part a b ts us h)
    | inl e ↦ elim (starts y) as (λ _. Starts (a ▸ b) (ts ++ us)) [
      | inr h ↦ inr (second_part a b ts us e.0 e.1 h)
      | inl f ↦ inl (rw (e.0, f.0) refl, both_empty (empty a) (empty b) e.1 f.1)
    ]
  ]
  starts (Forms.left {a = a} {b = b} {ts = ts} x) = elim (starts x) as (λ _. Starts (either a b) ts) [
    | inl e ↦ inl (e.0, or_left (empty a) (empty b) e.1)
    | inr h ↦ inr (λ r. any_left (begins a) (begins b) (kind (front (ts ++ r))) (h r))
  ]
  starts (Forms.right {a = a} {b = b} {ts = ts} x) = elim (starts x) as (λ _. Starts (either a b) ts) [
    | inl e ↦ inl (e.0, or_right (empty a) (empty b) e.1)
    | inr h ↦ inr (λ r. any_right (begins a) (begins b) (kind (front (ts ++ r))) (h r))
  ]
  starts Forms.none = inl (refl, refl)
  starts (Forms.more {a = a} {ts = ts} {us = us} x xs) = elim (starts x) as (λ _. Starts (many a) (ts ++ us)) [
    | inr h ↦ inr (more_part a ts us h)
    | inl e ↦ after_none (many a) ts us e.0 (starts xs)
  ]

  -- a form that isn't empty begins with one of its marks
  begins_with : (f : Form) (ts : List Mark) → empty f ≡ false → Starts f ts → (r : List Mark) → any (begins f) (kind (front (ts ++ r))) ≡ true
  begins_with f ts n (inl e) r = absurd (true_false e.1 n)
  begins_with f ts n (inr h) r = h r

  long_both : (a b : Bool) (m n : ℕ) → (a && b) ≡ false → (a ≡ false → 1 ≤ m) → (b ≡ false → 1 ≤ n) → 1 ≤ m + n
  long_both true b m n e f g = let h = g e in omega arith
  long_both false b m n e f g = let h = f refl in omega arith

  or_false_left : (a b : Bool) → (a || b) ≡ false → a ≡ false
  or_false_left true b e = cc
  or_false_left false b e = refl

  or_false_right : (a b : Bool) → (a || b) ≡ false → b ≡ false
  or_false_right true b e = cc
  or_false_right false b e = e

  -- what follows a part that may be empty isn't taken for more of what stands before it
  between : (a b : Form) (us r : List Mark) → apart (goes_on a) (begins b) ≡ true → Starts b us → any (goes_on (a ▸ b)) (kind (front r)) ≡ false → any (goes_on a) (kind (front (us ++ r))) ≡ false
  between a b us r w (inr g) h = apart_mark (goes_on a) (begins b) w (front (us ++ r)) (g r)
  between a b us r w (inl e) h =
      let P : List Mark → Type 0 = λ z. any (goes_on a) (kind (front (z ++ r))) ≡ false in
      let Q : Bool → Type 0 = λ c. any (if c then goes_on a else []) (kind (front r)) ≡ false in
      subst P (sym e.0) (subst Q e.1 (not_right (goes_on b) _ (kind (front r)) h))

  other : (a b : Form) (us r : List Mark) → apart (begins a) (begins b) ≡ true → Starts b us → any (goes_on (either a b)) (kind (front r)) ≡ false → any (begins a) (kind (front (us ++ r))) ≡ false
  other a b us r w (inr g) h = apart_mark (begins a) (begins b) w (front (us ++ r)) (g r)
  other a b us r w (inl e) h =
      let P : List Mark → Type 0 = λ z. any (begins a) (kind (front (z ++ r))) ≡ false in
      let Q : Bool → Type 0 = λ c. any (if c then begins a else []) (kind (front r)) ≡ false in
      subst P (sym e.0) (subst Q e.1 (not_right (goes_on a ++ goes_on b) _ (kind (front r)) h))

  follows : (a : Form) (us r : List Mark) → apart (goes_on a) (begins a) ≡ true → Starts (many a) us → any (goes_on (many a)) (kind (front r)) ≡ false → any (goes_on a) (kind (front (us ++ r))) ≡ false
  follows a us r w (inr g) h = apart_mark (goes_on a) (begins a) w (front (us ++ r)) (g r)
  follows a us r w (inl e) h =
      let P : List Mark → Type 0 = λ z. any (goes_on a) (kind (front (z ++ r))) ≡ false in
      subst P (sym e.0) (not_right (begins a) (goes_on a) (kind (front r)) h)

  -- ---- repetitions with turns to spare

  again : (c : Bool) (o : Option (List Mark)) (f g : Passer) (ts r : List Mark) → ((us : List Mark) → f us ≡ Some r → g us ≡ Some r) → (if c then and_on o f else Some ts) ≡ Some r → (if c then and_on o g else Some ts) ≡ Some r
  again true None f g ts r h e = absurd (none_some e)
  again true (Some us) f g ts r h e = h us e
  again false o f g ts r h e = e

  spare : (first : Kind → Bool) (item : Passer) (n m : ℕ) → n ≤ m → (ts r : List Mark) → many_from first item n ts ≡ Some r → many_from first item m ts ≡ Some r
  unfolding many_from
  spare first item zero m h ts r e = absurd (none_some e)
  spare first item (suc n) zero h ts r e = absurd (omega arith)
  spare first item (suc n) (suc m) h ts r e =
      let le : n ≤ m = omega arith in
      again (first (kind (front ts))) (item ts) (many_from first item n) (many_from first item m) ts r (λ us f. spare first item n m le us r f) e

  module _ (filled : (l : Level) (ts : List Mark) → E l ts → 1 ≤ length ts) where
    pub long : {f : Form} {ts : List Mark} → Spelled E f ts → empty f ≡ false → 1 ≤ length ts
    long Forms.is_nothing n = absurd (true_false refl n)
    long (Forms.is_mark e) n = omega arith
    long (Forms.is_part {l = l} {ts = ts} x) n = filled l ts x
    long (Forms.both {a = a} {b = b} {ts = ts} {us = us} x y) n =
        let h = long_both (empty a) (empty b) (length ts) (length us) n (long x) (long y) in
        omega (arith, length-append ts us)
    long (Forms.left {a = a} {b = b} x) n = long x (or_false_left (empty a) (empty b) n)
    long (Forms.right {a = a} {b = b} x) n = long x (or_false_right (empty a) (empty b) n)
    long Forms.none n = absurd (true_false refl n)
    long (Forms.more x xs) n = absurd (true_false refl n)

    module _ (p : Level → Passer) (reads : (l : Level) (ts : List Mark) → E l ts → (r : List Mark) → any (goes_at l) (kind (front r)) ≡ false → p l (ts ++ r) ≡ Some r) where
      pub exact : {f : Form} {ts : List Mark} → Spelled E f ts → clear f ≡ true → (r : List Mark) → any (goes_on f) (kind (front r)) ≡ false → passes p f (ts ++ r) ≡ Some r
      unfolding passes many_from
      exact Forms.is_nothing w r h = refl
      exact (Forms.is_mark e) w r h = rw e refl
      exact (Forms.is_part {l = l} {ts = ts} x) w r h = reads l ts x r h
      exact (Forms.both {a = a} {b = b} {ts = ts} {us = us} x y) w r h =
          let parts : (clear a && clear b) ≡ true = and_left (clear a && clear b) (apart (goes_on a) (begins b)) w in
          let join : apart (goes_on a) (begins b) ≡ true = and_right (clear a && clear b) (apart (goes_on a) (begins b)) w in
          let i = exact x (and_left (clear a) (clear b) parts) (us ++ r) (between a b us r join (starts y) h) in
          let j = exact y (and_right (clear a) (clear b) parts) r (not_left (goes_on b) _ (kind (front r)) h) in
          let regrouped : (ts ++ us) ++ r ≡ ts ++ (us ++ r) = simp append_assoc in
          ap (λ z. and_on (passes p a z) (passes p b)) regrouped ∙ ap (λ o. and_on o (passes p b)) i ∙ j
      exact (Forms.left {a = a} {b = b} {ts = ts} x) w r h =
          let parts : (clear a && clear b) ≡ true = and_left (clear a && clear b) _ w in
          let some : empty a ≡ false = not_true (empty a) (and_left (not (empty a)) _ (and_right (clear a && clear b) _ w)) in
          let guard = may_begin_is a (kind (front (ts ++ r))) ∙ begins_with a ts some (starts x) r in
          let ends = not_left (goes_on a) (goes_on b) (kind (front r)) (not_left (goes_on a ++ goes_on b) _ (kind (front r)) h) in
          rw guard (exact x (and_left (clear a) (clear b) parts) r ends)
      exact (Forms.right {a = a} {b = b} {ts = ts} y) w r h =
          let parts : (clear a && clear b) ≡ true = and_left (clear a && clear b) _ w in
          let two : apart (begins a) (begins b) ≡ true = and_right (not (empty a)) _ (and_right (clear a && clear b) _ w) in
          let guard = may_begin_is a (kind (front (ts ++ r))) ∙ other a b ts r two (starts y) h in
          let ends = not_right (goes_on a) (goes_on b) (kind (front r)) (not_left (goes_on a ++ goes_on b) _ (kind (front r)) h) in
          rw guard (exact y (and_right (clear a) (clear b) parts) r ends)
      exact (Forms.none {a = a}) w r h =
          let guard = may_begin_is a (kind (front r)) ∙ not_left (begins a) (goes_on a) (kind (front r)) h in
          rw guard refl
      exact (Forms.more {a = a} {ts = ts} {us = us} x xs) w r h =
          let one : clear a ≡ true = and_left (clear a) _ w in
          let rest : (not (empty a) && apart (goes_on a) (begins a)) ≡ true = and_right (clear a) _ w in
          let some : empty a ≡ false = not_true (empty a) (and_left (not (empty a)) _ rest) in
          let join : apart (goes_on a) (begins a) ≡ true = and_right (not (empty a)) _ rest in
          let guard = may_begin_is a (kind (front (ts ++ (us ++ r)))) ∙ begins_with a ts some (starts x) (us ++ r) in
          let i = exact x one (us ++ r) (follows a us r join (starts xs) h) in
          let j = exact xs w r h in
          let l = long x some in
          let turns : suc (length (us ++ r)) ≤ length (ts ++ (us ++ r)) = omega (arith, length-append ts (us ++ r)) in
          let k = spare (may_begin a) (passes p a) (suc (length (us ++ r))) (length (ts ++ (us ++ r))) turns (us ++ r) r j in
          let regrouped : (ts ++ us) ++ r ≡ ts ++ (us ++ r) = simp append_assoc in
          ap (λ z. passes p (many a) z) regrouped ∙ rw guard (ap (λ o. and_on o (many_from (may_begin a) (passes p a) (length (ts ++ (us ++ r))))) i ∙ k)
