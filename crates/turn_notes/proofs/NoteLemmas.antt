-- Notes and their writers.
use Rattle.std.proofs.Common.{◌≡◌, ℕ, zero, suc, ◌<◌, ◌≢◌, ◌==◌, ◌||◌, eq-eqb, ne_eqb, Bool, true, false, cond, List, [], ◌∷◌, ◌++◌, length, drop, refl, ap, sym, ◌∙◌, subst, arith, inl, inr, Option, Some, None, MatchOption, IfSome}
use Rattle.std.specs.List.{filter, All, slice_get}
use Rattle.std.proofs.lemmas.List.{append-nil}
use Rattle.std.proofs.lemmas.List.Elements.{All-head, All-tail, All-push, filter-append}
use Rattle.turn_lock.proofs.Holders.{Any-head}
use mathlib.Core.List.{IsPrefix}
use mathlib.Core.Logic.{dite}
use native.Mathlib.Decide.{ℕ_discrete}
use Rattle.turn_lock.specs.Passes.{LockValue, PassValue, Joined, Closed}
use Rattle.turn_lock.specs.Entries.{has_key, HasKey, IsCompleteByKey, IsNewOrOwn, IsPossible}
use Rattle.turn_lock.proofs.Keys.{has_key-append, no_more, drop_front}
use Rattle.turn_notes.specs.declared.notes.Note.{Note}
use Rattle.turn_notes.specs.declared.notes.Notes.{Notes}
use Rattle.turn_notes.specs.Numbered.{note, numbered, notes_by}

abbrev pub writer : Note → ℕ
writer n = n.by

pub has_below : (xs : List Note) (k b : ℕ) → has_key writer k xs ≡ true → All (λ n. n.by < b) xs → k < b
has_below [] k b e all = absurd (cc e)
has_below (x ∷ xs) k b e all = let head : x.by < b = All-head (λ n. n.by < b) x xs all in dite (ℕ_discrete x.by k)
    (λ is. subst (λ (n : ℕ). n < b) is head)
    (λ other. has_below xs k b (sym (ap (λ c. c || has_key writer k xs) (ne_eqb x.by k other)) ∙ e) (All-tail (λ n. n.by < b) x xs all))

pub has_none : (xs : List Note) (b : ℕ) → All (λ n. n.by < b) xs → has_key writer b xs ≡ false
has_none [] b all = refl
has_none (x ∷ xs) b all = let head : x.by < b = All-head (λ n. n.by < b) x xs all in
    ap (λ c. c || has_key writer b xs) (ne_eqb x.by b (λ z. omega arith)) ∙ has_none xs b (All-tail (λ n. n.by < b) x xs all)

or_mono : (b c d : Bool) → (c ≡ true → d ≡ true) → (b || c) ≡ true → (b || d) ≡ true
or_mono true c d f h = refl
or_mono false c d f h = f h

or_right : (b d : Bool) → d ≡ true → (b || d) ≡ true
or_right true d h = refl
or_right false d h = h

has_cond : (x : Note) (xs ys : List Note) (k : ℕ) (b : Bool) → (has_key writer k ys ≡ true → has_key writer k xs ≡ true) → has_key writer k (cond b (x ∷ ys) ys) ≡ true → has_key writer k (x ∷ xs) ≡ true
has_cond x xs ys k true f h = or_mono (x.by == k) (has_key writer k ys) (has_key writer k xs) f h
has_cond x xs ys k false f h = or_right (x.by == k) (has_key writer k xs) (f h)

has_kept : (p : Note → Bool) (xs : List Note) (k : ℕ) → has_key writer k (filter p xs) ≡ true → has_key writer k xs ≡ true
has_kept p [] k e = e
has_kept p (x ∷ xs) k e = has_cond x xs (filter p xs) k (p x) (has_kept p xs k) e

-- what an own entry has, a possible list has
pub possible_has : (seen own xs : List Note) (k : ℕ) → has_key writer k own ≡ true → IsPossible writer seen own xs → has_key writer k xs ≡ true
possible_has seen own xs k has p = has_kept (λ e. has_key writer e.by own) xs k (subst (λ (l : List Note). has_key writer k l ≡ true) (sym p.1) has)

-- two lists that grew by one from one list grew by the same
pub same_last : {A : Type 0} (xs ys : List A) (a b : A) → ys ≡ xs ++ a ∷ [] → ys ≡ xs ++ b ∷ [] → a ≡ b
same_last xs ys a b p q = let e : a ∷ [] ≡ b ∷ [] = sym (drop_front xs (a ∷ [])) ∙ (ap (drop (length xs)) (sym p ∙ q) ∙ drop_front xs (b ∷ [])) in cc e

-- and by what was added
pub same_added : {A : Type 0} (xs ys added : List A) (a : A) → ys ≡ xs ++ added → ys ≡ xs ++ a ∷ [] → added ≡ a ∷ []
same_added xs ys added a p q = sym (drop_front xs added) ∙ (ap (drop (length xs)) (sym p ∙ q) ∙ drop_front xs (a ∷ []))

pub start_new : (x : Notes) (own : List Note) (by : Option ℕ) (ys : List Note) (e : Note) → MatchOption by (ys ≡ x.notes.items) (λ k. (k ≡ x.next) × (ys ≡ x.notes.items ++ note k 0 ∷ []))
    → ys ≡ x.notes.items ++ e ∷ [] → IsNewOrOwn writer x.notes.items own e
start_new x own None ys e does grown = absurd (let z : e ∷ [] ≡ [] = no_more x.notes.items (e ∷ []) (sym grown ∙ does) in cc z)
start_new x own (Some k) ys e does grown = let is : e ≡ note k 0 = same_last x.notes.items ys e (note k 0) grown does.1 in
    let k_is : x.next ≡ e.by = sym (ap writer is ∙ does.0) in
    inl (subst (λ (n : ℕ). has_key writer n x.notes.items ≡ false) k_is (has_none x.notes.items x.next x.below))

pub add_own : (xs own : List Note) (n : Note) (done : Option (Unit {0})) (ys : List Note) (e : Note) → has_key writer n.by own ≡ true → MatchOption done (ys ≡ xs) (λ _. ys ≡ xs ++ n ∷ [])
    → ys ≡ xs ++ e ∷ [] → IsNewOrOwn writer xs own e
add_own xs own n None ys e has does grown = absurd (let z : e ∷ [] ≡ [] = no_more xs (e ∷ []) (sym grown ∙ does) in cc z)
add_own xs own n (Some u) ys e has does grown = let is : n ≡ e = sym (same_last xs ys e n grown does) in inr (subst (λ (m : Note). has_key writer m.by own ≡ true) is has)

or_same : (b : Bool) → (b || (b || false)) ≡ b
or_same true = refl
or_same false = refl

or_none : (b : Bool) → (b || false) ≡ b
or_none true = refl
or_none false = refl

-- the notes of one writer have its key and no other
pub has_numbered : (a k n : ℕ) → has_key writer k (numbered a (suc n)) ≡ (a == k)
has_numbered a k zero = or_none (a == k)
has_numbered a k (suc n) = has_key-append writer k (numbered a (suc n)) (note a (suc n) ∷ []) ∙ (ap (λ c. c || ((a == k) || false)) (has_numbered a k n) ∙ or_same (a == k))

pub has_own : (a n : ℕ) → 0 < n → has_key writer a (numbered a n) ≡ true
has_own a zero some = absurd (omega arith)
has_own a (suc n) some = has_numbered a a n ∙ eq-eqb a a refl

pub own_notes : (a n : ℕ) → notes_by a (numbered a n) ≡ numbered a n
own_notes a zero = refl
own_notes a (suc n) = filter-append (λ m. m.by == a) (numbered a n) (note a n ∷ []) ∙ (ap (λ b. filter (λ m. m.by == a) (numbered a n) ++ cond b (note a n ∷ []) []) (eq-eqb a a refl) ∙ ap (λ l. l ++ note a n ∷ []) (own_notes a n))

-- a writer's notes are all that the list has of it
pub all_of : (log : List Note) (a n : ℕ) → 0 < n → IsCompleteByKey writer log (numbered a n) → notes_by a log ≡ numbered a n
all_of log a n some is = is a (has_own a n some) ∙ own_notes a n

-- a push that may fail
pub pushed_below : (xs ys : List Note) (n : Note) (b : ℕ) (ok : Bool) → ys ≡ cond ok (xs ++ n ∷ []) xs → All (λ m. m.by < b) xs → n.by < b → All (λ m. m.by < b) ys
pushed_below xs ys n b true e all low = subst (All (λ m. m.by < b)) (sym e) (All-push (λ m. m.by < b) xs n all low)
pushed_below xs ys n b false e all low = subst (All (λ m. m.by < b)) (sym e) all

-- what a turn added to the own list
pub started : (own own' xs ys added : List Note) (by : Option ℕ) (next : ℕ) → MatchOption by (ys ≡ xs) (λ k. (k ≡ next) × (ys ≡ xs ++ note k 0 ∷ [])) → ys ≡ xs ++ added → own' ≡ own ++ added → IfSome by (λ k. own' ≡ own ++ note k 0 ∷ [])
started own own' xs ys added None next does grown is = tt
started own own' xs ys added (Some k) next does grown is = is ∙ ap (λ l. own ++ l) (same_added xs ys added (note k 0) grown does.1)

pub added_one : (own own' xs ys added : List Note) (done : Option (Unit {0})) (n : Note) → MatchOption done (ys ≡ xs) (λ _. ys ≡ xs ++ n ∷ []) → ys ≡ xs ++ added → own' ≡ own ++ added → IfSome done (λ _. own' ≡ own ++ n ∷ [])
added_one own own' xs ys added None n does grown is = tt
added_one own own' xs ys added (Some u) n does grown is = is ∙ ap (λ l. own ++ l) (same_added xs ys added n grown does)

-- nothing was added
pub none_added : (own own' xs ys added : List Note) → ys ≡ xs → ys ≡ xs ++ added → own' ≡ own ++ added → own' ≡ own
none_added own own' xs ys added same grown is = is ∙ (ap (λ l. own ++ l) (no_more xs added (sym grown ∙ same)) ∙ append-nil own)

pub adds_none : (xs own ys : List Note) (e : Note) → ys ≡ xs → ys ≡ xs ++ e ∷ [] → IsNewOrOwn writer xs own e
adds_none xs own ys e same grown = absurd (let z : e ∷ [] ≡ [] = no_more xs (e ∷ []) (sym grown ∙ same) in cc z)

-- a list that begins with another has a first note where that has one, and the same
pub begun_some : (start xs : List Note) → 0 < length start → IsPrefix start xs → 0 < length xs
begun_some [] xs some begins = absurd (omega arith)
begun_some (n ∷ ns) xs some begins = subst (λ (l : List Note). 0 < length l) begins.1 (omega arith)

pub begun_first : (start xs : List Note) (n : Note) → 0 < length start → IsPrefix start xs → slice_get xs 0 ≡ Some n → slice_get start 0 ≡ Some n
begun_first [] xs n some begins is = absurd (omega arith)
begun_first (m ∷ ms) xs n some begins is = ap (λ l. slice_get l 0) begins.1 ∙ is

pub some_is : (o : Option ℕ) (P : ℕ → Type 0) (x : ℕ) → o ≡ Some x → IfSome o P → P x
some_is o P x is h = let Q : Option ℕ → Type 0 = λ p. IfSome p P in subst Q is h

-- two writers' passes were joined, and the lock was closed
module _ (a b count : ℕ) (into from after : PassValue Note) (some : 0 < count) (own : into.own ≡ numbered a count) (own' : from.own ≡ numbered b count) (joined : Joined writer into from after) where
  pub numbers_differ : a ≢ b
  numbers_differ same = joined.apart b
      (Any-head (HasKey writer b) into.own into.kept (subst (λ (l : List Note). HasKey writer b l) (sym own) (subst (λ (n : ℕ). HasKey writer n (numbered a count)) same (has_own a count some))))
      (Any-head (HasKey writer b) from.own from.kept (subst (λ (l : List Note). HasKey writer b l) (sym own') (has_own b count some)))

  module _ (lock : LockValue Note) (log : List Note) (none_kept : into.kept ≡ []) (closed : Closed writer lock after log) where
    lists : after.own ∷ after.kept ≡ numbered a count ∷ numbered b count ∷ from.kept
    lists = λ i. (joined.own ∙ own) i ∷ (joined.kept ∙ (λ j. none_kept j ++ own' j ∷ from.kept)) i

    all : All (IsCompleteByKey writer log) (numbered a count ∷ numbered b count ∷ from.kept)
    all = subst (All (IsCompleteByKey writer log)) lists closed.by_key

    pub first_notes : notes_by a log ≡ numbered a count
    first_notes = all_of log a count some (All-head (IsCompleteByKey writer log) (numbered a count) (numbered b count ∷ from.kept) all)

    pub second_notes : notes_by b log ≡ numbered b count
    second_notes = all_of log b count some (All-head (IsCompleteByKey writer log) (numbered b count) from.kept (All-tail (IsCompleteByKey writer log) (numbered a count) (numbered b count ∷ from.kept) all))
