-- Rules of statements are read exactly where the next mark tells how they go on.
use Rattle.std.proofs.Common.{◌≡◌, ℕ, ℤ, zero, suc, Bool, true, false, List, [], ◌∷◌, ◌++◌, length, Option, Some, None, refl, ap, sym, ◌∙◌, subst, append_assoc}
use Rattle.std.specs.Prelude.{if◌then◌else◌}
use Rattle.std.proofs.lemmas.List.{append-nil}
use Rattle.sql_grammar.specs.declared.mark.Sought.{Sought}
use Rattle.sql_grammar.specs.declared.mark.Sought.TheVariants as sought
use Rattle.sql_grammar.specs.declared.mark.Word.{Word}
use Rattle.sql_grammar.specs.declared.mark.Mark.{Mark}
use Rattle.sql_grammar.specs.declared.mark.Mark.TheVariants.{Number, Str}
use Rattle.sql_grammar.specs.Grammar.{expr}
use Rattle.sql_grammar.specs.Reading.{Parser, and_then, front, read}
use Rattle.sql_grammar.specs.Syntax
use Rattle.sql_grammar.specs.Syntax.{Kind, kind, is, is_name, Syntax, gives, one, name_but, integer, text, expression, ◌⨟◌, map, only, either, repeat, spells, Repeats}
use Rattle.sql_grammar.specs.Steps.{any, begins, reading, repeat_from}
use Rattle.sql_grammar.proofs.Taken.{bind, none_some, pair_of, value_of, after_of, name_takes}
use Rattle.sql_grammar.proofs.Whole.{expr_sound}

-- the marks in front of the rest spell the value
pub record Takes {A : Type 0} (R : List Mark → A → Type 0) (whole : List Mark) (x : A) (after : List Mark) : Type 0 where
  pub taken : List Mark
  pub splits : whole ≡ taken ++ after
  pub spelled : R taken x

same : {A : Type 0} (R : List Mark → A → Type 0) (whole : List Mark) (x : A) (after : List Mark) (y : A) (r : List Mark) → ◌≡◌ {A = Option (A × List Mark)} (Some (x, after)) (Some (y, r)) → Takes R whole x after → Takes R whole y r
same {A = A} R whole x after y r e t = let P : A × List Mark → Type 0 = λ p. Takes R whole p.0 p.1 in subst P (pair_of _ _ e) t

-- both parts of a test that was passed
pub test_some : {X : Type 0} (c : Bool) (o : Option X) (y : X) → (if c then o else None) ≡ Some y → (c ≡ true) × (o ≡ Some y)
test_some true o y e = (refl, e)
test_some false o y e = absurd (none_some e)

is_end : (t : Sought) → is t Syntax.end ≡ true → ⊥
is_end (sought.Plain w) e = cc
is_end (sought.Reserved w) e = cc
is_end (sought.Key w) e = cc
is_end (sought.Sign w) e = cc

one_sound : (t : Sought) (ts : List Mark) (x : Unit {0}) (r : List Mark) → reading (one t) ts ≡ Some (x, r) → Takes (spells (one t)) ts x r
one_sound t [] x r e = absurd (is_end t (test_some _ _ _ e).0)
one_sound t (m ∷ ts) x r e =
    let h = test_some (is t (kind (Some m))) _ _ e in
    record { taken = m ∷ []; splits = ap (λ z. m ∷ z) (after_of _ _ _ _ h.1); spelled = record { mark = m; alone = refl; passes = h.0 } }

name_sound : (but : List Word) (ts : List Mark) (x : List ℕ) (r : List Mark) → reading (name_but but) ts ≡ Some (x, r) → Takes (spells (name_but but)) ts x r
name_sound but [] x r e = absurd (none_some e)
name_sound but (m ∷ ts) x r e =
    let h = test_some (is_name but (kind (Some m))) _ _ e in
    let n = name_takes (m ∷ ts) x r h.1 in
    let f : m ≡ n.mark = cc (n.splits) in
    let P : Mark → Type 0 = λ z. is_name but (kind (Some z)) ≡ true in
    record { taken = n.mark ∷ []; splits = n.splits; spelled = record { mark = n.mark; alone = refl; passes = subst P f h.0; reads = n.names } }

integer_sound : (ts : List Mark) (x : ℤ) (r : List Mark) → reading integer ts ≡ Some (x, r) → Takes (spells integer) ts x r
integer_sound [] x r e = absurd (none_some e)
integer_sound (Number n ∷ ts) x r e = record { taken = Number n ∷ []; splits = ap (λ z. Number n ∷ z) (after_of _ _ _ _ e); spelled = ap (λ z. Number z ∷ []) (value_of _ _ _ _ e) }
integer_sound (m ∷ ts) x r e = absurd (none_some e)

text_sound : (ts : List Mark) (x : List ℕ) (r : List Mark) → reading text ts ≡ Some (x, r) → Takes (spells text) ts x r
text_sound [] x r e = absurd (none_some e)
text_sound (Str n ∷ ts) x r e = record { taken = Str n ∷ []; splits = ap (λ z. Str n ∷ z) (after_of _ _ _ _ e); spelled = ap (λ z. Str z ∷ []) (value_of _ _ _ _ e) }
text_sound (m ∷ ts) x r e = absurd (none_some e)

expression_sound : (most : ℕ) (ts : List Mark) (x : _) (r : List Mark) → reading (expression most) ts ≡ Some (x, r) → Takes (spells (expression most)) ts x r
expression_sound most ts x r e =
    let a = bind (read most expr ts) _ _ e in
    let f = expr_sound most ts a.value a.after a.first in
    same (spells (expression most)) ts a.value.tree a.after x r a.second (record { taken = f.taken; splits = f.splits; spelled = f.is })

-- lists after what was found
record TakesMore {A : Type 0} (R : List Mark → List A → Type 0) (whole : List Mark) (found zs : List A) (after : List Mark) : Type 0 where
  taken : List Mark
  items : List A
  splits : whole ≡ taken ++ after
  spelled : Repeats R taken items
  all : zs ≡ found ++ items

no_more : {A : Type 0} (R : List Mark → List A → Type 0) (ts : List Mark) (found zs : List A) (r : List Mark) → ◌≡◌ {A = Option (List A × List Mark)} (Some (found, ts)) (Some (zs, r)) → TakesMore R ts found zs r
no_more R ts found zs r e = record { taken = []; items = []; splits = after_of _ _ _ _ e; spelled = Repeats.none; all = sym (value_of _ _ _ _ e) ∙ sym (append-nil found) }

one_more : {A : Type 0} (R : List Mark → List A → Type 0) (ts us : List Mark) (found zs xs : List A) (r : List Mark) → Takes R ts xs us → TakesMore R us (found ++ xs) zs r → TakesMore R ts found zs r
one_more R ts us found zs xs r a m = record {
  taken = a.taken ++ m.taken;
  items = xs ++ m.items;
  splits = a.splits ∙ ap (λ z. a.taken ++ z) m.splits ∙ simp append_assoc;
  spelled = Repeats.more a.spelled m.spelled;
  all = m.all ∙ simp append_assoc;
}

abbrev pub SoundItem : {A : Type 0} → (List Mark → A → Type 0) → Parser A → Type 0
SoundItem {A = A} R p = (ts : List Mark) (x : A) (r : List Mark) → p ts ≡ Some (x, r) → Takes R ts x r

step_sound : {A : Type 0} (R : List Mark → List A → Type 0) (item : Parser (List A)) → SoundItem R item → (go : List A → Parser (List A)) (found : List A)
    → ((xs : List A) (us : List Mark) (zs : List A) (r : List Mark) → go xs us ≡ Some (zs, r) → TakesMore R us (found ++ xs) zs r)
    → (c : Bool) (ts : List Mark) (zs : List A) (r : List Mark) → (if c then and_then (item ts) go else Some (found, ts)) ≡ Some (zs, r) → TakesMore R ts found zs r
step_sound R item h go found again true ts zs r e =
    let a = bind (item ts) _ _ e in
    one_more R ts a.after found zs a.value r (h ts a.value a.after a.first) (again a.value a.after zs r a.second)
step_sound R item h go found again false ts zs r e = no_more R ts found zs r e

repeat_sound : {A : Type 0} (R : List Mark → List A → Type 0) (first : Kind → Bool) (item : Parser (List A)) → SoundItem R item → (turns : ℕ) (found : List A) (ts : List Mark) (zs : List A) (r : List Mark)
    → repeat_from first item turns found ts ≡ Some (zs, r) → TakesMore R ts found zs r
unfolding repeat_from
repeat_sound R first item h zero found ts zs r e = no_more R ts found zs r e
repeat_sound R first item h (suc turns) found ts zs r e =
    step_sound R item h (λ xs us. repeat_from first item turns (found ++ xs) us) found (λ xs us zs r e. repeat_sound R first item h turns (found ++ xs) us zs r e) (first (kind (front ts))) ts zs r e

either_sound : {A : Type 0} (R S : List Mark → A → Type 0) (c : Bool) (p q : Option (A × List Mark)) (ts : List Mark) (x : A) (r : List Mark) → (p ≡ Some (x, r) → Takes R ts x r) → (q ≡ Some (x, r) → Takes S ts x r)
    → (if c then p else q) ≡ Some (x, r) → Takes (λ us y. Syntax.Either R S us y) ts x r
either_sound R S true p q ts x r f g e = let t = f e in record { taken = t.taken; splits = t.splits; spelled = Syntax.left t.spelled }
either_sound R S false p q ts x r f g e = let t = g e in record { taken = t.taken; splits = t.splits; spelled = Syntax.right t.spelled }

-- what is read is spelled so
pub sound : {A : Type 0} (a : Syntax A) (ts : List Mark) (x : A) (r : List Mark) → reading a ts ≡ Some (x, r) → Takes (spells a) ts x r
sound (gives y) ts x r e = record { taken = []; splits = after_of _ _ _ _ e; spelled = (refl, value_of _ _ _ _ e) }
sound (one t) ts x r e = one_sound t ts x r e
sound (name_but but) ts x r e = name_sound but ts x r e
sound integer ts x r e = integer_sound ts x r e
sound text ts x r e = text_sound ts x r e
sound (expression most) ts x r e = expression_sound most ts x r e
sound (a ⨟ b) ts x r e =
    let p = bind (reading a ts) _ _ e in
    let q = bind (reading b p.after) _ _ p.second in
    let t = sound a ts p.value p.after p.first in
    let u = sound b p.after q.value q.after q.first in
    same (spells (a ⨟ b)) ts (p.value, q.value) q.after x r q.second (record {
      taken = t.taken ++ u.taken;
      splits = t.splits ∙ ap (λ z. t.taken ++ z) u.splits ∙ simp append_assoc;
      spelled = record { front = t.taken; rest = u.taken; splits = refl; first = t.spelled; second = u.spelled };
    })
sound (map f a) ts x r e =
    let p = bind (reading a ts) _ _ e in
    let t = sound a ts p.value p.after p.first in
    same (spells (map f a)) ts (f p.value) p.after x r p.second (record { taken = t.taken; splits = t.splits; spelled = record { of = p.value; spelled = t.spelled; made = refl } })
sound (only test a) ts x r e =
    let p = bind (reading a ts) _ _ e in
    let t = sound a ts p.value p.after p.first in
    let h = test_some (test p.value) _ _ p.second in
    same (spells (only test a)) ts p.value p.after x r h.1 (record { taken = t.taken; splits = t.splits; spelled = record { spelled = t.spelled; passes = h.0 } })
sound (either a b) ts x r e = either_sound (spells a) (spells b) (any (begins a) (kind (front ts))) (reading a ts) (reading b ts) ts x r (sound a ts x r) (sound b ts x r) e
sound (repeat a b) ts x r e =
    let p = bind (reading a ts) _ _ e in
    let t = sound a ts p.value p.after p.first in
    let m = repeat_sound (spells b) (any (begins b)) (reading b) (sound b) (length p.after) p.value p.after x r p.second in
    record {
      taken = t.taken ++ m.taken;
      splits = t.splits ∙ ap (λ z. t.taken ++ z) m.splits ∙ simp append_assoc;
      spelled = record { xs = p.value; ys = m.items; all = m.all; parts = record { front = t.taken; rest = m.taken; splits = refl; first = t.spelled; second = m.spelled } };
    }
