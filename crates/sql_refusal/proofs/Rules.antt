-- Rules of statements and their forms: what a rule spells, its form spells, and back where no limit is in the way.
use Rattle.std.proofs.Common.{◌≡◌, ℕ, ℤ, suc, ◌+◌, ◌*◌, ◌≤◌, max, Bool, true, false, List, [], ◌∷◌, ◌++◌, length, Option, Some, None, refl, ap, sym, ◌∙◌, subst, length-append, arith}
use Rattle.sql_tree.specs.declared.token.Sign.TheVariants as s
use Rattle.sql_tree.specs.declared.expr.Expr.{Expr}
use Rattle.sql_grammar.specs.declared.mark.Keyword.TheVariants as k
use Rattle.sql_grammar.specs.declared.mark.Mark.{Mark}
use Rattle.sql_grammar.specs.declared.mark.Mark.TheVariants.{Key, Plain, Quoted, Number, Str, Sign}
use Rattle.sql_grammar.specs.declared.mark.Word.{Word}
use Rattle.sql_grammar.specs.Grammar
use Rattle.sql_grammar.specs.Grammar.{Level, expr, nots, Spells, SpellsList, IsExpr, name_of}
use Rattle.sql_grammar.specs.Syntax
use Rattle.sql_grammar.specs.Syntax.{kind, is, is_name, Syntax, gives, one, name_but, integer, text, expression, ◌⨟◌, map, only, either, repeat, spells, Repeats}
use Rattle.sql_grammar.specs.Steps.{any, a_number, a_string}
use Rattle.sql_grammar.proofs.Patterns.{true_false}
use Rattle.sql_refusal.specs.Forms
use Rattle.sql_refusal.specs.Forms.{form, Form, Spelled, many}
use Rattle.sql_refusal.proofs.Unrolled.{Within}
use Rattle.sql_refusal.proofs.Rolled.{IsAt}

-- ---- a rule's form spells what the rule does

module _ (n : ℕ) where
  mark_form : (f : Form) (m : Mark) (ts : List Mark) → ts ≡ m ∷ [] → Spelled (Within n) f (m ∷ []) → Spelled (Within n) f ts
  mark_form f m ts e x = let P : List Mark → Type 0 = λ z. Spelled (Within n) f z in subst P (sym e) x

  both_form : (f : Form) (ts us vs : List Mark) → ts ≡ us ++ vs → Spelled (Within n) f (us ++ vs) → Spelled (Within n) f ts
  both_form f ts us vs e x = let P : List Mark → Type 0 = λ z. Spelled (Within n) f z in subst P (sym e) x

  abbrev Formed : {A : Type 0} → Syntax A → Type 0
  Formed {A = A} a = (ts : List Mark) (x : A) → spells a ts x → 11 * length ts + 10 ≤ n → Spelled (Within n) (form a) ts

  repeats_formed : {A : Type 0} (b : Syntax (List A)) → Formed b → {us : List Mark} {ys : List A} → Repeats (spells b) us ys → 11 * length us + 10 ≤ n → Spelled (Within n) (many (form b)) us
  repeats_formed b each Repeats.none h = Forms.none
  repeats_formed b each (Repeats.more {ts = ts} {us = us} {xs = x} o os) h =
      Forms.more (each ts x o (omega (arith, length-append ts us))) (repeats_formed b each os (omega (arith, length-append ts us)))

  pub formed : {A : Type 0} (a : Syntax A) → Formed a
  formed (gives y) ts x o h = let P : List Mark → Type 0 = λ z. Spelled (Within n) (form (gives y)) z in subst P (sym o.0) Forms.is_nothing
  formed (one t) ts x o h = mark_form (form (one t)) o.mark ts o.alone (Forms.is_mark o.passes)
  formed (name_but but) ts x o h = mark_form (form (name_but but)) o.mark ts o.alone (Forms.is_mark o.passes)
  formed integer ts x o h = mark_form (form integer) (Number x) ts o (Forms.is_mark refl)
  formed text ts x o h = mark_form (form text) (Str x) ts o (Forms.is_mark refl)
  formed (expression most) ts x o h = Forms.is_part (record { tree = x; depth = o.depth; spells = o.spelled; enough = h })
  formed (a ⨟ b) ts p o h =
      let e = ap length o.splits in
      both_form (form (a ⨟ b)) ts o.front o.rest o.splits
      (Forms.both (formed a o.front p.0 o.first (omega (arith, length-append o.front o.rest))) (formed b o.rest p.1 o.second (omega (arith, length-append o.front o.rest))))
  formed (map g a) ts x o h = formed a ts o.of o.spelled h
  formed (only test a) ts x o h = formed a ts x o.spelled h
  formed (either a b) ts x (Syntax.left o) h = Forms.left (formed a ts x o h)
  formed (either a b) ts x (Syntax.right o) h = Forms.right (formed b ts x o h)
  formed (repeat a b) ts zs o h =
      let p = o.parts in
      let e = ap length p.splits in
      both_form (form (repeat a b)) ts p.front p.rest p.splits
      (Forms.both (formed a p.front o.xs p.first (omega (arith, length-append p.front p.rest))) (repeats_formed b (formed b) p.second (omega (arith, length-append p.front p.rest))))

-- ---- a spelling is at most 16 times as deep as it is long

mutual
  deep : {l : Level} {ts : List Mark} {x : Expr} {d : ℕ} → Spells l ts x d → d ≤ 16 * length ts
  deep (Grammar.down l p) = deep p
  deep (Grammar.chain {ts = ts} {us = us} l m o p q e) = let a = deep p in let b = deep q in omega (arith, length-append ts (m ∷ us))
  deep (Grammar.negated p) = let a = deep p in omega arith
  deep (Grammar.is_null {ts = ts} v p) = let a = deep p in omega (arith, length-append ts (Key k.Is ∷ (nots v ++ Key k.Null ∷ [])))
  deep (Grammar.compared {ts = ts} {us = us} m o p q e) = let a = deep p in let b = deep q in omega (arith, length-append ts (m ∷ us))
  deep (Grammar.among {ts = ts} {us = us} v p q) =
      let a = deep p in
      let b = deep_list q in
      let inner : List Mark = us ++ Sign s.Close ∷ [] in
      omega (arith, length-append ts (nots v ++ Key k.In ∷ Sign s.Open ∷ inner), length-append (nots v) (Key k.In ∷ Sign s.Open ∷ inner), length-append us (Sign s.Close ∷ []))
  deep (Grammar.between {ts = ts} {us = us} {vs = vs} v p q r) =
      let a = deep p in
      let b = deep q in
      let c = deep r in
      let inner : List Mark = us ++ Key k.And ∷ vs in
      omega (arith, length-append ts (nots v ++ Key k.Between ∷ inner), length-append (nots v) (Key k.Between ∷ inner), length-append us (Key k.And ∷ vs))
  deep (Grammar.minus p) = let a = deep p in omega arith
  deep (Grammar.plus p) = let a = deep p in omega arith
  deep (Grammar.number n) = omega arith
  deep (Grammar.string t) = omega arith
  deep Grammar.truth = omega arith
  deep Grammar.falsity = omega arith
  deep Grammar.null = omega arith
  deep (Grammar.column m name e) = omega arith
  deep (Grammar.qualified m table n name e f) = omega arith
  deep (Grammar.call_star m name e) = omega arith
  deep (Grammar.call {ts = ts} m name e p) = let a = deep p in omega (arith, length-append ts (Sign s.Close ∷ []))
  deep (Grammar.parens {ts = ts} p) = let a = deep p in omega (arith, length-append ts (Sign s.Close ∷ []))

  deep_list : {ts : List Mark} {xs : List Expr} {d : ℕ} → SpellsList ts xs d → d ≤ 16 * length ts
  deep_list (Grammar.one p) = deep p
  deep_list (Grammar.more {ts = ts} {us = us} p q) = let a = deep p in let b = deep_list q in omega (arith, length-append ts (Sign s.Comma ∷ us))

-- ---- back, where no limit is in the way

-- the limits of the rule don't hinder spellings of at most so many marks
abbrev pub Loose : {A : Type 0} → ℕ → Syntax A → Type 0
Loose n (expression most) = 16 * n ≤ most
Loose n (a ⨟ b) = Loose n a × Loose n b
Loose n (map f a) = Loose n a
Loose {A = A} n (only test a) = ((ts : List Mark) (x : A) → length ts ≤ n → spells a ts x → test x ≡ true) × Loose n a
Loose n (either a b) = Loose n a × Loose n b
Loose n (repeat a b) = Loose n a × Loose n b
Loose n _ = Unit {0}

pub record Spelt {A : Type 0} (a : Syntax A) (ts : List Mark) : Type 0 where
  pub value : A
  pub is : spells a ts value

pub record SpeltMany {A : Type 0} (b : Syntax (List A)) (ts : List Mark) : Type 0 where
  pub items : List A
  pub are : Repeats (spells b) ts items

number_spelt : (m : Mark) → any (a_number ∷ []) (kind (Some m)) ≡ true → Spelt integer (m ∷ [])
number_spelt (Number n) e = record { value = n; is = refl }
number_spelt _ e = absurd (true_false e refl)

text_spelt : (m : Mark) → any (a_string ∷ []) (kind (Some m)) ≡ true → Spelt text (m ∷ [])
text_spelt (Str t) e = record { value = t; is = refl }
text_spelt _ e = absurd (true_false e refl)

name_spelt : (but : List Word) (m : Mark) → is_name but (kind (Some m)) ≡ true → Spelt (name_but but) (m ∷ [])
name_spelt but (Plain w name) e = record { value = name; is = record { mark = Plain w name; alone = refl; passes = e; reads = refl } }
name_spelt but (Quoted name) e = record { value = name; is = record { mark = Quoted name; alone = refl; passes = e; reads = refl } }
name_spelt but _ e = absurd (true_false e refl)

module _ (n : ℕ) where
  abbrev Loosened : {A : Type 0} → Syntax A → Type 0
  Loosened a = (ts : List Mark) → length ts ≤ n → Spelled IsAt (form a) ts → Spelt a ts

  many_loosened : {A : Type 0} (b : Syntax (List A)) (f : Form) → ((ts : List Mark) → length ts ≤ n → Spelled IsAt f ts → Spelt b ts) → (us : List Mark) → length us ≤ n → Spelled IsAt (many f) us → SpeltMany b us
  many_loosened b f each us h Forms.none = record { items = []; are = Repeats.none }
  many_loosened b f each us h (Forms.more {ts = ts} {us = vs} x xs) =
      let a = each ts (omega (arith, length-append ts vs)) x in
      let r = many_loosened b f each vs (omega (arith, length-append ts vs)) xs in
      record { items = a.value ++ r.items; are = Repeats.more a.is r.are }

  pub loosened : {A : Type 0} (a : Syntax A) → Loose n a → Loosened a
  loosened (gives y) w ts h Forms.is_nothing = record { value = y; is = (refl, refl) }
  loosened (one t) w ts h (Forms.is_mark {m = m} e) = record { value = tt; is = record { mark = m; alone = refl; passes = e } }
  loosened (name_but but) w ts h (Forms.is_mark {m = m} e) = name_spelt but m e
  loosened integer w ts h (Forms.is_mark {m = m} e) = number_spelt m e
  loosened text w ts h (Forms.is_mark {m = m} e) = text_spelt m e
  loosened (expression most) w ts h (Forms.is_part x) = let d = deep x.spells in record { value = x.tree; is = record { depth = x.depth; spelled = x.spells; limited = omega arith } }
  loosened (a ⨟ b) w ts h (Forms.both {ts = us} {us = vs} x y) =
      let p = loosened a w.0 us (omega (arith, length-append us vs)) x in
      let q = loosened b w.1 vs (omega (arith, length-append us vs)) y in
      record { value = (p.value, q.value); is = record { front = us; rest = vs; splits = refl; first = p.is; second = q.is } }
  loosened (map g a) w ts h s = let p = loosened a w ts h s in record { value = g p.value; is = record { of = p.value; spelled = p.is; made = refl } }
  loosened (only test a) w ts h s = let p = loosened a w.1 ts h s in record { value = p.value; is = record { spelled = p.is; passes = w.0 ts p.value h p.is } }
  loosened (either a b) w ts h (Forms.left s) = let p = loosened a w.0 ts h s in record { value = p.value; is = Syntax.left p.is }
  loosened (either a b) w ts h (Forms.right s) = let p = loosened b w.1 ts h s in record { value = p.value; is = Syntax.right p.is }
  loosened (repeat a b) w ts h (Forms.both {ts = us} {us = vs} x y) =
      let p = loosened a w.0 us (omega (arith, length-append us vs)) x in
      let q = many_loosened b (form b) (loosened b w.1) vs (omega (arith, length-append us vs)) y in
      record {
        value = p.value ++ q.items;
        is = record { xs = p.value; ys = q.items; all = refl; parts = record { front = us; rest = vs; splits = refl; first = p.is; second = q.are } };
      }
