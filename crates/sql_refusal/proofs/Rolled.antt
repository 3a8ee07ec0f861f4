-- What the rule of a level spells, the grammar spells at that level.
use Rattle.std.proofs.Common.{◌≡◌, ℕ, suc, ◌+◌, max, Bool, true, false, List, [], ◌∷◌, ◌++◌, Option, Some, None, refl, ap, sym, ◌∙◌, subst, append_assoc}
use Rattle.std.specs.Prelude.{if◌then◌else◌, eqb}
use Rattle.std.proofs.lemmas.Bool.{eqb-true}
use Rattle.std.proofs.lemmas.List.{append-nil}
use denote.Enum.Declared.{tag_of}
use Rattle.sql_tree.specs.declared.token.Sign.{Sign as SignOf}
use Rattle.sql_tree.specs.declared.token.Sign.TheVariants as s
use Rattle.sql_tree.specs.contracts.token.Sign as the_sign
use Rattle.sql_tree.specs.declared.op.Op.{Op}
use Rattle.sql_tree.specs.declared.op.Op.TheVariants as op
use Rattle.sql_tree.specs.declared.expr.Expr.{Expr}
use Rattle.sql_tree.specs.declared.expr.Expr.TheVariants as e
use Rattle.sql_grammar.specs.contracts.mark.Keyword as the_keyword
use Rattle.sql_grammar.specs.declared.mark.Keyword.{Keyword}
use Rattle.sql_grammar.specs.declared.mark.Keyword.TheVariants as k
use Rattle.sql_grammar.specs.declared.mark.Mark.{Mark}
use Rattle.sql_grammar.specs.declared.mark.Mark.TheVariants.{Key, Reserved, Plain, Quoted, Number, Str, Param, Sign}
use Rattle.sql_grammar.specs.declared.mark.Sought.TheVariants as sought
use Rattle.sql_grammar.specs.Grammar
use Rattle.sql_grammar.specs.Grammar.{Level, expr, and, not, is, cmp, rng, sum, prod, un, atom, below, link, comparison, name_of, nots, negation, within, Spells, SpellsList}
use Rattle.sql_grammar.specs.Syntax.{kind}
use Rattle.sql_grammar.specs.Steps.{Pattern, the, a_name, any}
use Rattle.sql_grammar.proofs.Patterns.{true_false}
use Rattle.sql_refusal.specs.Forms
use Rattle.sql_refusal.specs.Forms.{Form, nothing, mark, part, ◌▸◌, either, many, Spelled, key, sign, optional_not, chain, list, after_name, leaf, comparisons, sums, products, rule_at}

-- spelled at the level
pub record IsAt (l : Level) (ts : List Mark) : Type 0 where
  pub tree : Expr
  pub depth : ℕ
  pub spells : Spells l ts tree depth

-- ---- marks

key_at : ℕ → Keyword
key_at n =
    if eqb n 0 then k.Or else (if eqb n 1 then k.And else (if eqb n 2 then k.Not else (if eqb n 3 then k.Is else (if eqb n 4 then k.Null else
    (if eqb n 5 then k.In else (if eqb n 6 then k.Between else (if eqb n 7 then k.True else k.False)))))))

key_back : (v : Keyword) → key_at (tag_of the_keyword.the_type v) ≡ v
unfolding key_at
key_back k.Or = refl
key_back k.And = refl
key_back k.Not = refl
key_back k.Is = refl
key_back k.Null = refl
key_back k.In = refl
key_back k.Between = refl
key_back k.True = refl
key_back k.False = refl

key_is : (v : Keyword) (m : Mark) → any (the (sought.Key v) ∷ []) (kind (Some m)) ≡ true → m ≡ Key v
key_is v (Key w) e = ap Key (sym (key_back w) ∙ ap key_at (eqb-true (tag_of the_keyword.the_type w) (tag_of the_keyword.the_type v) e) ∙ key_back v)
key_is v (Reserved w) e = absurd (true_false e refl)
key_is v (Plain w t) e = absurd (true_false e refl)
key_is v (Quoted t) e = absurd (true_false e refl)
key_is v (Number n) e = absurd (true_false e refl)
key_is v (Str t) e = absurd (true_false e refl)
key_is v (Param n) e = absurd (true_false e refl)
key_is v (Sign w) e = absurd (true_false e refl)

sign_at : ℕ → SignOf
sign_at n =
    if eqb n 0 then s.Plus else (if eqb n 1 then s.Minus else (if eqb n 2 then s.Star else (if eqb n 3 then s.Slash else (if eqb n 4 then s.Percent else
    (if eqb n 5 then s.Eq else (if eqb n 6 then s.Ne else (if eqb n 7 then s.Lt else (if eqb n 8 then s.Le else (if eqb n 9 then s.Gt else
    (if eqb n 10 then s.Ge else (if eqb n 11 then s.Open else (if eqb n 12 then s.Close else (if eqb n 13 then s.Comma else (if eqb n 14 then s.Semi else
    (if eqb n 15 then s.Dot else (if eqb n 16 then s.Cast else s.Join))))))))))))))))

sign_back : (v : SignOf) → sign_at (tag_of the_sign.the_type v) ≡ v
unfolding sign_at
sign_back s.Plus = refl
sign_back s.Minus = refl
sign_back s.Star = refl
sign_back s.Slash = refl
sign_back s.Percent = refl
sign_back s.Eq = refl
sign_back s.Ne = refl
sign_back s.Lt = refl
sign_back s.Le = refl
sign_back s.Gt = refl
sign_back s.Ge = refl
sign_back s.Open = refl
sign_back s.Close = refl
sign_back s.Comma = refl
sign_back s.Semi = refl
sign_back s.Dot = refl
sign_back s.Cast = refl
sign_back s.Join = refl

sign_is : (v : SignOf) (m : Mark) → any (the (sought.Sign v) ∷ []) (kind (Some m)) ≡ true → m ≡ Sign v
sign_is v (Sign w) e = ap Sign (sym (sign_back w) ∙ ap sign_at (eqb-true (tag_of the_sign.the_type w) (tag_of the_sign.the_type v) e) ∙ sign_back v)
sign_is v (Reserved w) e = absurd (true_false e refl)
sign_is v (Plain w t) e = absurd (true_false e refl)
sign_is v (Quoted t) e = absurd (true_false e refl)
sign_is v (Number n) e = absurd (true_false e refl)
sign_is v (Str t) e = absurd (true_false e refl)
sign_is v (Param n) e = absurd (true_false e refl)
sign_is v (Key w) e = absurd (true_false e refl)

pub record Links (l : Level) (m : Mark) : Type 0 where
  pub op : Op
  pub is : link l m ≡ Some op

or_link : (m : Mark) → any (the (sought.Key k.Or) ∷ []) (kind (Some m)) ≡ true → Links expr m
or_link m e = record { op = op.Or; is = ap (link expr) (key_is k.Or m e) }

and_link : (m : Mark) → any (the (sought.Key k.And) ∷ []) (kind (Some m)) ≡ true → Links and m
and_link m e = record { op = op.And; is = ap (link and) (key_is k.And m e) }

sum_link : (m : Mark) → any sums (kind (Some m)) ≡ true → Links sum m
sum_link (Sign s.Plus) e = record { op = op.Add; is = refl }
sum_link (Sign s.Minus) e = record { op = op.Sub; is = refl }
sum_link _ e = absurd (true_false e refl)

product_link : (m : Mark) → any products (kind (Some m)) ≡ true → Links prod m
product_link (Sign s.Star) e = record { op = op.Mul; is = refl }
product_link (Sign s.Slash) e = record { op = op.Div; is = refl }
product_link (Sign s.Percent) e = record { op = op.Rem; is = refl }
product_link _ e = absurd (true_false e refl)

pub record Compares (m : Mark) : Type 0 where
  pub op : Op
  pub is : comparison m ≡ Some op

compares : (m : Mark) → any comparisons (kind (Some m)) ≡ true → Compares m
compares (Sign s.Eq) e = record { op = op.Eq; is = refl }
compares (Sign s.Ne) e = record { op = op.Ne; is = refl }
compares (Sign s.Lt) e = record { op = op.Lt; is = refl }
compares (Sign s.Le) e = record { op = op.Le; is = refl }
compares (Sign s.Gt) e = record { op = op.Gt; is = refl }
compares (Sign s.Ge) e = record { op = op.Ge; is = refl }
compares _ e = absurd (true_false e refl)

pub record Names (m : Mark) : Type 0 where
  pub name : List ℕ
  pub is : name_of m ≡ Some name

names : (m : Mark) → any (a_name [] ∷ []) (kind (Some m)) ≡ true → Names m
names (Plain w text) e = record { name = text; is = refl }
names (Quoted text) e = record { name = text; is = refl }
names _ e = absurd (true_false e refl)

at : {l : Level} {ts : List Mark} {x : Expr} {d : ℕ} → Spells l ts x d → IsAt l ts
at {x = x} {d = d} p = record { tree = x; depth = d; spells = p }

looser : (l : Level) (ts : List Mark) → IsAt (below l) ts → IsAt l ts
looser l ts a = at (Grammar.down l a.spells)

leaf_at : (m : Mark) → any leaf (kind (Some m)) ≡ true → IsAt atom (m ∷ [])
leaf_at (Number n) e = at (Grammar.number n)
leaf_at (Str t) e = at (Grammar.string t)
leaf_at (Key k.True) e = at Grammar.truth
leaf_at (Key k.False) e = at Grammar.falsity
leaf_at (Key k.Null) e = at Grammar.null
leaf_at _ e = absurd (true_false e refl)

-- ---- chains

regroup : (l : Level) (ts us vs : List Mark) → IsAt l ((ts ++ us) ++ vs) → IsAt l (ts ++ (us ++ vs))
regroup l ts us vs a = let P : List Mark → Type 0 = λ z. IsAt l z in let regrouped : (ts ++ us) ++ vs ≡ ts ++ (us ++ vs) = simp append_assoc in subst P regrouped a

unended : (l : Level) (ts : List Mark) → IsAt l ts → IsAt l (ts ++ [])
unended l ts a = let P : List Mark → Type 0 = λ z. IsAt l z in subst P (sym (append-nil ts)) a

chained : (l b : Level) (tighter : (ts : List Mark) → IsAt b ts → IsAt (below l) ts) (links : List Pattern) (linked : (m : Mark) → any links (kind (Some m)) ≡ true → Links l m) (ts us : List Mark)
    → IsAt l ts → Spelled IsAt (many (mark links ▸ part b)) us → IsAt l (ts ++ us)
chained l b tighter links linked ts us a Forms.none = unended l ts a
chained l b tighter links linked ts us a (Forms.more {us = vs} (Forms.both (Forms.is_mark {m = m} f) (Forms.is_part {ts = ys} y)) xs) =
    let o = linked m f in
    let next = tighter ys y in
    regroup l ts (m ∷ ys) vs (chained l b tighter links linked (ts ++ m ∷ ys) vs (at (Grammar.chain l m o.op a.spells next.spells o.is)) xs)

tested : (ts us : List Mark) → IsAt is ts → Spelled IsAt (many (key k.Is ▸ optional_not ▸ key k.Null)) us → IsAt is (ts ++ us)
tested ts us a Forms.none = unended is ts a
tested ts us a (Forms.more {us = vs} (Forms.both (Forms.is_mark {m = m} f) (Forms.both (Forms.left (Forms.is_mark {m = n} g)) (Forms.is_mark {m = o} h))) xs) =
    let P : Mark → Mark → Mark → Type 0 = λ p q r. IsAt is (ts ++ (p ∷ q ∷ r ∷ [])) in
    let b = subst (λ p. P p n o) (sym (key_is k.Is m f)) (subst (λ q. P (Key k.Is) q o) (sym (key_is k.Not n g)) (subst (λ r. P (Key k.Is) (Key k.Not) r) (sym (key_is k.Null o h)) (at (Grammar.is_null true a.spells)))) in
    regroup is ts (m ∷ n ∷ o ∷ []) vs (tested (ts ++ (m ∷ n ∷ o ∷ [])) vs b xs)
tested ts us a (Forms.more {us = vs} (Forms.both (Forms.is_mark {m = m} f) (Forms.both (Forms.right Forms.is_nothing) (Forms.is_mark {m = o} h))) xs) =
    let P : Mark → Mark → Type 0 = λ p r. IsAt is (ts ++ (p ∷ r ∷ [])) in
    let b = subst (λ p. P p o) (sym (key_is k.Is m f)) (subst (λ r. P (Key k.Is) r) (sym (key_is k.Null o h)) (at (Grammar.is_null false a.spells))) in
    regroup is ts (m ∷ o ∷ []) vs (tested (ts ++ (m ∷ o ∷ [])) vs b xs)

negated : (ts us : List Mark) → Spelled IsAt (many (key k.Not)) ts → IsAt not us → IsAt not (ts ++ us)
negated ts us Forms.none a = a
negated ts us (Forms.more {us = vs} (Forms.is_mark {m = m} f) xs) a =
    let P : Mark → Type 0 = λ z. IsAt not (z ∷ (vs ++ us)) in
    subst P (sym (key_is k.Not m f)) (at (Grammar.negated (negated vs us xs a).spells))

with_sign : (m : Mark) (ts : List Mark) → any sums (kind (Some m)) ≡ true → IsAt un ts → IsAt un (m ∷ ts)
with_sign (Sign s.Plus) ts e a = at (Grammar.plus a.spells)
with_sign (Sign s.Minus) ts e a = at (Grammar.minus a.spells)
with_sign _ ts e a = absurd (true_false e refl)

signed : (ts us : List Mark) → Spelled IsAt (many (mark sums)) ts → IsAt un us → IsAt un (ts ++ us)
signed ts us Forms.none a = a
signed ts us (Forms.more {us = vs} (Forms.is_mark {m = m} f) xs) a = with_sign m (vs ++ us) f (signed vs us xs a)

-- ---- lists

pub record IsList (ts : List Mark) : Type 0 where
  pub trees : List Expr
  pub depth : ℕ
  pub spells : SpellsList ts trees depth

listed : (ts us : List Mark) → IsAt expr ts → Spelled IsAt (many (sign s.Comma ▸ part expr)) us → IsList (ts ++ us)
listed ts us a Forms.none =
    let P : List Mark → Type 0 = λ z. IsList z in
    subst P (sym (append-nil ts)) (record { trees = a.tree ∷ []; depth = a.depth; spells = Grammar.one a.spells })
listed ts us a (Forms.more {us = vs} (Forms.both (Forms.is_mark {m = m} f) (Forms.is_part {ts = ys} b)) xs) =
    let r = listed ys vs b xs in
    let P : Mark → Type 0 = λ z. IsList (ts ++ z ∷ (ys ++ vs)) in
    subst P (sym (sign_is s.Comma m f)) (record { trees = a.tree ∷ r.trees; depth = max a.depth r.depth; spells = Grammar.more a.spells r.spells })

-- a list in parentheses, by the marks between them
pub record InParens (ts : List Mark) : Type 0 where
  pub inner : List Mark
  pub splits : ts ≡ Sign s.Open ∷ (inner ++ Sign s.Close ∷ [])
  pub is : IsList inner

in_parens : (ts : List Mark) → Spelled IsAt list ts → InParens ts
in_parens ts (Forms.both (Forms.is_mark {m = m} f) (Forms.both (Forms.is_part {ts = xs} a) (Forms.both {ts = ys} items (Forms.is_mark {m = n} g)))) =
    let P : Mark → Mark → Type 0 = λ p q. p ∷ (xs ++ (ys ++ q ∷ [])) ≡ Sign s.Open ∷ ((xs ++ ys) ++ Sign s.Close ∷ []) in
    record {
      inner = xs ++ ys;
      splits = subst (λ p. P p n) (sym (sign_is s.Open m f)) (subst (λ q. P (Sign s.Open) q) (sym (sign_is s.Close n g)) (simp append_assoc));
      is = listed xs ys a items;
    }

pub record IsNots (ts : List Mark) : Type 0 where
  pub negative : Bool
  pub is : ts ≡ nots negative

nots_of : (ts : List Mark) → Spelled IsAt optional_not ts → IsNots ts
nots_of ts (Forms.left (Forms.is_mark {m = m} f)) = record { negative = true; is = ap (λ z. z ∷ []) (key_is k.Not m f) }
nots_of ts (Forms.right Forms.is_nothing) = record { negative = false; is = refl }

ranged : (ts us : List Mark) → IsAt sum ts → Spelled IsAt (optional_not ▸ either (key k.In ▸ list) (key k.Between ▸ part sum ▸ key k.And ▸ part sum)) us → IsAt rng (ts ++ us)
ranged ts us a (Forms.both {ts = ns} o (Forms.left (Forms.both {us = ls} (Forms.is_mark {m = m} f) l))) =
    let n = nots_of ns o in
    let q = in_parens ls l in
    let P : List Mark → Mark → List Mark → Type 0 = λ x y z. IsAt rng (ts ++ (x ++ y ∷ z)) in
    subst (λ x. P x m ls) (sym n.is) (subst (λ y. P (nots n.negative) y ls) (sym (key_is k.In m f)) (subst (λ z. P (nots n.negative) (Key k.In) z) (sym q.splits) (at (Grammar.among n.negative a.spells q.is.spells))))
ranged ts us a (Forms.both {ts = ns} o (Forms.right (Forms.both (Forms.is_mark {m = m} f) (Forms.both (Forms.is_part {ts = xs} b) (Forms.both (Forms.is_mark {m = l} g) (Forms.is_part {ts = ys} c)))))) =
    let n = nots_of ns o in
    let P : List Mark → Mark → Mark → Type 0 = λ x y z. IsAt rng (ts ++ (x ++ y ∷ (xs ++ z ∷ ys))) in
    subst (λ x. P x m l) (sym n.is) (subst (λ y. P (nots n.negative) y l) (sym (key_is k.Between m f)) (subst (λ z. P (nots n.negative) (Key k.Between) z) (sym (key_is k.And l g)) (at (Grammar.between n.negative a.spells b.spells c.spells))))

-- ---- names

name_at : (m : Mark) (us : List Mark) → any (a_name [] ∷ []) (kind (Some m)) ≡ true → Spelled IsAt after_name us → IsAt atom (m ∷ us)
name_at m us e (Forms.left (Forms.both (Forms.is_mark {m = d} f) (Forms.is_mark {m = o} g))) =
    let P : Mark → Type 0 = λ z. IsAt atom (m ∷ z ∷ o ∷ []) in
    subst P (sym (sign_is s.Dot d f)) (at (Grammar.qualified m (names m e).name o (names o g).name (names m e).is (names o g).is))
name_at m us e (Forms.right (Forms.left (Forms.both (Forms.is_mark {m = p} f) (Forms.both (Forms.left (Forms.is_mark {m = t} g)) (Forms.is_mark {m = c} h))))) =
    let P : Mark → Mark → Mark → Type 0 = λ x y z. IsAt atom (m ∷ x ∷ y ∷ z ∷ []) in
    subst (λ x. P x t c) (sym (sign_is s.Open p f)) (subst (λ y. P (Sign s.Open) y c) (sym (sign_is s.Star t g)) (subst (λ z. P (Sign s.Open) (Sign s.Star) z) (sym (sign_is s.Close c h)) (at (Grammar.call_star m (names m e).name (names m e).is))))
name_at m us e (Forms.right (Forms.left (Forms.both (Forms.is_mark {m = p} f) (Forms.both (Forms.right (Forms.is_part {ts = ts} a)) (Forms.is_mark {m = c} h))))) =
    let P : Mark → Mark → Type 0 = λ x z. IsAt atom (m ∷ x ∷ (ts ++ z ∷ [])) in
    subst (λ x. P x c) (sym (sign_is s.Open p f)) (subst (λ z. P (Sign s.Open) z) (sym (sign_is s.Close c h)) (at (Grammar.call m (names m e).name (names m e).is a.spells)))
name_at m us e (Forms.right (Forms.right Forms.is_nothing)) = at (Grammar.column m (names m e).name (names m e).is)

-- ---- the levels

pub rolled : (l : Level) (ts : List Mark) → Spelled IsAt (rule_at l) ts → IsAt l ts
rolled expr ts (Forms.both {ts = xs} {us = us} (Forms.is_part a) others) = chained expr and (λ ts a. a) (the (sought.Key k.Or) ∷ []) or_link xs us (looser expr xs a) others
rolled and ts (Forms.both {ts = xs} {us = us} (Forms.is_part a) others) = chained and not (λ ts a. a) (the (sought.Key k.And) ∷ []) and_link xs us (looser and xs a) others
rolled not ts (Forms.both {ts = xs} {us = us} others (Forms.is_part a)) = negated xs us others (looser not us a)
rolled is ts (Forms.both {ts = xs} {us = us} (Forms.is_part a) others) = tested xs us (looser is xs a) others
rolled cmp ts (Forms.both {ts = xs} (Forms.is_part a) (Forms.left (Forms.both (Forms.is_mark {m = m} f) (Forms.is_part b)))) =
    let o = compares m f in at (Grammar.compared m o.op a.spells b.spells o.is)
rolled cmp ts (Forms.both {ts = xs} (Forms.is_part a) (Forms.right Forms.is_nothing)) = unended cmp xs (looser cmp xs a)
rolled rng ts (Forms.both {ts = xs} (Forms.is_part a) (Forms.left {ts = us} others)) = ranged xs us a others
rolled rng ts (Forms.both {ts = xs} (Forms.is_part a) (Forms.right Forms.is_nothing)) = unended rng xs (looser rng xs a)
rolled sum ts (Forms.both {ts = xs} {us = us} (Forms.is_part a) others) = chained sum prod (λ ts a. a) sums sum_link xs us (looser sum xs a) others
rolled prod ts (Forms.both {ts = xs} {us = us} (Forms.is_part a) others) = chained prod un (λ ts a. a) products product_link xs us (looser prod xs a) others
rolled un ts (Forms.both {ts = xs} {us = us} others (Forms.is_part a)) = signed xs us others (looser un us a)
rolled atom ts (Forms.left (Forms.is_mark {m = m} f)) = leaf_at m f
rolled atom ts (Forms.right (Forms.left (Forms.both {us = us} (Forms.is_mark {m = m} f) others))) = name_at m us f others
rolled atom ts (Forms.right (Forms.right (Forms.both (Forms.is_mark {m = m} f) (Forms.both (Forms.is_part {ts = xs} a) (Forms.is_mark {m = n} g))))) =
    let P : Mark → Mark → Type 0 = λ p q. IsAt atom (p ∷ (xs ++ q ∷ [])) in
    subst (λ p. P p n) (sym (sign_is s.Open m f)) (subst (λ q. P (Sign s.Open) q) (sym (sign_is s.Close n g)) (at (Grammar.parens a.spells)))
