-- What the grammar spells at a level, the level's rule spells, with shorter parts or parts of tighter levels.
use Rattle.std.proofs.Common.{◌≡◌, ℕ, suc, ◌+◌, ◌*◌, ◌≤◌, Bool, true, false, List, [], ◌∷◌, ◌++◌, length, Some, refl, ap, sym, ◌∙◌, subst, append_assoc, length-append, arith}
use Rattle.std.proofs.lemmas.List.{append-nil}
use Rattle.sql_tree.specs.declared.token.Sign.TheVariants as s
use Rattle.sql_tree.specs.declared.op.Op.{Op}
use Rattle.sql_tree.specs.declared.expr.Expr.{Expr}
use Rattle.sql_grammar.specs.declared.mark.Keyword.TheVariants as k
use Rattle.sql_grammar.specs.declared.mark.Mark.{Mark}
use Rattle.sql_grammar.specs.declared.mark.Mark.TheVariants.{Key, Plain, Quoted, Number, Str, Sign}
use Rattle.sql_grammar.specs.declared.mark.Sought.TheVariants as sought
use Rattle.sql_grammar.specs.Grammar
use Rattle.sql_grammar.specs.Grammar.{Level, expr, and, not, is, cmp, rng, sum, prod, un, atom, below, link, comparison, name_of, nots, Spells, SpellsList}
use Rattle.sql_grammar.specs.Syntax.{kind}
use Rattle.sql_grammar.specs.Steps.{Pattern, the, a_name, any}
use Rattle.sql_grammar.proofs.Follow.{number}
use Rattle.sql_grammar.proofs.Taken.{none_some}
use Rattle.sql_refusal.specs.Forms
use Rattle.sql_refusal.specs.Forms.{Form, nothing, mark, part, ◌▸◌, either, many, Spelled, key, sign, optional_not, chain, list, comparisons, sums, products, rule_at}

-- spelled at the level, within so many steps from level to level
pub record Within (n : ℕ) (l : Level) (ts : List Mark) : Type 0 where
  pub tree : Expr
  pub depth : ℕ
  pub spells : Spells l ts tree depth
  pub enough : 11 * length ts + number l ≤ n

-- ---- marks

or_link : (m : Mark) (o : Op) → link expr m ≡ Some o → any (the (sought.Key k.Or) ∷ []) (kind (Some m)) ≡ true
or_link (Key k.Or) o e = refl
or_link _ o e = absurd (none_some e)

and_link : (m : Mark) (o : Op) → link and m ≡ Some o → any (the (sought.Key k.And) ∷ []) (kind (Some m)) ≡ true
and_link (Key k.And) o e = refl
and_link _ o e = absurd (none_some e)

sum_link : (m : Mark) (o : Op) → link sum m ≡ Some o → any sums (kind (Some m)) ≡ true
sum_link (Sign s.Plus) o e = refl
sum_link (Sign s.Minus) o e = refl
sum_link _ o e = absurd (none_some e)

product_link : (m : Mark) (o : Op) → link prod m ≡ Some o → any products (kind (Some m)) ≡ true
product_link (Sign s.Star) o e = refl
product_link (Sign s.Slash) o e = refl
product_link (Sign s.Percent) o e = refl
product_link _ o e = absurd (none_some e)

compares : (m : Mark) (o : Op) → comparison m ≡ Some o → any comparisons (kind (Some m)) ≡ true
compares (Sign s.Eq) o e = refl
compares (Sign s.Ne) o e = refl
compares (Sign s.Lt) o e = refl
compares (Sign s.Le) o e = refl
compares (Sign s.Gt) o e = refl
compares (Sign s.Ge) o e = refl
compares _ o e = absurd (none_some e)

named : (m : Mark) (name : List ℕ) → name_of m ≡ Some name → any (a_name [] ∷ []) (kind (Some m)) ≡ true
named (Plain w text) name e = refl
named (Quoted text) name e = refl
named _ name e = absurd (none_some e)

-- ---- forms one after the other

module _ (E : Level → List Mark → Type 0) where
  -- a part with nothing after it
  alone : {a b : Form} {ts : List Mark} → Spelled E a ts → Spelled E b [] → Spelled E (a ▸ b) ts
  alone {a = a} {b = b} {ts = ts} x y = let P : List Mark → Type 0 = λ z. Spelled E (a ▸ b) z in subst P (append-nil ts) (Forms.both x y)

  once_more : {a : Form} {ts us : List Mark} → Spelled E (many a) ts → Spelled E a us → Spelled E (many a) (ts ++ us)
  once_more {a = a} {us = us} Forms.none y = let P : List Mark → Type 0 = λ z. Spelled E (many a) z in subst P (append-nil us) (Forms.more y Forms.none)
  once_more {a = a} {us = vs} (Forms.more {ts = ts} {us = us} x xs) y =
      let P : List Mark → Type 0 = λ z. Spelled E (many a) z in
      let regrouped : ts ++ (us ++ vs) ≡ (ts ++ us) ++ vs = simp append_assoc in
      subst P regrouped (Forms.more x (once_more xs y))

  longer : {a b : Form} {ts us : List Mark} → Spelled E (a ▸ many b) ts → Spelled E b us → Spelled E (a ▸ many b) (ts ++ us)
  longer {a = a} {b = b} {us = vs} (Forms.both {ts = ts} {us = us} x xs) y =
      let P : List Mark → Type 0 = λ z. Spelled E (a ▸ many b) z in
      let regrouped : ts ++ (us ++ vs) ≡ (ts ++ us) ++ vs = simp append_assoc in
      subst P regrouped (Forms.both x (once_more xs y))

  one_in_front : {a b : Form} {m : Mark} {ts : List Mark} → Spelled E a (m ∷ []) → Spelled E (many a ▸ b) ts → Spelled E (many a ▸ b) (m ∷ ts)
  one_in_front x (Forms.both xs y) = Forms.both (Forms.more x xs) y

  not_or_nothing : (n : Bool) → Spelled E optional_not (nots n)
  not_or_nothing true = Forms.left (Forms.is_mark refl)
  not_or_nothing false = Forms.right Forms.is_nothing

-- ---- lists

pub record Listed (n : ℕ) (us : List Mark) : Type 0 where
  pub first : List Mark
  pub rest : List Mark
  pub splits : us ≡ first ++ rest
  pub item : Within n expr first
  pub others : Spelled (Within n) (many (sign s.Comma ▸ part expr)) rest

listed : (n : ℕ) {us : List Mark} {xs : List Expr} {f : ℕ} → SpellsList us xs f → 11 * length us + 10 ≤ n → Listed n us
listed n (Grammar.one {ts = ts} {x = x} {d = d} p) h =
    record { first = ts; rest = []; splits = sym (append-nil ts); item = record { tree = x; depth = d; spells = p; enough = h }; others = Forms.none }
listed n (Grammar.more {ts = ts} {us = us} {x = x} {d = d} p q) h =
    let one_long : 11 * length ts + 10 ≤ n = omega (arith, length-append ts (Sign s.Comma ∷ us)) in
    let rest_long : 11 * length us + 10 ≤ n = omega (arith, length-append ts (Sign s.Comma ∷ us)) in
    let more = listed n q rest_long in
    record {
      first = ts;
      rest = Sign s.Comma ∷ (more.first ++ more.rest);
      splits = ap (λ z. ts ++ (Sign s.Comma ∷ z)) more.splits;
      item = record { tree = x; depth = d; spells = p; enough = one_long };
      others = Forms.more (Forms.both (Forms.is_mark refl) (Forms.is_part more.item)) more.others;
    }

in_parens : (n : ℕ) (us : List Mark) → Listed n us → Spelled (Within n) list (Sign s.Open ∷ (us ++ Sign s.Close ∷ []))
in_parens n us m =
    let P : List Mark → Type 0 = λ z. Spelled (Within n) list (Sign s.Open ∷ z) in
    let regrouped : m.first ++ (m.rest ++ Sign s.Close ∷ []) ≡ us ++ Sign s.Close ∷ [] = rw m.splits (simp append_assoc) in
    subst P regrouped (Forms.both {ts = Sign s.Open ∷ []} (Forms.is_mark refl) (Forms.both (Forms.is_part m.item) (Forms.both m.others (Forms.is_mark refl))))

-- ---- the levels

tighter : (n : ℕ) (l : Level) {ts : List Mark} {x : Expr} {d : ℕ} → Spells (below l) ts x d → 11 * length ts + number (below l) ≤ n → Within n (below l) ts
tighter n l {x = x} {d = d} p h = record { tree = x; depth = d; spells = p; enough = h }

pub unrolled : (n : ℕ) {l : Level} {ts : List Mark} {x : Expr} {d : ℕ} → Spells l ts x d → 11 * length ts + number l ≤ suc n → Spelled (Within n) (rule_at l) ts
unrolled n (Grammar.down expr p) h = alone (Within n) (Forms.is_part (tighter n expr p (omega arith))) Forms.none
unrolled n (Grammar.down and p) h = alone (Within n) (Forms.is_part (tighter n and p (omega arith))) Forms.none
unrolled n (Grammar.down not p) h = Forms.both Forms.none (Forms.is_part (tighter n not p (omega arith)))
unrolled n (Grammar.down is p) h = alone (Within n) (Forms.is_part (tighter n is p (omega arith))) Forms.none
unrolled n (Grammar.down cmp p) h = alone (Within n) (Forms.is_part (tighter n cmp p (omega arith))) (Forms.right Forms.is_nothing)
unrolled n (Grammar.down rng p) h = alone (Within n) (Forms.is_part (tighter n rng p (omega arith))) (Forms.right Forms.is_nothing)
unrolled n (Grammar.down sum p) h = alone (Within n) (Forms.is_part (tighter n sum p (omega arith))) Forms.none
unrolled n (Grammar.down prod p) h = alone (Within n) (Forms.is_part (tighter n prod p (omega arith))) Forms.none
unrolled n (Grammar.down un p) h = Forms.both Forms.none (Forms.is_part (tighter n un p (omega arith)))
unrolled n (Grammar.down atom p) h = unrolled n p h
unrolled n (Grammar.chain {ts = ts} {us = us} expr m o p q e) h =
    longer (Within n) (unrolled n p (omega (arith, length-append ts (m ∷ us)))) (Forms.both {ts = m ∷ []} (Forms.is_mark (or_link m o e)) (Forms.is_part (tighter n expr q (omega (arith, length-append ts (m ∷ us))))))
unrolled n (Grammar.chain {ts = ts} {us = us} and m o p q e) h =
    longer (Within n) (unrolled n p (omega (arith, length-append ts (m ∷ us)))) (Forms.both {ts = m ∷ []} (Forms.is_mark (and_link m o e)) (Forms.is_part (tighter n and q (omega (arith, length-append ts (m ∷ us))))))
unrolled n (Grammar.chain {ts = ts} {us = us} sum m o p q e) h =
    longer (Within n) (unrolled n p (omega (arith, length-append ts (m ∷ us)))) (Forms.both {ts = m ∷ []} (Forms.is_mark (sum_link m o e)) (Forms.is_part (tighter n sum q (omega (arith, length-append ts (m ∷ us))))))
unrolled n (Grammar.chain {ts = ts} {us = us} prod m o p q e) h =
    longer (Within n) (unrolled n p (omega (arith, length-append ts (m ∷ us)))) (Forms.both {ts = m ∷ []} (Forms.is_mark (product_link m o e)) (Forms.is_part (tighter n prod q (omega (arith, length-append ts (m ∷ us))))))
unrolled n (Grammar.chain not m o p q e) h = absurd (none_some e)
unrolled n (Grammar.chain is m o p q e) h = absurd (none_some e)
unrolled n (Grammar.chain cmp m o p q e) h = absurd (none_some e)
unrolled n (Grammar.chain rng m o p q e) h = absurd (none_some e)
unrolled n (Grammar.chain un m o p q e) h = absurd (none_some e)
unrolled n (Grammar.chain atom m o p q e) h = absurd (none_some e)
unrolled n (Grammar.negated p) h = one_in_front (Within n) (Forms.is_mark refl) (unrolled n p (omega arith))
unrolled n (Grammar.is_null {ts = ts} v p) h =
    let tail = Key k.Is ∷ (nots v ++ Key k.Null ∷ []) in
    longer (Within n) (unrolled n p (omega (arith, length-append ts tail))) (Forms.both {ts = Key k.Is ∷ []} (Forms.is_mark refl) (Forms.both (not_or_nothing (Within n) v) (Forms.is_mark refl)))
unrolled n (Grammar.compared {ts = ts} {us = us} {x = x} {y = y} {d = d} {f = f} m o p q e) h =
    Forms.both (Forms.is_part (record { tree = x; depth = d; spells = p; enough = omega (arith, length-append ts (m ∷ us)) }))
    (Forms.left (Forms.both {ts = m ∷ []} (Forms.is_mark (compares m o e)) (Forms.is_part (record { tree = y; depth = f; spells = q; enough = omega (arith, length-append ts (m ∷ us)) }))))
unrolled n (Grammar.among {ts = ts} {us = us} {x = x} {d = d} v p q) h =
    let inner : List Mark = us ++ Sign s.Close ∷ [] in
    let tail : List Mark = nots v ++ Key k.In ∷ Sign s.Open ∷ inner in
    let one = length-append ts tail in
    let two = length-append (nots v) (Key k.In ∷ Sign s.Open ∷ inner) in
    let three = length-append us (Sign s.Close ∷ []) in
    Forms.both (Forms.is_part (record { tree = x; depth = d; spells = p; enough = omega (arith, one) }))
    (Forms.left (Forms.both (not_or_nothing (Within n) v) (Forms.left (Forms.both {ts = Key k.In ∷ []} (Forms.is_mark refl) (in_parens n us (listed n q (omega (arith, one, two, three))))))))
unrolled n (Grammar.between {ts = ts} {us = us} {vs = vs} {x = x} {y = y} {z = z} {d = d} {f = f} {g = g} v p q r) h =
    let inner : List Mark = us ++ Key k.And ∷ vs in
    let tail : List Mark = nots v ++ Key k.Between ∷ inner in
    let one = length-append ts tail in
    let two = length-append (nots v) (Key k.Between ∷ inner) in
    let three = length-append us (Key k.And ∷ vs) in
    Forms.both (Forms.is_part (record { tree = x; depth = d; spells = p; enough = omega (arith, one) }))
    (Forms.left (Forms.both (not_or_nothing (Within n) v) (Forms.right (Forms.both {ts = Key k.Between ∷ []} (Forms.is_mark refl)
    (Forms.both (Forms.is_part (record { tree = y; depth = f; spells = q; enough = omega (arith, one, two, three) }))
    (Forms.both {ts = Key k.And ∷ []} (Forms.is_mark refl) (Forms.is_part (record { tree = z; depth = g; spells = r; enough = omega (arith, one, two, three) }))))))))
unrolled n (Grammar.minus p) h = one_in_front (Within n) (Forms.is_mark refl) (unrolled n p (omega arith))
unrolled n (Grammar.plus p) h = one_in_front (Within n) (Forms.is_mark refl) (unrolled n p (omega arith))
unrolled n (Grammar.number v) h = Forms.left (Forms.is_mark refl)
unrolled n (Grammar.string t) h = Forms.left (Forms.is_mark refl)
unrolled n Grammar.truth h = Forms.left (Forms.is_mark refl)
unrolled n Grammar.falsity h = Forms.left (Forms.is_mark refl)
unrolled n Grammar.null h = Forms.left (Forms.is_mark refl)
unrolled n (Grammar.column m name e) h = Forms.right (Forms.left (Forms.both {ts = m ∷ []} (Forms.is_mark (named m name e)) (Forms.right (Forms.right Forms.is_nothing))))
unrolled n (Grammar.qualified m table v name e f) h =
    Forms.right (Forms.left (Forms.both {ts = m ∷ []} (Forms.is_mark (named m table e)) (Forms.left (Forms.both {ts = Sign s.Dot ∷ []} (Forms.is_mark refl) (Forms.is_mark (named v name f))))))
unrolled n (Grammar.call_star m name e) h =
    Forms.right (Forms.left (Forms.both {ts = m ∷ []} (Forms.is_mark (named m name e))
    (Forms.right (Forms.left (Forms.both {ts = Sign s.Open ∷ []} (Forms.is_mark refl) (Forms.both {ts = Sign s.Star ∷ []} (Forms.left (Forms.is_mark refl)) (Forms.is_mark refl)))))))
unrolled n (Grammar.call {ts = ts} {x = x} {d = d} m name e p) h =
    let one = length-append ts (Sign s.Close ∷ []) in
    Forms.right (Forms.left (Forms.both {ts = m ∷ []} (Forms.is_mark (named m name e))
    (Forms.right (Forms.left (Forms.both {ts = Sign s.Open ∷ []} (Forms.is_mark refl) (Forms.both (Forms.right (Forms.is_part (record { tree = x; depth = d; spells = p; enough = omega (arith, one) }))) (Forms.is_mark refl)))))))
unrolled n (Grammar.parens {ts = ts} {x = x} {d = d} p) h =
    let one = length-append ts (Sign s.Close ∷ []) in
    Forms.right (Forms.right (Forms.both {ts = Sign s.Open ∷ []} (Forms.is_mark refl) (Forms.both (Forms.is_part (record { tree = x; depth = d; spells = p; enough = omega (arith, one) })) (Forms.is_mark refl))))
