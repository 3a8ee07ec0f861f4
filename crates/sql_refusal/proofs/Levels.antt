-- A level is passed over exactly: what is passed over the grammar spells at that level, and what it spells is passed over.
use Rattle.std.proofs.Common.{◌≡◌, ℕ, zero, suc, ◌+◌, ◌*◌, ◌≤◌, Bool, true, false, List, [], ◌∷◌, ◌++◌, length, Some, None, refl, ap, sym, ◌∙◌, subst, arith}
use Rattle.sql_tree.specs.declared.token.Sign.TheVariants as s
use Rattle.sql_grammar.specs.declared.mark.Keyword.TheVariants as k
use Rattle.sql_grammar.specs.declared.mark.Mark.{Mark}
use Rattle.sql_grammar.specs.declared.mark.Mark.TheVariants.{Key, Plain, Quoted, Number, Str, Sign}
use Rattle.sql_grammar.specs.Grammar.{Level, expr, and, not, is, cmp, rng, sum, prod, un, atom}
use Rattle.sql_grammar.specs.Reading.{front}
use Rattle.sql_grammar.specs.Syntax.{Kind, kind}
use Rattle.sql_grammar.specs.declared.mark.Sought.TheVariants as sought
use Rattle.sql_grammar.specs.Steps.{the, any}
use Rattle.sql_grammar.proofs.Follow as follow
use Rattle.sql_grammar.proofs.Follow.{number, spelling_begins}
use Rattle.sql_grammar.proofs.Taken.{none_some}
use Rattle.sql_grammar.proofs.Patterns.{true_false}
use Rattle.sql_refusal.specs.Forms.{begins_atom, begins_signed, begins_not, begins_at, goes_at, after_atom, after_product, after_sum, after_range, after_comparison, after_test, products, sums, ranges, comparisons, goes_on, clear, Spelled, passes, rule_at, at}
use Rattle.sql_refusal.proofs.Sound.{Took, SoundFor, passes_sound}
use Rattle.sql_refusal.proofs.Exact.{neither, not_left, not_right, exact}
use Rattle.sql_refusal.proofs.Unrolled.{Within, unrolled}
use Rattle.sql_refusal.proofs.Rolled.{IsAt, rolled}

-- ---- how a level begins

atom_begins : (m : Mark) → follow.begins_atom m ≡ true → any begins_atom (kind (Some m)) ≡ true
atom_begins (Number n) e = refl
atom_begins (Str t) e = refl
atom_begins (Plain w t) e = refl
atom_begins (Quoted t) e = refl
atom_begins (Key k.True) e = refl
atom_begins (Key k.False) e = refl
atom_begins (Key k.Null) e = refl
atom_begins (Sign s.Open) e = refl
atom_begins _ e = absurd (true_false e refl)

signed_begins : (m : Mark) → follow.begins_un m ≡ true → any begins_signed (kind (Some m)) ≡ true
signed_begins (Number n) e = refl
signed_begins (Str t) e = refl
signed_begins (Plain w t) e = refl
signed_begins (Quoted t) e = refl
signed_begins (Key k.True) e = refl
signed_begins (Key k.False) e = refl
signed_begins (Key k.Null) e = refl
signed_begins (Sign s.Open) e = refl
signed_begins (Sign s.Plus) e = refl
signed_begins (Sign s.Minus) e = refl
signed_begins _ e = absurd (true_false e refl)

not_begins : (m : Mark) → follow.begins_not m ≡ true → any begins_not (kind (Some m)) ≡ true
not_begins (Number n) e = refl
not_begins (Str t) e = refl
not_begins (Plain w t) e = refl
not_begins (Quoted t) e = refl
not_begins (Key k.True) e = refl
not_begins (Key k.False) e = refl
not_begins (Key k.Null) e = refl
not_begins (Key k.Not) e = refl
not_begins (Sign s.Open) e = refl
not_begins (Sign s.Plus) e = refl
not_begins (Sign s.Minus) e = refl
not_begins _ e = absurd (true_false e refl)

level_begins : (l : Level) (m : Mark) → follow.begins l m ≡ true → any (begins_at l) (kind (Some m)) ≡ true
level_begins expr m e = not_begins m e
level_begins and m e = not_begins m e
level_begins not m e = not_begins m e
level_begins is m e = signed_begins m e
level_begins cmp m e = signed_begins m e
level_begins rng m e = signed_begins m e
level_begins sum m e = signed_begins m e
level_begins prod m e = signed_begins m e
level_begins un m e = signed_begins m e
level_begins atom m e = atom_begins m e

pub begun : (n : ℕ) (l : Level) (ts : List Mark) → Within n l ts → (r : List Mark) → any (begins_at l) (kind (front (ts ++ r))) ≡ true
begun n l ts w r =
    let b = spelling_begins w.spells in
    let P : List Mark → Type 0 = λ z. any (begins_at l) (kind (front (z ++ r))) ≡ true in
    subst P (sym b.splits) (level_begins l b.first b.may)

pub filled : (n : ℕ) (l : Level) (ts : List Mark) → Within n l ts → 1 ≤ length ts
filled n l ts w = let b = spelling_begins w.spells in let e = ap length b.splits in omega arith

-- ---- the rules of the levels

level_clear : (l : Level) → clear (rule_at l) ≡ true
level_clear expr = refl
level_clear and = refl
level_clear not = refl
level_clear is = refl
level_clear cmp = refl
level_clear rng = refl
level_clear sum = refl
level_clear prod = refl
level_clear un = refl
level_clear atom = refl

level_ends : (l : Level) (m : Kind) → any (goes_at l) m ≡ false → any (goes_on (rule_at l)) m ≡ false
level_ends atom m h = h
level_ends un m h = h
level_ends prod m h = neither after_product after_atom m h (not_right products after_atom m h)
level_ends sum m h = neither after_sum after_product m h (not_right sums after_product m h)
level_ends rng m h = let b = not_right ranges after_sum m h in neither (after_sum ++ ranges) after_sum m (neither after_sum ranges m b (not_left ranges after_sum m h)) b
level_ends cmp m h = let b = not_right comparisons after_range m h in neither (after_range ++ comparisons) after_range m (neither after_range comparisons m b (not_left comparisons after_range m h)) b
level_ends is m h = h
level_ends not m h = h
level_ends and m h = neither (goes_at and) after_test m h (not_right (the (sought.Key k.And) ∷ []) after_test m h)
level_ends expr m h = neither (goes_at expr) (goes_at and) m h (not_right (the (sought.Key k.Or) ∷ []) (goes_at and) m h)

-- ---- the levels

pub at_exact : (n : ℕ) (l : Level) (ts : List Mark) → Within n l ts → (r : List Mark) → any (goes_at l) (kind (front r)) ≡ false → at n l (ts ++ r) ≡ Some r
unfolding at
at_exact zero l ts w r h = let some = filled zero l ts w in let e = w.enough in absurd (omega arith)
at_exact (suc n) l ts w r h =
    exact (Within n) (begun n) (filled n) (at n) (at_exact n) (unrolled n w.spells w.enough) (level_clear l) r (level_ends l (kind (front r)) h)

pub at_sound : (n : ℕ) (l : Level) → SoundFor (IsAt l) (at n l)
unfolding at
at_sound zero l ts r e = absurd (none_some e)
at_sound (suc n) l ts r e =
    let t = passes_sound IsAt (at n) (at_sound n) (rule_at l) ts r e in
    record { taken = t.taken; splits = t.splits; is = rolled l t.taken t.is }
