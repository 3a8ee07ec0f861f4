-- What is spelled so is read, whatever follows that doesn't go on with it.
use Rattle.std.proofs.Common.{◌≡◌, ℕ, zero, suc, ◌+◌, ◌<◌, ◌≤◌, max, Bool, true, false, List, [], ◌∷◌, ◌++◌, length, Option, Some, None, refl, ap, sym, ◌∙◌, subst, append_assoc, length-append, arith}
use Rattle.std.proofs.lemmas.Bool.{le-leb}
use Rattle.sql_tree.specs.declared.token.Sign.TheVariants as s
use Rattle.sql_tree.specs.declared.op.Op.{Op}
use Rattle.sql_tree.specs.declared.expr.Expr.{Expr}
use Rattle.sql_tree.specs.declared.expr.Expr.TheVariants as t
use Rattle.sql_grammar.specs.declared.mark.Keyword.TheVariants as k
use Rattle.sql_grammar.specs.declared.mark.Mark.{Mark}
use Rattle.sql_grammar.specs.declared.mark.Mark.TheVariants.{Key, Plain, Quoted, Number, Str, Sign}
use Rattle.sql_grammar.specs.declared.mark.Node.{Node}
use Rattle.sql_grammar.specs.Grammar
use Rattle.sql_grammar.specs.Grammar.{Level, expr, and, not, is, cmp, rng, sum, prod, un, atom, below, link, comparison, name_of, nots, negation, within, Spells, SpellsList}
use Rattle.sql_grammar.specs.Reading.{Parser, and_then, front, node, made, close, opening, null_word, and_word, not_word, comma, name, parens, argument, call, named, read_atom, read_un, read_chain, chain_from, link_at, read_prod, read_sum, list_from, list, among, between, not_range, range, compared, null_test, tests_from, read, read_at, read_or, read_and, read_not, read_is, read_cmp, read_rng}
use Rattle.sql_grammar.proofs.Taken.{none_some, pair_of}
use Rattle.sql_grammar.proofs.Follow.{rank, Ends, link_follows, comparison_follows, expr_ends, and_ends, sum_ends, prod_ends, comparison_ends, begins_un, begins_atom, begins_not, Begins, spelling_begins, positive}

made_fits : (room : ℕ) (x : Expr) (d : ℕ) (ts : List Mark) → d ≤ room → made room x d ts ≡ Some (node x d, ts)
unfolding made
made_fits room x d ts h = rw (le-leb d room h) refl

-- two readings one after the other
pub reads_on : {A B : Type 0} (o : Option (A × List Mark)) (f : A → Parser B) (a : A) (r : List Mark) (y : Option (B × List Mark)) → o ≡ Some (a, r) → f a r ≡ y → and_then o f ≡ y
reads_on o f a r y e g = ap (λ z. and_then z f) e ∙ g

pub name_reads : (m : Mark) (called : List ℕ) (ts : List Mark) → name_of m ≡ Some called → name (m ∷ ts) ≡ Some (called, ts)
unfolding name
name_reads (Plain v w) called ts e = ap (λ z. Some (z, ts)) (pair_of _ _ e)
name_reads (Quoted w) called ts e = ap (λ z. Some (z, ts)) (pair_of _ _ e)
name_reads m called ts e = absurd (none_some e)

-- what a level reads once what stands left is read
abbrev pub go_on : ℕ → (Level → Parser Node) → Level → ℕ → Node → Parser Node
go_on room deep is turns left = tests_from room deep turns left
go_on room deep l turns left = chain_from room deep (read_at room deep (below l)) l turns left

-- a level that loops has come as far as this, with turns to spare
pub record Reaches (room : ℕ) (deep : Level → Parser Node) (l : Level) (whole : List Mark) (left : Node) (r : List Mark) : Type 0 where
  pub turns : ℕ
  pub enough : room < left.depth + turns
  pub reads : read_at room deep l whole ≡ go_on room deep l turns left r

pub record Wholly (room : ℕ) (deep : Level → Parser Node) (l : Level) (ts : List Mark) (x : Expr) (d : ℕ) : Type 0 where
  pub reads : (r : List Mark) → Ends l r → read_at room deep l (ts ++ r) ≡ Some (node x d, r)

pub record Looped (room : ℕ) (deep : Level → Parser Node) (l : Level) (ts : List Mark) (x : Expr) (d : ℕ) : Type 0 where
  pub reads : (r : List Mark) → Ends (below l) r → Reaches room deep l (ts ++ r) (node x d) r

abbrev pub Meaning : ℕ → (Level → Parser Node) → Level → List Mark → Expr → ℕ → Type 0
Meaning room deep expr ts x d = Looped room deep expr ts x d
Meaning room deep and ts x d = Looped room deep and ts x d
Meaning room deep is ts x d = Looped room deep is ts x d
Meaning room deep sum ts x d = Looped room deep sum ts x d
Meaning room deep prod ts x d = Looped room deep prod ts x d
Meaning room deep l ts x d = Wholly room deep l ts x d

-- ---- the ends of loops

module _ (room : ℕ) (deep : Level → Parser Node) where
  chain_ends : (item : Parser Node) (l : Level) (turns : ℕ) (left : Node) (r : List Mark) → 1 ≤ turns → link_at l (front r) ≡ None → chain_from room deep item l turns left r ≡ Some (left, r)
  unfolding chain_from
  chain_ends item l zero left r h e = absurd (omega arith)
  chain_ends item l (suc turns) left r h e = rw e refl

  tests_end : (turns : ℕ) (left : Node) (r : List Mark) → 1 ≤ turns → 7 < rank (front r) → tests_from room deep turns left r ≡ Some (left, r)
  unfolding tests_from
  tests_end zero left r h q = absurd (omega arith)
  tests_end (suc turns) left (Key k.Is ∷ r) h q = absurd (omega arith)
  tests_end (suc turns) left r h q = refl

  spare : (l : Level) (whole : List Mark) (left : Node) (r : List Mark) → left.depth ≤ room → (a : Reaches room deep l whole left r) → 1 ≤ a.turns
  spare l whole left r h a = let e = a.enough in omega arith

  pub ended : (l : Level) (ts : List Mark) (x : Expr) (d : ℕ) → d ≤ room → Meaning room deep l ts x d → Wholly room deep l ts x d
  ended expr ts x d h m = record { reads = λ r q. let a = m.reads r (omega arith) in a.reads ∙ chain_ends _ expr a.turns (node x d) r (spare expr _ _ r h a) (expr_ends (front r) q) }
  ended and ts x d h m = record { reads = λ r q. let a = m.reads r (omega arith) in a.reads ∙ chain_ends _ and a.turns (node x d) r (spare and _ _ r h a) (and_ends (front r) q) }
  ended sum ts x d h m = record { reads = λ r q. let a = m.reads r (omega arith) in a.reads ∙ chain_ends _ sum a.turns (node x d) r (spare sum _ _ r h a) (sum_ends (front r) q) }
  ended prod ts x d h m = record { reads = λ r q. let a = m.reads r (omega arith) in a.reads ∙ chain_ends _ prod a.turns (node x d) r (spare prod _ _ r h a) (prod_ends (front r) q) }
  ended is ts x d h m = record { reads = λ r q. let a = m.reads r (omega arith) in a.reads ∙ tests_end a.turns (node x d) r (spare is _ _ r h a) q }
  ended not ts x d h m = m
  ended cmp ts x d h m = m
  ended rng ts x d h m = m
  ended un ts x d h m = m
  ended atom ts x d h m = m

  -- ---- a tighter level at a looser one

  chain_starts : (item : Parser Node) (l : Level) (ts : List Mark) (x : Node) (r : List Mark) → item ts ≡ Some (x, r) → read_chain room deep item l ts ≡ chain_from room deep item l room x r
  chain_starts item l ts x r e = reads_on (item ts) (λ n. chain_from room deep item l room n) x r _ e refl

  range_ends : (left : Node) (r : List Mark) → 5 < rank (front r) → range room deep left r ≡ Some (left, r)
  unfolding range
  range_ends left (Key k.In ∷ r) q = absurd (omega arith)
  range_ends left (Key k.Between ∷ r) q = absurd (omega arith)
  range_ends left (Key k.Not ∷ r) q = absurd (omega arith)
  range_ends left r q = refl

  compared_ends : (left : Node) (r : List Mark) → 6 < rank (front r) → compared room deep left r ≡ Some (left, r)
  unfolding compared
  compared_ends left r q = rw (comparison_ends (front r) q) refl

  named_ends : (first : List ℕ) (r : List Mark) → 1 < rank (front r) → named room deep first r ≡ Some (node (t.Column None first) 1, r)
  unfolding named
  named_ends first (Sign s.Dot ∷ r) q = absurd (omega arith)
  named_ends first (Sign s.Open ∷ r) q = absurd (omega arith)
  named_ends first r q = refl

  not_falls : (m : Mark) (ts : List Mark) → begins_un m ≡ true → read_not room deep (m ∷ ts) ≡ read_is room deep (m ∷ ts)
  unfolding read_not
  not_falls (Key k.Not) ts h = cc
  not_falls m ts h = refl

  un_falls : (m : Mark) (ts : List Mark) → begins_atom m ≡ true → read_un room deep (m ∷ ts) ≡ read_atom room deep (m ∷ ts)
  unfolding read_un
  un_falls (Sign s.Plus) ts h = cc
  un_falls (Sign s.Minus) ts h = cc
  un_falls m ts h = refl

  call_falls : (called : List ℕ) (m : Mark) (ts : List Mark) → begins_not m ≡ true → call room deep called (m ∷ ts) ≡ argument room deep called (m ∷ ts)
  unfolding call
  call_falls called (Sign s.Star) ts h = cc
  call_falls called m ts h = refl

  not_is : (ts r : List Mark) → Begins is ts → read_not room deep (ts ++ r) ≡ read_is room deep (ts ++ r)
  not_is ts r b = let P : List Mark → Type 0 = λ z. read_not room deep (z ++ r) ≡ read_is room deep (z ++ r) in subst P (sym b.splits) (not_falls b.first (b.more ++ r) b.may)

  un_atom : (ts r : List Mark) → Begins atom ts → read_un room deep (ts ++ r) ≡ read_atom room deep (ts ++ r)
  un_atom ts r b = let P : List Mark → Type 0 = λ z. read_un room deep (z ++ r) ≡ read_atom room deep (z ++ r) in subst P (sym b.splits) (un_falls b.first (b.more ++ r) b.may)

  call_argument : (called : List ℕ) (ts r : List Mark) → Begins expr ts → call room deep called (ts ++ r) ≡ argument room deep called (ts ++ r)
  call_argument called ts r b = let P : List Mark → Type 0 = λ z. call room deep called (z ++ r) ≡ argument room deep called (z ++ r) in subst P (sym b.splits) (call_falls called b.first (b.more ++ r) b.may)

  pub lower : (l : Level) (ts : List Mark) (x : Expr) (d : ℕ) → 1 ≤ d → d ≤ room → Begins (below l) ts → Meaning room deep (below l) ts x d → Meaning room deep l ts x d
  unfolding read_or read_and read_not read_is read_cmp read_rng read_sum read_prod
  lower expr ts x d some h b m = record { reads = λ r q. record { turns = room; enough = omega arith; reads = chain_starts _ expr (ts ++ r) (node x d) r ((ended and ts x d h m).reads r q) } }
  lower and ts x d some h b m = record { reads = λ r q. record { turns = room; enough = omega arith; reads = chain_starts _ and (ts ++ r) (node x d) r (m.reads r q) } }
  lower not ts x d some h b m = record { reads = λ r q. not_is ts r b ∙ (ended is ts x d h m).reads r (omega arith) }
  lower is ts x d some h b m = record { reads = λ r q. record { turns = room; enough = omega arith; reads = reads_on (read_cmp room deep (ts ++ r)) (λ n. tests_from room deep room n) (node x d) r _ (m.reads r q) refl } }
  lower cmp ts x d some h b m = record { reads = λ r q. reads_on (read_rng room deep (ts ++ r)) (λ n. compared room deep n) (node x d) r _ (m.reads r (omega arith)) (compared_ends (node x d) r q) }
  lower rng ts x d some h b m = record { reads = λ r q. reads_on (read_sum room deep (ts ++ r)) (λ n. range room deep n) (node x d) r _ ((ended sum ts x d h m).reads r (omega arith)) (range_ends (node x d) r q) }
  lower sum ts x d some h b m = record { reads = λ r q. record { turns = room; enough = omega arith; reads = chain_starts _ sum (ts ++ r) (node x d) r ((ended prod ts x d h m).reads r q) } }
  lower prod ts x d some h b m = record { reads = λ r q. record { turns = room; enough = omega arith; reads = chain_starts _ prod (ts ++ r) (node x d) r (m.reads r q) } }
  lower un ts x d some h b m = record { reads = λ r q. un_atom ts r b ∙ m.reads r (omega arith) }
  lower atom ts x d some h b m = m

  -- ---- longer chains

  chain_more : (item : Parser Node) (l : Level) (m : Mark) (o : Op) (turns : ℕ) (left right : Node) (us r : List Mark) → link l m ≡ Some o → item us ≡ Some (right, r) → 1 + max left.depth right.depth ≤ room
      → chain_from room deep item l (suc turns) left (m ∷ us) ≡ chain_from room deep item l turns (node (t.Binary o left.tree right.tree) (1 + max left.depth right.depth)) r
  unfolding chain_from
  chain_more item l m o turns left right us r lk e h = rw (lk, e, made_fits room (t.Binary o left.tree right.tree) (1 + max left.depth right.depth) r h) refl

  record Grown (item : Parser Node) (l : Level) (R : Option (Node × List Mark)) (left : Node) (r : List Mark) : Type 0 where
    turns : ℕ
    enough : room < left.depth + turns
    reads : R ≡ chain_from room deep item l turns left r

  grow_by : (item : Parser Node) (l : Level) (m : Mark) (o : Op) (R : Option (Node × List Mark)) (turns : ℕ) (left right : Node) (us r : List Mark) → room < left.depth + turns
      → R ≡ chain_from room deep item l turns left (m ∷ us) → link l m ≡ Some o → item us ≡ Some (right, r) → 1 + max left.depth right.depth ≤ room
      → Grown item l R (node (t.Binary o left.tree right.tree) (1 + max left.depth right.depth)) r
  grow_by item l m o R zero left right us r enough e lk f h = absurd (omega arith)
  grow_by item l m o R (suc turns) left right us r enough e lk f h = record { turns = turns; enough = omega arith; reads = e ∙ chain_more item l m o turns left right us r lk f h }

  pub grow : (l : Level) (m : Mark) (o : Op) (ts us : List Mark) (x y : Expr) (d f : ℕ) → Meaning room deep l ts x d → Wholly room deep (below l) us y f → link l m ≡ Some o → 1 + max d f ≤ room
      → Meaning room deep l (ts ++ m ∷ us) (t.Binary o x y) (1 + max d f)
  grow expr m o ts us x y d f p q lk h = record {
    reads = λ r e.
        let a = p.reads (m ∷ (us ++ r)) (link_follows expr m o (us ++ r) lk) in
        let g = grow_by (read_and room deep) expr m o _ a.turns (node x d) (node y f) (us ++ r) r a.enough a.reads lk (q.reads r e) h in
        record { turns = g.turns; enough = g.enough; reads = ap (λ z. read_at room deep expr z) (simp append_assoc) ∙ g.reads };
  }
  grow and m o ts us x y d f p q lk h = record {
    reads = λ r e.
        let a = p.reads (m ∷ (us ++ r)) (link_follows and m o (us ++ r) lk) in
        let g = grow_by (read_not room deep) and m o _ a.turns (node x d) (node y f) (us ++ r) r a.enough a.reads lk (q.reads r e) h in
        record { turns = g.turns; enough = g.enough; reads = ap (λ z. read_at room deep and z) (simp append_assoc) ∙ g.reads };
  }
  grow sum m o ts us x y d f p q lk h = record {
    reads = λ r e.
        let a = p.reads (m ∷ (us ++ r)) (link_follows sum m o (us ++ r) lk) in
        let g = grow_by (read_prod room deep) sum m o _ a.turns (node x d) (node y f) (us ++ r) r a.enough a.reads lk (q.reads r e) h in
        record { turns = g.turns; enough = g.enough; reads = ap (λ z. read_at room deep sum z) (simp append_assoc) ∙ g.reads };
  }
  grow prod m o ts us x y d f p q lk h = record {
    reads = λ r e.
        let a = p.reads (m ∷ (us ++ r)) (link_follows prod m o (us ++ r) lk) in
        let g = grow_by (read_un room deep) prod m o _ a.turns (node x d) (node y f) (us ++ r) r a.enough a.reads lk (q.reads r e) h in
        record { turns = g.turns; enough = g.enough; reads = ap (λ z. read_at room deep prod z) (simp append_assoc) ∙ g.reads };
  }
  grow is m o ts us x y d f p q lk h = absurd (none_some lk)
  grow not m o ts us x y d f p q lk h = absurd (none_some lk)
  grow cmp m o ts us x y d f p q lk h = absurd (none_some lk)
  grow rng m o ts us x y d f p q lk h = absurd (none_some lk)
  grow un m o ts us x y d f p q lk h = absurd (none_some lk)
  grow atom m o ts us x y d f p q lk h = absurd (none_some lk)

  -- ---- IS [NOT] NULL

  null_test_reads : (n : Bool) (left : Node) (r : List Mark) → 1 + left.depth ≤ room → null_test room deep left (nots n ++ Key k.Null ∷ r) ≡ Some (node (t.IsNull left.tree n) (1 + left.depth), r)
  unfolding null_test not_word null_word
  null_test_reads true left r h = made_fits room (t.IsNull left.tree true) (1 + left.depth) r h
  null_test_reads false left r h = made_fits room (t.IsNull left.tree false) (1 + left.depth) r h

  record Tested (R : Option (Node × List Mark)) (left : Node) (r : List Mark) : Type 0 where
    turns : ℕ
    enough : room < left.depth + turns
    reads : R ≡ tests_from room deep turns left r

  test_by : (n : Bool) (R : Option (Node × List Mark)) (turns : ℕ) (left : Node) (r : List Mark) → room < left.depth + turns
      → R ≡ tests_from room deep turns left (Key k.Is ∷ (nots n ++ Key k.Null ∷ r)) → 1 + left.depth ≤ room → Tested R (node (t.IsNull left.tree n) (1 + left.depth)) r
  unfolding tests_from
  test_by n R zero left r enough e h = absurd (omega arith)
  test_by n R (suc turns) left r enough e h =
      record { turns = turns; enough = omega arith; reads = e ∙ reads_on (null_test room deep left (nots n ++ Key k.Null ∷ r)) (λ x. tests_from room deep turns x) (node (t.IsNull left.tree n) (1 + left.depth)) r _ (null_test_reads n left r h) refl }

  pub grow_test : (n : Bool) (ts : List Mark) (x : Expr) (d : ℕ) → 1 + d ≤ room → Looped room deep is ts x d → Looped room deep is (ts ++ Key k.Is ∷ (nots n ++ Key k.Null ∷ [])) (t.IsNull x n) (1 + d)
  grow_test n ts x d h p = record {
    reads = λ r e.
        let a = p.reads (Key k.Is ∷ (nots n ++ Key k.Null ∷ r)) (omega arith) in
        let g = test_by n _ a.turns (node x d) r a.enough a.reads h in
        record { turns = g.turns; enough = g.enough; reads = ap (λ z. read_is room deep z) (simp append_assoc) ∙ g.reads };
  }

  -- ---- comparisons

  pub compare : (m : Mark) (o : Op) (ts us : List Mark) (x y : Expr) (d f : ℕ) → 1 + max d f ≤ room → Wholly room deep rng ts x d → Wholly room deep rng us y f → comparison m ≡ Some o
      → Wholly room deep cmp (ts ++ m ∷ us) (t.Binary o x y) (1 + max d f)
  unfolding read_cmp compared
  compare m o ts us x y d f h p q c = record {
    reads = λ r e.
        ap (λ z. read_cmp room deep z) (simp append_assoc)
        ∙ reads_on (read_rng room deep (ts ++ m ∷ (us ++ r))) (λ n. compared room deep n) (node x d) (m ∷ (us ++ r)) _ (p.reads (m ∷ (us ++ r)) (comparison_follows m o (us ++ r) c))
        (rw (c, q.reads r (omega arith), made_fits room (t.Binary o x y) (1 + max d f) r h) refl);
  }

  -- ---- what stands in parentheses or after NOT or a sign

  abbrev pub Deeply : Level → List Mark → Expr → ℕ → Type 0
  Deeply l ts x d = (r : List Mark) → Ends l r → deep l (ts ++ r) ≡ Some (node x d, r)

  pub not_reads : (ts : List Mark) (x : Expr) (d : ℕ) → 1 + d ≤ room → Deeply not ts x d → Wholly room deep not (Key k.Not ∷ ts) (t.Not x) (1 + d)
  unfolding read_not
  not_reads ts x d h p = record { reads = λ r e. rw (p r e, made_fits room (t.Not x) (1 + d) r h) refl }

  pub minus_reads : (ts : List Mark) (x : Expr) (d : ℕ) → 1 + d ≤ room → Deeply un ts x d → Wholly room deep un (Sign s.Minus ∷ ts) (t.Neg x) (1 + d)
  unfolding read_un
  minus_reads ts x d h p = record { reads = λ r e. rw (p r e, made_fits room (t.Neg x) (1 + d) r h) refl }

  pub plus_reads : (ts : List Mark) (x : Expr) (d : ℕ) → 1 + d ≤ room → Deeply un ts x d → Wholly room deep un (Sign s.Plus ∷ ts) x (1 + d)
  unfolding read_un
  plus_reads ts x d h p = record { reads = λ r e. rw (p r e, made_fits room x (1 + d) r h) refl }

  pub parens_reads : (ts : List Mark) (x : Expr) (d : ℕ) → 1 + d ≤ room → Deeply expr ts x d → Wholly room deep atom (Sign s.Open ∷ (ts ++ Sign s.Close ∷ [])) x (1 + d)
  unfolding read_atom parens close
  parens_reads ts x d h p = record {
    reads = λ r e.
        let regrouped : (ts ++ Sign s.Close ∷ []) ++ r ≡ ts ++ Sign s.Close ∷ r = simp append_assoc in
        ap (λ z. read_atom room deep (Sign s.Open ∷ z)) regrouped
        ∙ rw (p (Sign s.Close ∷ r) (omega arith), made_fits room x (1 + d) r h) refl;
  }

  -- ---- names

  atom_named : (m : Mark) (first : List ℕ) (ts : List Mark) → name_of m ≡ Some first → read_atom room deep (m ∷ ts) ≡ named room deep first ts
  unfolding read_atom
  atom_named (Plain v w) first ts e = ap (λ z. named room deep z ts) (pair_of _ _ e)
  atom_named (Quoted w) first ts e = ap (λ z. named room deep z ts) (pair_of _ _ e)
  atom_named m first ts e = absurd (none_some e)

  pub column_reads : (m : Mark) (called : List ℕ) → name_of m ≡ Some called → Wholly room deep atom (m ∷ []) (t.Column None called) 1
  column_reads m called e = record { reads = λ r q. atom_named m called r e ∙ named_ends called r q }

  pub qualified_reads : (m : Mark) (table : List ℕ) (n : Mark) (called : List ℕ) → name_of m ≡ Some table → name_of n ≡ Some called → Wholly room deep atom (m ∷ Sign s.Dot ∷ n ∷ []) (t.Column (Some table) called) 1
  unfolding named
  qualified_reads m table n called e f = record { reads = λ r q. atom_named m table (Sign s.Dot ∷ n ∷ r) e ∙ rw (name_reads n called r f) refl }

  pub call_star_reads : (m : Mark) (called : List ℕ) → name_of m ≡ Some called → Wholly room deep atom (m ∷ Sign s.Open ∷ Sign s.Star ∷ Sign s.Close ∷ []) (t.Call called None) 1
  unfolding named call close
  call_star_reads m called e = record { reads = λ r q. atom_named m called (Sign s.Open ∷ Sign s.Star ∷ Sign s.Close ∷ r) e }

  argument_reads : (called : List ℕ) (ts : List Mark) (x : Expr) (d : ℕ) → 1 + d ≤ room → Deeply expr ts x d → (r : List Mark) → argument room deep called (ts ++ Sign s.Close ∷ r) ≡ Some (node (t.Call called (Some x)) (1 + d), r)
  unfolding argument close
  argument_reads called ts x d h p r = rw (p (Sign s.Close ∷ r) (omega arith), made_fits room (t.Call called (Some x)) (1 + d) r h) refl

  named_calls : (called : List ℕ) (ts : List Mark) → named room deep called (Sign s.Open ∷ ts) ≡ call room deep called ts
  unfolding named
  named_calls called ts = refl

  pub call_reads : (m : Mark) (called : List ℕ) (ts : List Mark) (x : Expr) (d : ℕ) → 1 + d ≤ room → name_of m ≡ Some called → Begins expr ts → Deeply expr ts x d
      → Wholly room deep atom (m ∷ Sign s.Open ∷ (ts ++ Sign s.Close ∷ [])) (t.Call called (Some x)) (1 + d)
  call_reads m called ts x d h e b p = record {
    reads = λ r q.
        ap (λ z. read_atom room deep (m ∷ Sign s.Open ∷ z)) (simp append_assoc) ∙ atom_named m called (Sign s.Open ∷ (ts ++ Sign s.Close ∷ r)) e
        ∙ named_calls called (ts ++ Sign s.Close ∷ r) ∙ call_argument called ts (Sign s.Close ∷ r) b ∙ argument_reads called ts x d h p r;
  }

  -- ---- lists and ranges

  pub record Listed (us : List Mark) (xs : List Expr) (f : ℕ) : Type 0 where
    pub reads : (turns : ℕ) (found : List Expr) (before : ℕ) (r : List Mark) → length us ≤ turns → list_from room deep turns found before (us ++ Sign s.Close ∷ r) ≡ Some ((found ++ xs, max before f), Sign s.Close ∷ r)

  list_one_from : (ts : List Mark) (x : Expr) (d turns : ℕ) (found : List Expr) (before : ℕ) (r : List Mark) → Deeply expr ts x d → 1 ≤ turns
      → list_from room deep turns found before (ts ++ Sign s.Close ∷ r) ≡ Some ((found ++ x ∷ [], max before d), Sign s.Close ∷ r)
  unfolding list_from comma
  list_one_from ts x d zero found before r p h = absurd (omega arith)
  list_one_from ts x d (suc turns) found before r p h = rw (p (Sign s.Close ∷ r) (omega arith)) refl

  list_more_from : (ts us : List Mark) (x : Expr) (xs : List Expr) (d f turns : ℕ) (found : List Expr) (before : ℕ) (r : List Mark) → Deeply expr ts x d → Listed us xs f → length us < turns
      → list_from room deep turns found before (ts ++ Sign s.Comma ∷ (us ++ Sign s.Close ∷ r)) ≡ Some ((found ++ x ∷ xs, max before (max d f)), Sign s.Close ∷ r)
  unfolding list_from comma
  list_more_from ts us x xs d f zero found before r p q h = absurd (omega arith)
  list_more_from ts us x xs d f (suc turns) found before r p q h =
      let e : max (max before d) f ≡ max before (max d f) = omega arith in
      rw (p (Sign s.Comma ∷ (us ++ Sign s.Close ∷ r)) (omega arith)) (q.reads turns (found ++ x ∷ []) (max before d) r (omega arith) ∙ rw e (simp append_assoc))

  begins_long : (l : Level) (ts : List Mark) → Begins l ts → 1 ≤ length ts
  begins_long l ts b = let e = ap length b.splits in omega arith

  pub list_one : (ts : List Mark) (x : Expr) (d : ℕ) → Begins expr ts → Deeply expr ts x d → Listed ts (x ∷ []) d
  list_one ts x d b p = record { reads = λ turns found before r h. list_one_from ts x d turns found before r p (let g = begins_long expr ts b in omega arith) }

  pub list_more : (ts us : List Mark) (x : Expr) (xs : List Expr) (d f : ℕ) → Deeply expr ts x d → Listed us xs f → Listed (ts ++ Sign s.Comma ∷ us) (x ∷ xs) (max d f)
  list_more ts us x xs d f p q = record {
    reads = λ turns found before r h.
        ap (λ z. list_from room deep turns found before z) (simp append_assoc) ∙ list_more_from ts us x xs d f turns found before r p q (omega (arith, length-append ts (Sign s.Comma ∷ us)));
  }

  among_reads : (n : Bool) (left : Node) (us : List Mark) (xs : List Expr) (f : ℕ) (r : List Mark) → 1 + max left.depth f ≤ room → Listed us xs f
      → among room deep n left (Sign s.Open ∷ (us ++ Sign s.Close ∷ r)) ≡ Some (node (t.In left.tree xs n) (1 + max left.depth f), r)
  unfolding among opening list close
  among_reads n left us xs f r h p =
      let e : max 0 f ≡ f = omega arith in
      rw (p.reads (length (us ++ Sign s.Close ∷ r)) [] 0 r (omega (arith, length-append us (Sign s.Close ∷ r))), e, made_fits room (t.In left.tree xs n) (1 + max left.depth f) r h) refl

  range_in : (n : Bool) (left : Node) (ts : List Mark) → range room deep left (nots n ++ Key k.In ∷ ts) ≡ among room deep n left ts
  unfolding range not_range
  range_in true left ts = refl
  range_in false left ts = refl

  in_ends : (n : Bool) (ts : List Mark) → Ends sum (nots n ++ Key k.In ∷ ts)
  in_ends true ts = omega arith
  in_ends false ts = omega arith

  pub one_of : (n : Bool) (ts us : List Mark) (x : Expr) (xs : List Expr) (d f : ℕ) → 1 + max d f ≤ room → Wholly room deep sum ts x d → Listed us xs f
      → Wholly room deep rng (ts ++ (nots n ++ Key k.In ∷ Sign s.Open ∷ (us ++ Sign s.Close ∷ []))) (t.In x xs n) (1 + max d f)
  unfolding read_rng
  one_of n ts us x xs d f h p q = record {
    reads = λ r e.
        let after : List Mark = Sign s.Open ∷ (us ++ Sign s.Close ∷ r) in
        ap (λ z. read_rng room deep z) (simp append_assoc)
        ∙ reads_on (read_sum room deep (ts ++ (nots n ++ Key k.In ∷ after))) (λ m. range room deep m) (node x d) (nots n ++ Key k.In ∷ after) _ (p.reads (nots n ++ Key k.In ∷ after) (in_ends n after))
        (range_in n (node x d) after ∙ among_reads n (node x d) us xs f r h q);
  }

  between_reads : (n : Bool) (left : Node) (us vs : List Mark) (y z : Expr) (f g : ℕ) (r : List Mark) → 16 + max left.depth (max f g) ≤ room → Wholly room deep sum us y f → Wholly room deep sum vs z g → Ends sum r
      → between room deep n left (us ++ Key k.And ∷ (vs ++ r)) ≡ Some (node (negation n (within left.tree y z)) (16 + max left.depth (max f g)), r)
  unfolding between and_word
  between_reads n left us vs y z f g r h p q e =
      rw (p.reads (Key k.And ∷ (vs ++ r)) (omega arith), q.reads r e, made_fits room (negation n (within left.tree y z)) (16 + max left.depth (max f g)) r h) refl

  range_between : (n : Bool) (left : Node) (ts : List Mark) → range room deep left (nots n ++ Key k.Between ∷ ts) ≡ between room deep n left ts
  unfolding range not_range
  range_between true left ts = refl
  range_between false left ts = refl

  between_ends : (n : Bool) (ts : List Mark) → Ends sum (nots n ++ Key k.Between ∷ ts)
  between_ends true ts = omega arith
  between_ends false ts = omega arith

  pub in_range : (n : Bool) (ts us vs : List Mark) (x y z : Expr) (d f g : ℕ) → 16 + max d (max f g) ≤ room → Wholly room deep sum ts x d → Wholly room deep sum us y f → Wholly room deep sum vs z g
      → Wholly room deep rng (ts ++ (nots n ++ Key k.Between ∷ (us ++ Key k.And ∷ vs))) (negation n (within x y z)) (16 + max d (max f g))
  unfolding read_rng
  in_range n ts us vs x y z d f g h p q w = record {
    reads = λ r e.
        let after : List Mark = us ++ Key k.And ∷ (vs ++ r) in
        ap (λ i. read_rng room deep i) (simp append_assoc)
        ∙ reads_on (read_sum room deep (ts ++ (nots n ++ Key k.Between ∷ after))) (λ m. range room deep m) (node x d) (nots n ++ Key k.Between ∷ after) _ (p.reads (nots n ++ Key k.Between ∷ after) (between_ends n after))
        (range_between n (node x d) after ∙ between_reads n (node x d) us vs y z f g r h q w (omega arith));
  }

  pub single_reads : (m : Mark) (x : Expr) → ((r : List Mark) → read_atom room deep (m ∷ r) ≡ Some (node x 1, r)) → Wholly room deep atom (m ∷ []) x 1
  single_reads m x e = record { reads = λ r q. e r }

-- the same of a room that may be none
pub deeply : (n : ℕ) (l : Level) (ts : List Mark) (x : Expr) (d : ℕ) → 1 ≤ d → d ≤ n → ((i : ℕ) → d ≤ suc i → Meaning (suc i) (λ level. read i level) l ts x d) → (r : List Mark) → Ends l r → read n l (ts ++ r) ≡ Some (node x d, r)
unfolding read
deeply zero l ts x d some h m r q = absurd (omega arith)
deeply (suc i) l ts x d some h m r q = (ended (suc i) (λ level. read i level) l ts x d h (m i h)).reads r q

number_atom : (room : ℕ) (deep : Level → Parser Node) (n : _) (r : List Mark) → read_atom room deep (Number n ∷ r) ≡ Some (node (t.Int n) 1, r)
unfolding read_atom
number_atom room deep n r = refl

string_atom : (room : ℕ) (deep : Level → Parser Node) (b : _) (r : List Mark) → read_atom room deep (Str b ∷ r) ≡ Some (node (t.Str b) 1, r)
unfolding read_atom
string_atom room deep b r = refl

true_atom : (room : ℕ) (deep : Level → Parser Node) (r : List Mark) → read_atom room deep (Key k.True ∷ r) ≡ Some (node (t.Flag true) 1, r)
unfolding read_atom
true_atom room deep r = refl

false_atom : (room : ℕ) (deep : Level → Parser Node) (r : List Mark) → read_atom room deep (Key k.False ∷ r) ≡ Some (node (t.Flag false) 1, r)
unfolding read_atom
false_atom room deep r = refl

null_atom : (room : ℕ) (deep : Level → Parser Node) (r : List Mark) → read_atom room deep (Key k.Null ∷ r) ≡ Some (node t.Null 1, r)
unfolding read_atom
null_atom room deep r = refl

abbrev inner : ℕ → Level → Parser Node
inner n = λ level. read n level

mutual
  pub reads : {l : Level} {ts : List Mark} {x : Expr} {d : ℕ} → Spells l ts x d → (n : ℕ) → d ≤ suc n → Meaning (suc n) (λ level. read n level) l ts x d
  reads (Grammar.down l p) n h = lower (suc n) (inner n) l _ _ _ (positive p) h (spelling_begins p) (reads p n h)
  reads (Grammar.chain l m o p q e) n h = grow (suc n) (inner n) l m o _ _ _ _ _ _ (reads p n (omega arith)) (ended (suc n) (inner n) (below l) _ _ _ (omega arith) (reads q n (omega arith))) e h
  reads (Grammar.negated p) n h = not_reads (suc n) (inner n) _ _ _ h (deeply n not _ _ _ (positive p) (omega arith) (λ i g. reads p i g))
  reads (Grammar.is_null b p) n h = grow_test (suc n) (inner n) b _ _ _ h (reads p n (omega arith))
  reads (Grammar.compared m o p q e) n h = compare (suc n) (inner n) m o _ _ _ _ _ _ h (reads p n (omega arith)) (reads q n (omega arith)) e
  reads (Grammar.among b p q) n h = one_of (suc n) (inner n) b _ _ _ _ _ _ h (ended (suc n) (inner n) sum _ _ _ (omega arith) (reads p n (omega arith))) (list_reads q n (omega arith))
  reads (Grammar.between b p q w) n h = in_range (suc n) (inner n) b _ _ _ _ _ _ _ _ _ h (ended (suc n) (inner n) sum _ _ _ (omega arith) (reads p n (omega arith)))
      (ended (suc n) (inner n) sum _ _ _ (omega arith) (reads q n (omega arith))) (ended (suc n) (inner n) sum _ _ _ (omega arith) (reads w n (omega arith)))
  reads (Grammar.minus p) n h = minus_reads (suc n) (inner n) _ _ _ h (deeply n un _ _ _ (positive p) (omega arith) (λ i g. reads p i g))
  reads (Grammar.plus p) n h = plus_reads (suc n) (inner n) _ _ _ h (deeply n un _ _ _ (positive p) (omega arith) (λ i g. reads p i g))
  reads (Grammar.number z) n h = single_reads (suc n) (inner n) _ _ (number_atom (suc n) (inner n) z)
  reads (Grammar.string b) n h = single_reads (suc n) (inner n) _ _ (string_atom (suc n) (inner n) b)
  reads Grammar.truth n h = single_reads (suc n) (inner n) _ _ (true_atom (suc n) (inner n))
  reads Grammar.falsity n h = single_reads (suc n) (inner n) _ _ (false_atom (suc n) (inner n))
  reads Grammar.null n h = single_reads (suc n) (inner n) _ _ (null_atom (suc n) (inner n))
  reads (Grammar.column m called e) n h = column_reads (suc n) (inner n) m called e
  reads (Grammar.qualified m table w called e f) n h = qualified_reads (suc n) (inner n) m table w called e f
  reads (Grammar.call_star m called e) n h = call_star_reads (suc n) (inner n) m called e
  reads (Grammar.call m called e p) n h = call_reads (suc n) (inner n) m called _ _ _ h e (spelling_begins p) (deeply n expr _ _ _ (positive p) (omega arith) (λ i g. reads p i g))
  reads (Grammar.parens p) n h = parens_reads (suc n) (inner n) _ _ _ h (deeply n expr _ _ _ (positive p) (omega arith) (λ i g. reads p i g))

  pub list_reads : {us : List Mark} {xs : List Expr} {f : ℕ} → SpellsList us xs f → (n : ℕ) → f ≤ n → Listed (suc n) (λ level. read n level) us xs f
  list_reads (Grammar.one p) n h = list_one (suc n) (inner n) _ _ _ (spelling_begins p) (deeply n expr _ _ _ (positive p) h (λ i g. reads p i g))
  list_reads (Grammar.more p q) n h = list_more (suc n) (inner n) _ _ _ _ _ _ (deeply n expr _ _ _ (positive p) (omega arith) (λ i g. reads p i g)) (list_reads q n (omega arith))
