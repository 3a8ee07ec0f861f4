-- What is read is spelled so.
use Rattle.std.proofs.Common.{◌≡◌, ℕ, zero, suc, ◌+◌, ◌≤◌, max, Bool, true, false, List, [], ◌∷◌, ◌++◌, length, Option, if◌then◌else◌, Some, None, refl, ap, sym, ◌∙◌, subst, append_assoc, arith}
use Rattle.sql_tree.specs.declared.token.Sign.TheVariants as s
use Rattle.sql_tree.specs.declared.op.Op.{Op}
use Rattle.sql_tree.specs.declared.expr.Expr.{Expr}
use Rattle.sql_tree.specs.declared.expr.Expr.TheVariants as t
use Rattle.sql_grammar.specs.declared.mark.Keyword.TheVariants as k
use Rattle.sql_grammar.specs.declared.mark.Mark.{Mark}
use Rattle.sql_grammar.specs.declared.mark.Mark.TheVariants.{Key, Plain, Quoted, Number, Str, Sign}
use Rattle.sql_grammar.specs.declared.mark.Node.{Node}
use Rattle.sql_grammar.specs.Grammar
use Rattle.sql_grammar.specs.Grammar.{Level, expr, and, not, is, cmp, rng, sum, prod, un, atom, below, link, comparison, name_of, nots, negation, within, Spells, SpellsList}
use Rattle.sql_grammar.specs.Reading.{Parser, node, made, close, opening, null_word, and_word, not_word, comma, name, parens, argument, call, named, read_atom, read_un, read_chain, chain_from, linked, read_prod, read_sum, list_from, list, among, between, not_range, range, compared, compared_by, null_test, tests_from, pure, read, read_at, read_or, read_and, read_not, read_is, read_cmp, read_rng}
use Rattle.sql_grammar.proofs.Taken.{bind, Took, done, made_takes, pair_of, none_some, close_takes, opening_takes, null_word_takes, and_word_takes, not_word_takes, commas, comma_takes, name_takes}

abbrev pub SoundFor : ℕ → Level → Parser Node → Type 0
SoundFor room l p = (ts : List Mark) (x : Node) (r : List Mark) → p ts ≡ Some (x, r) → Took room l ts x r

-- the marks in front of the rest spell the trees after those that were found
pub record TookList (whole : List Mark) (found : List Expr) (before : ℕ) (y : List Expr × ℕ) (after : List Mark) : Type 0 where
  pub taken : List Mark
  pub trees : List Expr
  pub depth : ℕ
  pub splits : whole ≡ taken ++ after
  pub spells : SpellsList taken trees depth
  pub all : y.0 ≡ found ++ trees
  pub deepest : y.1 ≡ max before depth

pair_is : (y : List Expr × ℕ) (xs : List Expr) (d : ℕ) → y.0 ≡ [] ++ xs → y.1 ≡ max 0 d → ◌≡◌ {A = List Expr × ℕ} y (xs, d)
pair_is y xs d a b = let c : y.1 ≡ d = omega (arith, b) in both a c
  where
    both : {a x : List Expr} {b y : ℕ} → a ≡ x → b ≡ y → ◌≡◌ {A = List Expr × ℕ} (a, b) (x, y)
    both e f = cc

module _ (room inner : ℕ) (deep : Level → Parser Node) (some : 1 ≤ room) (sound : (l : Level) → SoundFor inner l (deep l)) where
  pub parens_sound : (ts : List Mark) (x : Node) (r : List Mark) → parens room deep ts ≡ Some (x, r) → Took room atom (Sign s.Open ∷ ts) x r
  unfolding parens
  parens_sound ts x r e =
      let a = bind (deep expr ts) _ _ e in
      let b = bind (close a.after) _ _ a.second in
      let h = sound expr ts a.value a.after a.first in
      made_takes room atom _ _ b.after (Sign s.Open ∷ (h.taken ++ Sign s.Close ∷ [])) (Sign s.Open ∷ ts) x r b.second
      (ap (λ z. Sign s.Open ∷ z) (h.splits ∙ simp append_assoc (ap (λ z. h.taken ++ z) (close_takes _ _ _ b.first)))) (Grammar.parens h.spells)

  argument_sound : (m : Mark) (called : List ℕ) (ts : List Mark) (x : Node) (r : List Mark) → name_of m ≡ Some called → argument room deep called ts ≡ Some (x, r) → Took room atom (m ∷ Sign s.Open ∷ ts) x r
  unfolding argument
  argument_sound m called ts x r named e =
      let a = bind (deep expr ts) _ _ e in
      let b = bind (close a.after) _ _ a.second in
      let h = sound expr ts a.value a.after a.first in
      made_takes room atom _ _ b.after (m ∷ Sign s.Open ∷ (h.taken ++ Sign s.Close ∷ [])) (m ∷ Sign s.Open ∷ ts) x r b.second
      (ap (λ z. m ∷ Sign s.Open ∷ z) (h.splits ∙ simp append_assoc (ap (λ z. h.taken ++ z) (close_takes _ _ _ b.first)))) (Grammar.call m called named h.spells)

  call_sound : (m : Mark) (called : List ℕ) (ts : List Mark) (x : Node) (r : List Mark) → name_of m ≡ Some called → call room deep called ts ≡ Some (x, r) → Took room atom (m ∷ Sign s.Open ∷ ts) x r
  unfolding call
  call_sound m called (Sign s.Star ∷ ts) x r named e =
      let a = bind (close ts) _ _ e in
      done room atom (node (t.Call called None) 1) a.after (m ∷ Sign s.Open ∷ Sign s.Star ∷ Sign s.Close ∷ []) (m ∷ Sign s.Open ∷ Sign s.Star ∷ ts) x r a.second
      (ap (λ z. m ∷ Sign s.Open ∷ Sign s.Star ∷ z) (close_takes _ _ _ a.first)) (Grammar.call_star m called named) some
  call_sound m called ts x r named e = argument_sound m called ts x r named e

  named_sound : (m : Mark) (first : List ℕ) (ts : List Mark) (x : Node) (r : List Mark) → name_of m ≡ Some first → named room deep first ts ≡ Some (x, r) → Took room atom (m ∷ ts) x r
  unfolding named
  named_sound m first (Sign s.Dot ∷ ts) x r is_name e =
      let a = bind (name ts) _ _ e in
      let h = name_takes ts a.value a.after a.first in
      done room atom (node (t.Column (Some first) a.value) 1) a.after (m ∷ Sign s.Dot ∷ h.mark ∷ []) (m ∷ Sign s.Dot ∷ ts) x r a.second
      (ap (λ z. m ∷ Sign s.Dot ∷ z) h.splits) (Grammar.qualified m first h.mark a.value is_name h.names) some
  named_sound m first (Sign s.Open ∷ ts) x r is_name e = call_sound m first ts x r is_name e
  named_sound m first ts x r is_name e = done room atom (node (t.Column None first) 1) ts (m ∷ []) (m ∷ ts) x r e refl (Grammar.column m first is_name) some

  atom_sound : SoundFor room atom (read_atom room deep)
  unfolding read_atom
  atom_sound (Number n ∷ ts) x r e = done room atom (node (t.Int n) 1) ts (Number n ∷ []) _ x r e refl (Grammar.number n) some
  atom_sound (Str b ∷ ts) x r e = done room atom (node (t.Str b) 1) ts (Str b ∷ []) _ x r e refl (Grammar.string b) some
  atom_sound (Key k.True ∷ ts) x r e = done room atom (node (t.Flag true) 1) ts (Key k.True ∷ []) _ x r e refl Grammar.truth some
  atom_sound (Key k.False ∷ ts) x r e = done room atom (node (t.Flag false) 1) ts (Key k.False ∷ []) _ x r e refl Grammar.falsity some
  atom_sound (Key k.Null ∷ ts) x r e = done room atom (node t.Null 1) ts (Key k.Null ∷ []) _ x r e refl Grammar.null some
  atom_sound (Plain w first ∷ ts) x r e = named_sound (Plain w first) first ts x r refl e
  atom_sound (Quoted first ∷ ts) x r e = named_sound (Quoted first) first ts x r refl e
  atom_sound (Sign s.Open ∷ ts) x r e = parens_sound ts x r e
  atom_sound ts x r e = absurd (none_some e)

  lifted : (l : Level) (p : Parser Node) → SoundFor room (below l) p → SoundFor room l p
  lifted l p h ts x r e = let a = h ts x r e in record { taken = a.taken; splits = a.splits; spells = Grammar.down l a.spells; fits = a.fits }

  un_sound : SoundFor room un (read_un room deep)
  unfolding read_un
  un_sound (Sign s.Minus ∷ ts) x r e =
      let a = bind (deep un ts) _ _ e in
      let h = sound un ts a.value a.after a.first in
      made_takes room un _ _ a.after (Sign s.Minus ∷ h.taken) (Sign s.Minus ∷ ts) x r a.second (ap (λ z. Sign s.Minus ∷ z) h.splits) (Grammar.minus h.spells)
  un_sound (Sign s.Plus ∷ ts) x r e =
      let a = bind (deep un ts) _ _ e in
      let h = sound un ts a.value a.after a.first in
      made_takes room un _ _ a.after (Sign s.Plus ∷ h.taken) (Sign s.Plus ∷ ts) x r a.second (ap (λ z. Sign s.Plus ∷ z) h.splits) (Grammar.plus h.spells)
  un_sound ts x r e = lifted un (read_atom room deep) atom_sound ts x r e

  -- ---- chains

  linked_sound : (item : Parser Node) (l : Level) → SoundFor room (below l) item → (go : Node → Parser Node) (left : Node) (m : Mark) (ts taken whole : List Mark)
      → ((n : Node) (us front : List Mark) → whole ≡ front ++ us → Spells l front n.tree n.depth → n.depth ≤ room → (x : Node) (r : List Mark) → go n us ≡ Some (x, r) → Took room l whole x r)
      → whole ≡ taken ++ m ∷ ts → Spells l taken left.tree left.depth → left.depth ≤ room → (x : Node) (r : List Mark)
      → (o : Option Op) → link l m ≡ o → linked room deep item go left o (m ∷ ts) ≡ Some (x, r) → Took room l whole x r
  linked_sound item l h go left m ts taken whole again w sp f x r None lk e = done room l left (m ∷ ts) taken whole x r e w sp f
  linked_sound item l h go left m ts taken whole again w sp f x r (Some o) lk e =
      let a = bind (item ts) _ _ e in
      let b = bind (made room _ _ a.after) _ _ a.second in
      let i = h ts a.value a.after a.first in
      let n = made_takes room l _ _ a.after (taken ++ m ∷ i.taken) whole b.value b.after b.first (w ∙ simp append_assoc (ap (λ z. taken ++ m ∷ z) i.splits)) (Grammar.chain l m o sp i.spells lk) in
      again b.value b.after n.taken n.splits n.spells n.fits x r b.second

  chain_from_sound : (item : Parser Node) (l : Level) → SoundFor room (below l) item → (turns : ℕ) (whole : List Mark) (left : Node) (ts taken : List Mark) → whole ≡ taken ++ ts
      → Spells l taken left.tree left.depth → left.depth ≤ room → (x : Node) (r : List Mark) → chain_from room deep item l turns left ts ≡ Some (x, r) → Took room l whole x r
  unfolding chain_from
  chain_from_sound item l h zero whole left ts taken w sp f x r e = absurd (none_some e)
  chain_from_sound item l h (suc turns) whole left [] taken w sp f x r e = done room l left [] taken whole x r e w sp f
  chain_from_sound item l h (suc turns) whole left (m ∷ ts) taken w sp f x r e =
      linked_sound item l h (λ n. chain_from room deep item l turns n) left m ts taken whole (λ n us front. chain_from_sound item l h turns whole n us front) w sp f x r (link l m) refl e

  chain_sound : (item : Parser Node) (l : Level) → SoundFor room (below l) item → SoundFor room l (read_chain room deep item l)
  chain_sound item l h ts x r e =
      let a = bind (item ts) _ _ e in
      let i = h ts a.value a.after a.first in
      chain_from_sound item l h room ts a.value a.after i.taken i.splits (Grammar.down l i.spells) i.fits x r a.second

  prod_sound : SoundFor room prod (read_prod room deep)
  unfolding read_prod
  prod_sound ts x r e = chain_sound (read_un room deep) prod un_sound ts x r e

  sum_sound : SoundFor room sum (read_sum room deep)
  unfolding read_sum
  sum_sound ts x r e = chain_sound (read_prod room deep) sum prod_sound ts x r e

  -- ---- ranges

  list_step : (turns : ℕ) (found : List Expr) (depth : ℕ) (ts : List Mark) (y : List Expr × ℕ) (r : List Mark) → ((xs : List Expr) (d : ℕ) (us : List Mark) → list_from room deep turns xs d us ≡ Some (y, r) → TookList us xs d y r)
      → (x : Node) (after : List Mark) → Took inner expr ts x after → (more : Bool) (us : List Mark) → after ≡ commas more ++ us
      → (if more then list_from room deep turns (found ++ x.tree ∷ []) (max depth x.depth) else pure (found ++ x.tree ∷ [], max depth x.depth)) us ≡ Some (y, r) → TookList ts found depth y r
  list_step turns found depth ts y r again x after h false us c e =
      let same = pair_of _ _ e in
      record { taken = h.taken; trees = x.tree ∷ []; depth = x.depth; splits = h.splits ∙ ap (λ z. h.taken ++ z) (c ∙ ap (λ p. p.1) same); spells = Grammar.one h.spells; all = sym (ap (λ p. p.0.0) same); deepest = sym (ap (λ p. p.0.1) same) }
  list_step turns found depth ts y r again x after h true us c e =
      let i = again (found ++ x.tree ∷ []) (max depth x.depth) us e in
      record {
        taken = h.taken ++ Sign s.Comma ∷ i.taken;
        trees = x.tree ∷ i.trees;
        depth = max x.depth i.depth;
        splits = h.splits ∙ simp append_assoc (ap (λ z. h.taken ++ z) (c ∙ ap (λ z. Sign s.Comma ∷ z) i.splits));
        spells = Grammar.more h.spells i.spells;
        all = i.all ∙ simp append_assoc;
        deepest = omega (arith, i.deepest);
      }

  list_from_sound : (turns : ℕ) (found : List Expr) (depth : ℕ) (ts : List Mark) (y : List Expr × ℕ) (r : List Mark) → list_from room deep turns found depth ts ≡ Some (y, r) → TookList ts found depth y r
  unfolding list_from
  list_from_sound zero found depth ts y r e = absurd (none_some e)
  list_from_sound (suc turns) found depth ts y r e =
      let a = bind (deep expr ts) _ _ e in
      let b = bind (comma a.after) _ _ a.second in
      list_step turns found depth ts y r (λ xs d us. list_from_sound turns xs d us y r) a.value a.after (sound expr ts a.value a.after a.first) b.value b.after (comma_takes _ _ _ b.first) b.second

  list_sound : (ts : List Mark) (y : List Expr × ℕ) (r : List Mark) → list room deep ts ≡ Some (y, r) → TookList ts [] 0 y r
  unfolding list
  list_sound ts y r e = list_from_sound (length ts) [] 0 ts y r e

  among_sound : (n : Bool) (left : Node) (taken whole ts : List Mark) → whole ≡ taken ++ (nots n ++ Key k.In ∷ ts) → Spells sum taken left.tree left.depth
      → (x : Node) (r : List Mark) → among room deep n left ts ≡ Some (x, r) → Took room rng whole x r
  unfolding among
  among_sound n left taken whole ts w sp x r e =
      let a = bind (opening ts) _ _ e in
      let b = bind (list room deep a.after) _ _ a.second in
      let c = bind (close b.after) _ _ b.second in
      let i = list_sound a.after b.value b.after b.first in
      let tail : ts ≡ Sign s.Open ∷ (i.taken ++ Sign s.Close ∷ c.after) = opening_takes _ _ _ a.first ∙ ap (λ z. Sign s.Open ∷ z) (i.splits ∙ ap (λ z. i.taken ++ z) (close_takes _ _ _ c.first)) in
      let P : List Expr × ℕ → Type 0 = λ p. made room (t.In left.tree p.0 n) (1 + max left.depth p.1) c.after ≡ Some (x, r) in
      let same : ◌≡◌ {A = List Expr × ℕ} b.value (i.trees, i.depth) = pair_is b.value i.trees i.depth i.all i.deepest in
      made_takes room rng _ _ c.after (taken ++ (nots n ++ Key k.In ∷ Sign s.Open ∷ (i.taken ++ Sign s.Close ∷ []))) whole x r (subst P same c.second)
      (w ∙ simp append_assoc (ap (λ z. taken ++ (nots n ++ Key k.In ∷ z)) tail)) (Grammar.among n sp i.spells)

  between_sound : (n : Bool) (left : Node) (taken whole ts : List Mark) → whole ≡ taken ++ (nots n ++ Key k.Between ∷ ts) → Spells sum taken left.tree left.depth
      → (x : Node) (r : List Mark) → between room deep n left ts ≡ Some (x, r) → Took room rng whole x r
  unfolding between
  between_sound n left taken whole ts w sp x r e =
      let a = bind (read_sum room deep ts) _ _ e in
      let b = bind (and_word a.after) _ _ a.second in
      let c = bind (read_sum room deep b.after) _ _ b.second in
      let i = sum_sound ts a.value a.after a.first in
      let j = sum_sound b.after c.value c.after c.first in
      let tail : ts ≡ i.taken ++ Key k.And ∷ (j.taken ++ c.after) = i.splits ∙ ap (λ z. i.taken ++ z) (and_word_takes _ _ _ b.first ∙ ap (λ z. Key k.And ∷ z) j.splits) in
      made_takes room rng _ _ c.after (taken ++ (nots n ++ Key k.Between ∷ (i.taken ++ Key k.And ∷ j.taken))) whole x r c.second
      (w ∙ simp append_assoc (ap (λ z. taken ++ (nots n ++ Key k.Between ∷ z)) tail)) (Grammar.between n sp i.spells j.spells)

  not_range_sound : (left : Node) (taken whole ts : List Mark) → whole ≡ taken ++ Key k.Not ∷ ts → Spells sum taken left.tree left.depth
      → (x : Node) (r : List Mark) → not_range room deep left ts ≡ Some (x, r) → Took room rng whole x r
  unfolding not_range
  not_range_sound left taken whole (Key k.In ∷ ts) w sp x r e = among_sound true left taken whole ts w sp x r e
  not_range_sound left taken whole (Key k.Between ∷ ts) w sp x r e = between_sound true left taken whole ts w sp x r e
  not_range_sound left taken whole ts w sp x r e = absurd (none_some e)

  range_sound : (left : Node) (taken whole ts : List Mark) → whole ≡ taken ++ ts → Spells sum taken left.tree left.depth → left.depth ≤ room
      → (x : Node) (r : List Mark) → range room deep left ts ≡ Some (x, r) → Took room rng whole x r
  unfolding range
  range_sound left taken whole (Key k.In ∷ ts) w sp f x r e = among_sound false left taken whole ts w sp x r e
  range_sound left taken whole (Key k.Between ∷ ts) w sp f x r e = between_sound false left taken whole ts w sp x r e
  range_sound left taken whole (Key k.Not ∷ ts) w sp f x r e = not_range_sound left taken whole ts w sp x r e
  range_sound left taken whole ts w sp f x r e = done room rng left ts taken whole x r e w (Grammar.down rng sp) f

  rng_sound : SoundFor room rng (read_rng room deep)
  unfolding read_rng
  rng_sound ts x r e =
      let a = bind (read_sum room deep ts) _ _ e in
      let i = sum_sound ts a.value a.after a.first in
      range_sound a.value i.taken ts a.after i.splits i.spells i.fits x r a.second

  -- ---- comparisons, tests and NOT

  compared_step : (left : Node) (m : Mark) (ts taken whole : List Mark) → whole ≡ taken ++ m ∷ ts → Spells rng taken left.tree left.depth → left.depth ≤ room
      → (x : Node) (r : List Mark) (o : Option Op) → comparison m ≡ o → compared_by room deep left o (m ∷ ts) ≡ Some (x, r) → Took room cmp whole x r
  compared_step left m ts taken whole w sp f x r None c e = done room cmp left (m ∷ ts) taken whole x r e w (Grammar.down cmp sp) f
  compared_step left m ts taken whole w sp f x r (Some o) c e =
      let a = bind (read_rng room deep ts) _ _ e in
      let i = rng_sound ts a.value a.after a.first in
      made_takes room cmp _ _ a.after (taken ++ m ∷ i.taken) whole x r a.second (w ∙ simp append_assoc (ap (λ z. taken ++ m ∷ z) i.splits)) (Grammar.compared m o sp i.spells c)

  compared_sound : (left : Node) (taken whole ts : List Mark) → whole ≡ taken ++ ts → Spells rng taken left.tree left.depth → left.depth ≤ room
      → (x : Node) (r : List Mark) → compared room deep left ts ≡ Some (x, r) → Took room cmp whole x r
  unfolding compared
  compared_sound left taken whole [] w sp f x r e = done room cmp left [] taken whole x r e w (Grammar.down cmp sp) f
  compared_sound left taken whole (m ∷ ts) w sp f x r e = compared_step left m ts taken whole w sp f x r (comparison m) refl e

  cmp_sound : SoundFor room cmp (read_cmp room deep)
  unfolding read_cmp
  cmp_sound ts x r e =
      let a = bind (read_rng room deep ts) _ _ e in
      let i = rng_sound ts a.value a.after a.first in
      compared_sound a.value i.taken ts a.after i.splits i.spells i.fits x r a.second

  null_test_sound : (left : Node) (taken whole ts : List Mark) → whole ≡ taken ++ Key k.Is ∷ ts → Spells is taken left.tree left.depth
      → (x : Node) (r : List Mark) → null_test room deep left ts ≡ Some (x, r) → Took room is whole x r
  unfolding null_test
  null_test_sound left taken whole ts w sp x r e =
      let a = bind (not_word ts) _ _ e in
      let b = bind (null_word a.after) _ _ a.second in
      let tail : ts ≡ nots a.value ++ Key k.Null ∷ b.after = not_word_takes _ _ _ a.first ∙ ap (λ z. nots a.value ++ z) (null_word_takes _ _ _ b.first) in
      made_takes room is _ _ b.after (taken ++ Key k.Is ∷ (nots a.value ++ Key k.Null ∷ [])) whole x r b.second
      (w ∙ simp append_assoc (ap (λ z. taken ++ Key k.Is ∷ z) tail)) (Grammar.is_null a.value sp)

  tests_sound : (turns : ℕ) (whole : List Mark) (left : Node) (ts taken : List Mark) → whole ≡ taken ++ ts → Spells is taken left.tree left.depth → left.depth ≤ room
      → (x : Node) (r : List Mark) → tests_from room deep turns left ts ≡ Some (x, r) → Took room is whole x r
  unfolding tests_from
  tests_sound zero whole left ts taken w sp f x r e = absurd (none_some e)
  tests_sound (suc turns) whole left (Key k.Is ∷ ts) taken w sp f x r e =
      let a = bind (null_test room deep left ts) _ _ e in
      let n = null_test_sound left taken whole ts w sp a.value a.after a.first in
      tests_sound turns whole a.value a.after n.taken n.splits n.spells n.fits x r a.second
  tests_sound (suc turns) whole left ts taken w sp f x r e = done room is left ts taken whole x r e w sp f

  is_sound : SoundFor room is (read_is room deep)
  unfolding read_is
  is_sound ts x r e =
      let a = bind (read_cmp room deep ts) _ _ e in
      let i = cmp_sound ts a.value a.after a.first in
      tests_sound room ts a.value a.after i.taken i.splits (Grammar.down is i.spells) i.fits x r a.second

  not_sound : SoundFor room not (read_not room deep)
  unfolding read_not
  not_sound (Key k.Not ∷ ts) x r e =
      let a = bind (deep not ts) _ _ e in
      let h = sound not ts a.value a.after a.first in
      made_takes room not _ _ a.after (Key k.Not ∷ h.taken) (Key k.Not ∷ ts) x r a.second (ap (λ z. Key k.Not ∷ z) h.splits) (Grammar.negated h.spells)
  not_sound ts x r e = lifted not (read_is room deep) is_sound ts x r e

  and_sound : SoundFor room and (read_and room deep)
  unfolding read_and
  and_sound ts x r e = chain_sound (read_not room deep) and not_sound ts x r e

  or_sound : SoundFor room expr (read_or room deep)
  unfolding read_or
  or_sound ts x r e = chain_sound (read_and room deep) expr and_sound ts x r e

  at_sound : (l : Level) → SoundFor room l (read_at room deep l)
  at_sound expr = or_sound
  at_sound and = and_sound
  at_sound not = not_sound
  at_sound is = is_sound
  at_sound cmp = cmp_sound
  at_sound rng = rng_sound
  at_sound sum = sum_sound
  at_sound prod = prod_sound
  at_sound un = un_sound
  at_sound atom = atom_sound

-- what is read is spelled so, no deeper than there is room
pub read_sound : (room : ℕ) (l : Level) → SoundFor room l (read room l)
unfolding read
read_sound zero l ts x r e = absurd (none_some e)
read_sound (suc room) l ts x r e = at_sound (suc room) room (λ level. read room level) (omega arith) (λ level. read_sound room level) l ts x r e
