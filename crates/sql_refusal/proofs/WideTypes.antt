-- The wide grammar's types in the form that the next mark leads through, and messages with types that spell the same.
use Rattle.std.proofs.Common.{◌≡◌, ℕ, Bool, true, false, List, [], ◌∷◌, ◌++◌, Some, refl, ap, sym, ◌∙◌, subst}
use Rattle.std.specs.Prelude.{eqb, not as opposite}
use Rattle.std.proofs.lemmas.Bool.{eqb-true}
use Rattle.sql_tree.specs.declared.token.Sign.TheVariants as s
use Rattle.sql_grammar.specs.declared.mark.Mark.{Mark}
use Rattle.sql_grammar.specs.declared.mark.Mark.TheVariants.{Plain, Quoted}
use Rattle.sql_grammar.specs.declared.mark.Word.{Word}
use Rattle.sql_grammar.specs.declared.mark.Word.TheVariants as w
use Rattle.sql_grammar.specs.declared.mark.Sought.TheVariants as sought
use Rattle.sql_grammar.specs.Grammar.{Level}
use Rattle.sql_grammar.specs.Syntax as syntax
use Rattle.sql_grammar.specs.Syntax.{kind, place, is_name}
use Rattle.sql_grammar.specs.Steps.{Pattern, the, a_name, a_number, any}
use Rattle.sql_grammar.specs.Statements.{name, size as size_rule, sized, type_name, constraints, table_constraint}
use Rattle.sql_grammar.proofs.Patterns.{true_false}
use Rattle.sql_refusal.specs.Forms
use Rattle.sql_refusal.specs.Forms.{Form, nothing, mark, ◌▸◌, either, many, form, sign, Spelled}
use Rattle.sql_refusal.specs.Wide.{wide_type}
use Rattle.sql_refusal.specs.WideForms.{element_with, create_with, statement_with, piece_with, with_type, word, size, numbers, wide_form}

module _ (E : Level → List Mark → Type 0) where
  -- ---- messages whose types spell more

  abbrev pub Spells : Form → Form → Type 0
  Spells t u = (ts : List Mark) → Spelled E t ts → Spelled E u ts

  many_more : (a b : Form) → Spells a b → (us : List Mark) → Spelled E (many a) us → Spelled E (many b) us
  many_more a b h us Forms.none = Forms.none
  many_more a b h us (Forms.more {ts = ts} {us = vs} x xs) = Forms.more (h ts x) (many_more a b h vs xs)

  after_more : (p : List Pattern) (a b : Form) → Spells a b → Spells (mark p ▸ a) (mark p ▸ b)
  after_more p a b h ts (Forms.both {us = us} x y) = Forms.both x (h us y)

  element_more : (t u : Form) → Spells t u → Spells (element_with t) (element_with u)
  element_more t u h ts (Forms.left (Forms.both x (Forms.both {ts = us} y z))) = Forms.left (Forms.both x (Forms.both (h us y) z))
  element_more t u h ts (Forms.right x) = Forms.right x

  create_more : (t u : Form) → Spells t u → Spells (create_with t) (create_with u)
  create_more t u h ts (Forms.both a (Forms.both b (Forms.both c (Forms.both d (Forms.both (Forms.both {ts = xs} {us = ys} x y) z))))) =
      Forms.both a (Forms.both b (Forms.both c (Forms.both d (Forms.both (Forms.both (element_more t u h xs x)
      (many_more (sign s.Comma ▸ element_with t) (sign s.Comma ▸ element_with u) (after_more _ (element_with t) (element_with u) (element_more t u h)) ys y)) z))))

  piece_more : (t u : Form) → Spells t u → Spells (piece_with t) (piece_with u)
  piece_more t u h ts (Forms.left (Forms.left x)) = Forms.left (Forms.left x)
  piece_more t u h ts (Forms.left (Forms.right (Forms.left x))) = Forms.left (Forms.right (Forms.left x))
  piece_more t u h ts (Forms.left (Forms.right (Forms.right (Forms.left x)))) = Forms.left (Forms.right (Forms.right (Forms.left x)))
  piece_more t u h ts (Forms.left (Forms.right (Forms.right (Forms.right (Forms.left x))))) = Forms.left (Forms.right (Forms.right (Forms.right (Forms.left x))))
  piece_more t u h ts (Forms.left (Forms.right (Forms.right (Forms.right (Forms.right (Forms.left x)))))) = Forms.left (Forms.right (Forms.right (Forms.right (Forms.right (Forms.left (create_more t u h ts x))))))
  piece_more t u h ts (Forms.left (Forms.right (Forms.right (Forms.right (Forms.right (Forms.right x)))))) = Forms.left (Forms.right (Forms.right (Forms.right (Forms.right (Forms.right x)))))
  piece_more t u h ts (Forms.right x) = Forms.right x

  pub message_more : (t u : Form) → Spells t u → Spells (with_type t) (with_type u)
  unfolding with_type
  message_more t u h ts (Forms.both {ts = xs} {us = ys} x y) =
      Forms.both (piece_more t u h xs x) (many_more (sign s.Semi ▸ piece_with t) (sign s.Semi ▸ piece_with u) (after_more _ (piece_with t) (piece_with u) (piece_more t u h)) ys y)

  -- ---- types

  abbrev other_name : List Pattern
  other_name = a_name (w.Character ∷ []) ∷ []

  named : (v : Word) (m : Mark) → is_name (w.Character ∷ []) (syntax.word true (place v)) ≡ true → any (the (sought.Plain v) ∷ []) (kind (Some m)) ≡ true → any other_name (kind (Some m)) ≡ true
  named v (Plain u text) h e = let P : ℕ → Type 0 = λ n. is_name (w.Character ∷ []) (syntax.word true n) ≡ true in subst P (sym (eqb-true (place u) (place v) e)) h
  named v (Quoted text) h e = refl
  named v m h e = absurd (true_false e refl)

  any_name : (p : List Pattern) (m : Mark) → any other_name (kind (Some m)) ≡ true → any (a_name [] ∷ []) (kind (Some m)) ≡ true
  any_name p (Plain u text) e = refl
  any_name p (Quoted text) e = refl
  any_name p m e = absurd (true_false e refl)

  sized_numbers : Spells size numbers
  sized_numbers ts (Forms.left (Forms.both x (Forms.both (Forms.is_mark e) z))) = Forms.left (Forms.both x (Forms.both (Forms.both (Forms.is_mark e) Forms.none) z))
  sized_numbers ts (Forms.right x) = Forms.right x

  one_word : (v : Word) → is_name (w.Character ∷ []) (syntax.word true (place v)) ≡ true → Spells (word v) (mark other_name ▸ numbers)
  one_word v h ts (Forms.is_mark {m = m} e) = Forms.both {ts = m ∷ []} (Forms.is_mark (named v m h e)) (Forms.right Forms.is_nothing)

  split : (us : List Mark) → Spelled E numbers us → (u : Word) (text : List ℕ) (c : Bool) → eqb (place u) (place w.Character) ≡ c → Spelled E wide_form (Plain u text ∷ us)
  unfolding wide_form
  split us y u text true h = Forms.left (Forms.both {ts = Plain u text ∷ []} (Forms.is_mark h) (Forms.right y))
  split us y u text false h = Forms.right (Forms.both {ts = Plain u text ∷ []} (Forms.is_mark (rw h refl)) y)

  either_name : (us : List Mark) → Spelled E numbers us → (m : Mark) → any (a_name [] ∷ []) (kind (Some m)) ≡ true → Spelled E wide_form (m ∷ us)
  unfolding wide_form
  either_name us y (Plain u text) e = split us y u text (eqb (place u) (place w.Character)) refl
  either_name us y (Quoted text) e = Forms.right (Forms.both {ts = Quoted text ∷ []} (Forms.is_mark refl) y)
  either_name us y m e = absurd (true_false e refl)

  pub narrow : Spells (form wide_type) wide_form
  unfolding wide_form wide_type type_name sized size_rule name
  narrow ts (Forms.left (Forms.left x)) = Forms.right (one_word w.Boolean refl ts x)
  narrow ts (Forms.left (Forms.right (Forms.left x))) = Forms.right (one_word w.Bool refl ts x)
  narrow ts (Forms.left (Forms.right (Forms.right (Forms.left x)))) = Forms.right (one_word w.Integer refl ts x)
  narrow ts (Forms.left (Forms.right (Forms.right (Forms.right (Forms.left x))))) = Forms.right (one_word w.Int refl ts x)
  narrow ts (Forms.left (Forms.right (Forms.right (Forms.right (Forms.right (Forms.left x)))))) = Forms.right (one_word w.Int4 refl ts x)
  narrow ts (Forms.left (Forms.right (Forms.right (Forms.right (Forms.right (Forms.right (Forms.left x))))))) = Forms.right (one_word w.Bigint refl ts x)
  narrow ts (Forms.left (Forms.right (Forms.right (Forms.right (Forms.right (Forms.right (Forms.right (Forms.left x)))))))) = Forms.right (one_word w.Int8 refl ts x)
  narrow ts (Forms.left (Forms.right (Forms.right (Forms.right (Forms.right (Forms.right (Forms.right (Forms.right (Forms.left x))))))))) = Forms.right (one_word w.Text refl ts x)
  narrow ts (Forms.left (Forms.right (Forms.right (Forms.right (Forms.right (Forms.right (Forms.right (Forms.right (Forms.right (Forms.both {us = us} (Forms.left (Forms.is_mark {m = m} e)) y)))))))))) =
      Forms.right (Forms.both {ts = m ∷ []} (Forms.is_mark (named w.Varchar m refl e)) (sized_numbers us y))
  narrow ts (Forms.left (Forms.right (Forms.right (Forms.right (Forms.right (Forms.right (Forms.right (Forms.right (Forms.right (Forms.both (Forms.right (Forms.both (Forms.is_mark {m = m} e) (Forms.is_mark {m = n} f))) y)))))))))) =
      Forms.left (Forms.both {ts = m ∷ []} (Forms.is_mark e) (Forms.left (Forms.both {ts = n ∷ []} (Forms.is_mark f) y)))
  narrow ts (Forms.right (Forms.both {us = us} (Forms.is_mark {m = m} e) y)) = either_name us y m e

  word_name : (v : Word) (m : Mark) → any (the (sought.Plain v) ∷ []) (kind (Some m)) ≡ true → any (a_name [] ∷ []) (kind (Some m)) ≡ true
  word_name v (Plain u text) e = refl
  word_name v m e = absurd (true_false e refl)

  pub widen : Spells wide_form (form wide_type)
  unfolding wide_form wide_type type_name sized size_rule name
  widen ts (Forms.left (Forms.both (Forms.is_mark {m = m} e) (Forms.left (Forms.both {us = us} (Forms.is_mark {m = n} f) y)))) =
      Forms.left (Forms.right (Forms.right (Forms.right (Forms.right (Forms.right (Forms.right (Forms.right (Forms.right (Forms.both {ts = m ∷ n ∷ []} (Forms.right (Forms.both {ts = m ∷ []} (Forms.is_mark e) (Forms.is_mark f))) y)))))))))
  widen ts (Forms.left (Forms.both (Forms.is_mark {m = m} e) (Forms.right y))) = Forms.right (Forms.both {ts = m ∷ []} (Forms.is_mark (word_name w.Character m e)) y)
  widen ts (Forms.right (Forms.both (Forms.is_mark {m = m} e) y)) = Forms.right (Forms.both {ts = m ∷ []} (Forms.is_mark (any_name [] m e)) y)
