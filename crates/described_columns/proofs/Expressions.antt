-- The name of a column that an expression gives, where its tokens are plain.
use Rattle.std.proofs.Common.{◌≡◌, ℕ, true, false, List, [], ◌∷◌, ◌++◌, Some, None, refl, ap, sym, ◌∙◌, subst, get_or, lit<, arith}
use Rattle.std.specs.Prelude.{◌==◌, codes}
use Rattle.std.specs.List.{list_any}
use Rattle.std.proofs.lemmas.List.Elements.{Contains-append_left, Contains-append_right}
use Rattle.std.proofs.lemmas.List.Folds.{list_any_at}
use Rattle.sql_tree.specs.declared.token.Sign.TheVariants as s
use Rattle.sql_tree.specs.declared.expr.Expr.{Expr, out-Expr}
use Rattle.sql_tree.specs.declared.expr.Expr.TheOpen.{Expr-F}
use Rattle.sql_tree.specs.declared.expr.Expr.TheViews.{roll-Expr, out-roll-Expr}
use Rattle.sql_tree.specs.declared.expr.Expr.TheVariants as e
use Rattle.sql_tree.specs.declared.op.Op.TheVariants.{And, Ge, Le}
use Rattle.sql_grammar.specs.declared.mark.Mark.{Mark}
use Rattle.sql_grammar.specs.declared.mark.Mark.TheVariants as m
use Rattle.sql_grammar.specs.Grammar.{Level, Spells, name_of, within}
use Rattle.cell_base.specs.Texts.{HasNoZero}
use Rattle.sql_grammar.specs.Limited.{IsPlainName}
use Rattle.typing_rules.specs.Select.{plain_name}
use Rattle.sound_table.proofs.Yields.{IsPlainMark, ArePlain}

-- ---- marks

inner : (before ts after : List Mark) → ArePlain (before ++ (ts ++ after)) → ArePlain ts
inner before ts after h mark at = h mark (Contains-append_right before (ts ++ after) mark (Contains-append_left ts after mark at))

following : (before ts : List Mark) → ArePlain (before ++ ts) → ArePlain ts
following before ts h mark at = h mark (Contains-append_right before ts mark at)

first : (mark : Mark) (ts : List Mark) → ArePlain (mark ∷ ts) → IsPlainMark mark
first mark ts h = h mark (0, omega arith, refl)

named : (mark : Mark) (name : List ℕ) → name_of mark ≡ Some name → IsPlainMark mark → IsPlainName name
named (m.Plain w text) name same h = let is : text ≡ name = cc in subst IsPlainName is h
named (m.Quoted text) name same h = let is : text ≡ name = cc in subst IsPlainName is h
named _ name same h = absurd (cc)

-- ---- the name of an expression that has none

-- no byte of the text is zero, as a test finds
no_zero : (text : List ℕ) → list_any (λ b. b == 0) text ≡ false → HasNoZero text
no_zero text none at =
    let zero_there : (get_or text at.0 0 == 0) ≡ true = rw at.2 refl in
    let some : list_any (λ b. b == 0) text ≡ true = list_any_at (λ b. b == 0) text at.0 0 at.1 zero_there in
    cc

unnamed : IsPlainName (codes "?column?")
unnamed = record { fits = lit< tt; no_zero = no_zero (codes "?column?") refl }

-- ---- the name of an expression

abbrev pub HasPlainName : Expr → Type 0
HasPlainName x = IsPlainName (plain_name (out-Expr x))

-- what the outermost node tells
seen : {x : Expr} (y : Expr-F Expr) → roll-Expr y ≡ x → IsPlainName (plain_name y) → HasPlainName x
seen y rolls h = subst (λ y. IsPlainName (plain_name y)) (sym (ap out-Expr (sym rolls) ∙ out-roll-Expr y)) h

pub expression_named : {l : Level} {ts : List Mark} {x : Expr} {d : ℕ} → Spells l ts x d → ArePlain ts → HasPlainName x
expression_named (Spells.down l spelled) h = expression_named spelled h
expression_named (Spells.chain {x = x} {y = y} l mark o before after linked) h = seen (Expr-F.Binary o x y) (e.rolls-Binary o x y) unnamed
expression_named (Spells.negated {x = x} spelled) h = seen (Expr-F.Not x) (e.rolls-Not x) unnamed
expression_named (Spells.is_null {x = x} n spelled) h = seen (Expr-F.IsNull x n) (e.rolls-IsNull x n) unnamed
expression_named (Spells.compared {x = x} {y = y} mark o before after is) h = seen (Expr-F.Binary o x y) (e.rolls-Binary o x y) unnamed
expression_named (Spells.among {x = x} {xs = xs} n spelled members) h = seen (Expr-F.In x xs n) (e.rolls-In x xs n) unnamed
expression_named (Spells.between {x = x} {y = y} {z = z} true a b c) h = seen (Expr-F.Not (within x y z)) (e.rolls-Not (within x y z)) unnamed
expression_named (Spells.between {x = x} {y = y} {z = z} false a b c) h =
    seen (Expr-F.Binary And (e.Binary Ge x y) (e.Binary Le x z)) (e.rolls-Binary And (e.Binary Ge x y) (e.Binary Le x z)) unnamed
expression_named (Spells.minus {x = x} spelled) h = seen (Expr-F.Neg x) (e.rolls-Neg x) unnamed
expression_named (Spells.plus {ts = ts} spelled) h = expression_named spelled (following (m.Sign s.Plus ∷ []) ts h)
expression_named (Spells.number n) h = seen (Expr-F.Int n) (e.rolls-Int n) unnamed
expression_named (Spells.string t) h = seen (Expr-F.Str t) (e.rolls-Str t) unnamed
expression_named Spells.truth h = seen (Expr-F.Flag true) (e.rolls-Flag true) unnamed
expression_named Spells.falsity h = seen (Expr-F.Flag false) (e.rolls-Flag false) unnamed
expression_named Spells.null h = seen Expr-F.Null e.rolls-Null unnamed
expression_named (Spells.column mark name reads) h = seen (Expr-F.Column None name) (e.rolls-Column None name) (named mark name reads (first mark [] h))
expression_named (Spells.qualified mark table other name table_reads reads) h =
    seen (Expr-F.Column (Some table) name) (e.rolls-Column (Some table) name)
    (named other name reads (first other [] (following (mark ∷ m.Sign s.Dot ∷ []) (other ∷ []) h)))
expression_named (Spells.call_star mark name reads) h =
    seen (Expr-F.Call name None) (e.rolls-Call name None) (named mark name reads (first mark (m.Sign s.Open ∷ m.Sign s.Star ∷ m.Sign s.Close ∷ []) h))
expression_named (Spells.call {ts = ts} {x = x} mark name reads spelled) h =
    seen (Expr-F.Call name (Some x)) (e.rolls-Call name (Some x)) (named mark name reads (first mark (m.Sign s.Open ∷ (ts ++ m.Sign s.Close ∷ [])) h))
expression_named (Spells.parens {ts = ts} spelled) h = expression_named spelled (inner (m.Sign s.Open ∷ []) ts (m.Sign s.Close ∷ []) h)
