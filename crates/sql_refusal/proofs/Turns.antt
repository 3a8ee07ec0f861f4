-- A recursion on a count of turns, beside a loop that counts up, and the steps from level to level.
use Rattle.std.proofs.Common.{◌≡◌, ℕ, zero, suc, true, ◌+◌, ◌-◌, ◌<◌, List, Some, None, refl, ap, ◌∙◌, arith}
use Rattle.sql_grammar.specs.declared.mark.Mark.{Mark}
use Rattle.sql_grammar.specs.Grammar.{Level}
use Rattle.sql_grammar.specs.Reading.{front}
use Rattle.sql_grammar.specs.Syntax.{kind}
use Rattle.sql_refusal.specs.Forms.{Form, Passer, at, passes, may_begin, many_from, rule_at}

pub one_more : {X : Type 0} {x : X} (f : ℕ → X) (n at : ℕ) → at < n → x ≡ f (n - at) → x ≡ f (suc (n - (at + 1)))
one_more f n at below e = let turn : n - at ≡ suc (n - (at + 1)) = omega arith in e ∙ ap f turn

pub at_none : (room : ℕ) (l : Level) (ts : List Mark) → room ≡ 0 → at room l ts ≡ None
unfolding at
at_none zero l ts none = refl
at_none (suc room) l ts none = absurd (omega arith)

pub at_opens : (room : ℕ) (l : Level) (ts : List Mark) → 0 < room → at room l ts ≡ passes (at (room - 1)) (rule_at l) ts
unfolding at
at_opens zero l ts some = absurd (omega arith)
at_opens (suc room) l ts some = let inner : room ≡ suc room - 1 = omega arith in ap (λ n. passes (at n) (rule_at l) ts) inner

pub turned : (p : Level → Passer) (f : Form) (n : ℕ) (ts us : List Mark) → may_begin f (kind (front ts)) ≡ true → passes p f ts ≡ Some us
    → many_from (may_begin f) (passes p f) (suc n) ts ≡ many_from (may_begin f) (passes p f) n us
unfolding many_from
turned p f n ts us h e = rw (h, e) refl
