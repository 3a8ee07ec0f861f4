-- A recursion on a count of turns, beside a loop that counts up, and the levels below a room.
use Rattle.std.proofs.Common.{◌≡◌, ℕ, zero, suc, ◌+◌, ◌-◌, ◌<◌, ◌≤◌, List, None, refl, ap, ◌∙◌, arith}
use Rattle.sql_grammar.specs.declared.mark.Mark.{Mark}
use Rattle.sql_grammar.specs.Grammar.{Level}
use Rattle.sql_grammar.specs.Reading.{read, read_at}

pub one_more : {X : Type 0} {x : X} (f : ℕ → X) (n at : ℕ) → at < n → x ≡ f (n - at) → x ≡ f (suc (n - (at + 1)))
one_more f n at below e = let turn : n - at ≡ suc (n - (at + 1)) = omega arith in e ∙ ap f turn

pub none_left : {X : Type 0} {x : X} (f : ℕ → X) (n at : ℕ) → n ≤ at → x ≡ f (n - at) → x ≡ f 0
none_left f n at past e = let turn : n - at ≡ 0 = omega arith in e ∙ ap f turn

pub read_none : (room : ℕ) (l : Level) (ts : List Mark) → room ≡ 0 → read room l ts ≡ None
unfolding read
read_none zero l ts none = refl
read_none (suc room) l ts none = absurd (omega arith)

pub read_opens : (room : ℕ) (l : Level) (ts : List Mark) → 0 < room → read room l ts ≡ read_at room (read (room - 1)) l ts
unfolding read
read_opens zero l ts some = absurd (omega arith)
read_opens (suc room) l ts some = let inner : room ≡ suc room - 1 = omega arith in ap (λ n. read_at (suc room) (read n) l ts) inner
