-- A function value that passes over a level of expressions.
use Rattle.std.specs.Prelude.{ℕ, Option}
use denote.Bor.{Bor}
use Rattle.sql_grammar.specs.declared.mark.Mark.{Mark}
use Rattle.std.specs.Prelude.{List}
use Rattle.sql_refusal.specs.declared.rule.Level.{Level}
use Rattle.sql_refusal.specs.Forms.{at}
use Rattle.sql_refusal.specs.Tables.{level_of, Leaves}

pub record Deeper (room : ℕ) (pre : Bor (List Mark) → ℕ → Level → Type 0) (post : Bor (List Mark) → ℕ → Level → Option (Bor (List Mark)) → Type 0) : Type 0 where
  pub callable : (ahead : Bor (List Mark)) (level : Level) → pre ahead room level
  pub passes : (ahead : Bor (List Mark)) (level : Level) (r : Option (Bor (List Mark))) → post ahead room level r → Leaves (at room (level_of level) ahead.now) r
