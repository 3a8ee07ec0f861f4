use Rattle.std.proofs.Common.{◌∙◌, sym}
use Rattle.std.proofs.lemmas.Bool.{false≢true}
use Rattle.reach_rows.proofs.Carrying.{carries_joined, carries_none}
use Rattle.reach_rows.proofs.carry.carry_at.Goals as goal

pub returns-then-has : goal.returns-then-has
returns-then-has c =
    carries_joined c.args.number c.args.target c.args.gained.now c.args.rows.now c.join_at.new.self (c.has.ensures.0 c.if-has.true)
    c.join_at.ensures

pub returns-else-has : goal.returns-else-has
returns-else-has c =
    carries_none c.args.number c.args.target c.args.gained.now c.args.rows.now
    (λ has. false≢true (sym c.if-has.false ∙ c.has.ensures.1 has))
