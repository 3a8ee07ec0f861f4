use Rattle.sql_refusal.proofs.pass.+part.Given as goal

abbrev pub decreases-part : goal.decreases-part
decreases-part l = l.room
