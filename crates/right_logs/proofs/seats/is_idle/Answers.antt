use Rattle.right_logs.proofs.seats.is_idle.Goals as goal

pub returns-in-Some : goal.returns-in-Some
returns-in-Some c = λ idle. let both = c.is_open_and_free.ensures idle in (c.in-Some.note, c.in-Some.ensures, both.0, both.1)
