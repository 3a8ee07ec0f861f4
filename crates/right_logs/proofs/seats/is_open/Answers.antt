use Rattle.right_logs.proofs.seats.is_open.Goals as goal

pub returns-in-Some : goal.returns-in-Some
returns-in-Some c = λ opens. (c.in-Some.note, c.in-Some.ensures, opens)
