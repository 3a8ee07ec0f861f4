use Rattle.valid_writes.proofs.book.SeatBookBook.touch.Goals as goal

pub returns-clause-answers : goal.returns-clause-answers
returns-clause-answers g c = rw (← c.self.view_is) c.touch_cell.ensures.answers

pub returns-clause-state : goal.returns-clause-state
returns-clause-state g c = rw (← c.self.view_is) c.touch_cell.ensures.state

pub returns-clause-err : goal.returns-clause-err
returns-clause-err g c = rw (← c.self.view_is) c.touch_cell.ensures.err

pub returns-clause-stays : goal.returns-clause-stays
returns-clause-stays g c = rw (← c.self.view_is) c.touch_cell.ensures.owns
