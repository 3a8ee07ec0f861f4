use Rattle.seat_samples.specs.contracts.words.SameWordsWords.TheImpl as same_words
use Rattle.seat_samples.proofs.Touched.{touched_tables}
use Rattle.seat_samples.proofs.words.touch_by.Goals as goal

pub returns-clause-tables : goal.returns-clause-tables
returns-clause-tables g c = λ table has.
    touched_tables (same_words.ghosts).gives (g.B.Book.past c.args.book.now) _ c.args.cell.now c.touch.result (g.B.Book.past c.touch.new.self) _
    c.touch.ensures.answers c.touch.ensures.err table has
