use Rattle.std.proofs.Common.{refl, ap, Err, length}
use Rattle.history_core.specs.declared.event.Event.TheVariants.{Close, Look, Begin, Commit, Rollback, Show}
use Rattle.history_book.specs.Book.{session_of}
use Rattle.block_machine.specs.Calls.{call_of}
use Rattle.block_machine.specs.Calls as calls
use Rattle.block_machine.specs.declared.call.Answer.TheVariants as answers
use Rattle.session_core.proofs.Playing.{played, declined, look_fits}
use Rattle.session_core.proofs.calls.call.Goals as goal

pub returns-in-Err-clause-plays : goal.returns-in-Err-clause-plays
returns-in-Err-clause-plays g c = declined g.W.Words.gives (g.B.Book.past c.args.book.now) c.args.words.now (call_of c.args.c) calls.Open
    c.in-Err.why (g.B.Book.past c.open.new.self) c.args.words.now (ap call_of c.in-Open.is) tt c.in-Err.ensures.err
    (λ limit is. c.in-Err.ensures.full limit (ap Err is)) (λ limit is. tt) refl

pub returns-in-Close-clause-plays : goal.returns-in-Close-clause-plays
returns-in-Close-clause-plays g c = played g.W.Words.gives (g.B.Book.past c.args.book.now) c.args.words.now (call_of c.args.c) calls.Close
    answers.Closed (Close (session_of (g.B.Book.past c.args.book.now).state)) (g.B.Book.past c.close.new.self) c.args.words.now
    (ap call_of c.in-Close.is) ((refl, c.close.ensures.adds), refl)

pub returns-in-Ok-look-clause-fits : goal.returns-in-Ok-look-clause-fits
returns-in-Ok-look-clause-fits g c = look_fits (call_of c.args.c) (g.B.Book.past c.args.book.now) (g.B.Book.past c.look.new.self)
    c.in-Look.known c.in-Ok-look.tables (ap call_of c.in-Look.is) c.in-Ok-look.ensures.ok c.in-Ok-look.ensures.legal

pub returns-in-Ok-look-clause-plays : goal.returns-in-Ok-look-clause-plays
returns-in-Ok-look-clause-plays g c = played g.W.Words.gives (g.B.Book.past c.args.book.now) c.args.words.now (call_of c.args.c)
    (calls.Look c.in-Look.known) (answers.Looked c.in-Ok-look.tables)
    (Look (session_of (g.B.Book.past c.args.book.now).state) (length (g.B.Book.past c.look.new.self).seen.tables))
    (g.B.Book.past c.look.new.self) c.args.words.now (ap call_of c.in-Look.is) ((refl, c.in-Ok-look.ensures.ok), refl)

pub returns-in-Err-look-clause-plays : goal.returns-in-Err-look-clause-plays
returns-in-Err-look-clause-plays g c = declined g.W.Words.gives (g.B.Book.past c.args.book.now) c.args.words.now (call_of c.args.c)
    (calls.Look c.in-Look.known) c.in-Err-look.why (g.B.Book.past c.look.new.self) c.args.words.now (ap call_of c.in-Look.is) tt
    c.in-Err-look.ensures.err (λ limit is. c.in-Err-look.ensures.full limit (ap Err is)) (λ limit is. tt) refl

pub returns-in-Ok-begin-clause-plays : goal.returns-in-Ok-begin-clause-plays
returns-in-Ok-begin-clause-plays g c = played g.W.Words.gives (g.B.Book.past c.args.book.now) c.args.words.now (call_of c.args.c)
    (calls.Begin c.in-Begin.level) (answers.Begun c.in-Ok-begin.number)
    (Begin (session_of (g.B.Book.past c.args.book.now).state) c.in-Begin.level)
    (g.B.Book.past c.begin.new.self) c.args.words.now (ap call_of c.in-Begin.is)
    ((refl, c.in-Ok-begin.ensures.ok, c.in-Ok-begin.ensures.number), refl)

pub returns-in-Err-begin-clause-plays : goal.returns-in-Err-begin-clause-plays
returns-in-Err-begin-clause-plays g c = declined g.W.Words.gives (g.B.Book.past c.args.book.now) c.args.words.now (call_of c.args.c)
    (calls.Begin c.in-Begin.level) c.in-Err-begin.why (g.B.Book.past c.begin.new.self) c.args.words.now (ap call_of c.in-Begin.is) tt
    c.in-Err-begin.ensures.err (λ limit is. c.in-Err-begin.ensures.full limit (ap Err is)) (λ limit is. tt) refl

pub returns-in-Commit-clause-plays : goal.returns-in-Commit-clause-plays
returns-in-Commit-clause-plays g c = played g.W.Words.gives (g.B.Book.past c.args.book.now) c.args.words.now (call_of c.args.c) calls.Commit
    answers.Committed (Commit (session_of (g.B.Book.past c.args.book.now).state)) (g.B.Book.past c.commit.new.self) c.args.words.now
    (ap call_of c.in-Commit.is) ((refl, c.commit.ensures.adds), refl)

pub returns-in-Rollback-clause-plays : goal.returns-in-Rollback-clause-plays
returns-in-Rollback-clause-plays g c = played g.W.Words.gives (g.B.Book.past c.args.book.now) c.args.words.now (call_of c.args.c)
    calls.Rollback answers.RolledBack (Rollback (session_of (g.B.Book.past c.args.book.now).state)) (g.B.Book.past c.rollback.new.self)
    c.args.words.now (ap call_of c.in-Rollback.is) ((refl, c.rollback.ensures.adds), refl)

pub returns-in-Ok-show-clause-plays : goal.returns-in-Ok-show-clause-plays
returns-in-Ok-show-clause-plays g c = played g.W.Words.gives (g.B.Book.past c.args.book.now) c.args.words.now (call_of c.args.c) calls.Show
    (answers.Shown c.in-Ok-show.number) (Show (session_of (g.B.Book.past c.args.book.now).state) c.in-Ok-show.number)
    (g.B.Book.past c.show.new.self) c.args.words.now (ap call_of c.in-Show.is)
    ((refl, c.in-Ok-show.ensures.ok, c.in-Ok-show.ensures.number), refl)

pub returns-in-Err-show-clause-plays : goal.returns-in-Err-show-clause-plays
returns-in-Err-show-clause-plays g c = declined g.W.Words.gives (g.B.Book.past c.args.book.now) c.args.words.now (call_of c.args.c)
    calls.Show c.in-Err-show.why (g.B.Book.past c.show.new.self) c.args.words.now (ap call_of c.in-Show.is) tt c.in-Err-show.ensures.err
    (λ limit is. c.in-Err-show.ensures.full limit (ap Err is)) (λ limit is. tt) refl
