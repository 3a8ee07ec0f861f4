use Rattle.std.proofs.Common.{◌+◌, ℕ, [], take, refl, sym, subst, arith}
use Rattle.std.proofs.lemmas.List.{length-take}
use Rattle.link_traits.specs.Traffic.{Both, Took, sight_of}
use Rattle.block_machine.specs.declared.end.Stop.TheVariants as stops
use Rattle.session_core.specs.Serve.{scene_of}
use Rattle.session_core.specs.Running.{Ran}
use Rattle.session_core.proofs.Serving.{Ran-stopped, Ran-halted, Ran-fed, take-size, at_end, sits_kept}
use Rattle.session_core.proofs.serve.take_in.Goals as goal

pub returns-then-most-eq0-clause-ran : goal.returns-then-most-eq0-clause-ran
returns-then-most-eq0-clause-ran g c = λ level before many spent ran.
    let now = sight_of g.L.Sides.traffic g.L.Sides.read_faults g.L.Sides.write_faults c.args.link.now in
    Ran-halted g.W.Words.gives level before c.args.session.now c.stop.new.self (g.B.Book.past c.args.book.now) c.args.words.now now now many
    stops.Spent
    c.stop.ensures.grown c.requires.wanted c.stop.ensures.runner c.stop.ensures.outer c.stop.ensures.lacks refl (omega arith) refl
    (λ taken is le. omega (arith, is, spent, c.if-most-eq0.true)) ran

pub returns-then-n-eq0-clause-ran : goal.returns-then-n-eq0-clause-ran
returns-then-n-eq0-clause-ran g c = λ level before many spent ran.
    let took : Both (Took []) (g.L.Sides.traffic c.args.link.now) (g.L.Sides.traffic c.read.new.self) =
    subst (λ (k : ℕ). Both (Took (take k c.read.new.room)) (g.L.Sides.traffic c.args.link.now) (g.L.Sides.traffic c.read.new.self))
    c.if-n-eq0.true c.in-Ok.ensures.took in
    subst (λ (k : ℕ). Ran g.W.Words.gives level before c.stop-then-n-eq0.new.self
    (scene_of (g.B.Book.past c.args.book.now) c.args.words.now
    (sight_of g.L.Sides.traffic g.L.Sides.read_faults g.L.Sides.write_faults c.read.new.self)) (many + k)) (sym c.if-n-eq0.true)
    (Ran-stopped g.W.Words.gives level before c.args.session.now c.stop-then-n-eq0.new.self (g.B.Book.past c.args.book.now) c.args.words.now
    (sight_of g.L.Sides.traffic g.L.Sides.read_faults g.L.Sides.write_faults c.args.link.now)
    (sight_of g.L.Sides.traffic g.L.Sides.read_faults g.L.Sides.write_faults c.read.new.self) many stops.EndOfInput
    c.stop-then-n-eq0.ensures.grown c.requires.wanted c.stop-then-n-eq0.ensures.runner c.stop-then-n-eq0.ensures.outer
    c.stop-then-n-eq0.ensures.lacks took c.read.ensures.cause.later c.read.ensures.write_faults
    (λ taken is le. (
      omega (arith, is, spent, c.if-most-eq0.false),
      at_end c.in-Ok.n (g.L.Sides.traffic c.args.link.now) (g.L.Sides.traffic c.read.new.self) c.if-n-eq0.true
          c.in-Ok.ensures.end took,
    )) ran)

pub returns-else-n-eq0-clause-ran : goal.returns-else-n-eq0-clause-ran
returns-else-n-eq0-clause-ran g c = λ level before many spent ran.
    Ran-fed g.W.Words.gives level before c.args.session.now c.feed.new.self (g.B.Book.past c.args.book.now) c.args.words.now
    (sight_of g.L.Sides.traffic g.L.Sides.read_faults g.L.Sides.write_faults c.args.link.now)
    (sight_of g.L.Sides.traffic g.L.Sides.read_faults g.L.Sides.write_faults c.read.new.self) many (take c.in-Ok.n c.read.new.room)
    c.in-Ok.n
    c.feed.ensures.grown c.requires.wanted c.feed.ensures.runner c.feed.ensures.outer c.feed.ensures.lacks c.in-Ok.ensures.took
    c.read.ensures.cause.later c.read.ensures.write_faults (take-size c.in-Ok.n c.read.new.room c.in-Ok.ensures.within)
    (omega (arith, c.in-Ok.ensures.within, c.requires.at_once, length-take c.min-size.result c.args.room.now)) ran

pub returns-in-Err-clause-ran : goal.returns-in-Err-clause-ran
returns-in-Err-clause-ran g c = λ level before many spent ran.
    Ran-halted g.W.Words.gives level before c.args.session.now c.stop-in-Err.new.self (g.B.Book.past c.args.book.now) c.args.words.now
    (sight_of g.L.Sides.traffic g.L.Sides.read_faults g.L.Sides.write_faults c.args.link.now)
    (sight_of g.L.Sides.traffic g.L.Sides.read_faults g.L.Sides.write_faults c.read.new.self) many stops.ReadFault
    c.stop-in-Err.ensures.grown c.requires.wanted c.stop-in-Err.ensures.runner c.stop-in-Err.ensures.outer c.stop-in-Err.ensures.lacks
    c.in-Err.ensures.err c.read.ensures.cause.later c.read.ensures.write_faults
    (λ taken is le. (omega (arith, is, spent, c.if-most-eq0.false), omega (arith, le, c.in-Err.ensures.cause.failed refl))) ran

pub returns-then-most-eq0-clause-sits : goal.returns-then-most-eq0-clause-sits
returns-then-most-eq0-clause-sits g c = sits_kept c.args.session.now c.stop.new.self (g.B.Book.past c.args.book.now) c.requires.sits
    c.stop.ensures.owed c.stop.ensures.runner

pub returns-then-n-eq0-clause-sits : goal.returns-then-n-eq0-clause-sits
returns-then-n-eq0-clause-sits g c = sits_kept c.args.session.now c.stop-then-n-eq0.new.self (g.B.Book.past c.args.book.now) c.requires.sits
    c.stop-then-n-eq0.ensures.owed c.stop-then-n-eq0.ensures.runner

pub returns-else-n-eq0-clause-sits : goal.returns-else-n-eq0-clause-sits
returns-else-n-eq0-clause-sits g c = sits_kept c.args.session.now c.feed.new.self (g.B.Book.past c.args.book.now) c.requires.sits
    c.feed.ensures.owed c.feed.ensures.runner

pub returns-in-Err-clause-sits : goal.returns-in-Err-clause-sits
returns-in-Err-clause-sits g c = sits_kept c.args.session.now c.stop-in-Err.new.self (g.B.Book.past c.args.book.now) c.requires.sits
    c.stop-in-Err.ensures.owed c.stop-in-Err.ensures.runner
