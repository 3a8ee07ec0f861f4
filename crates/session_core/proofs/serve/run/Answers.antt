use Rattle.std.proofs.Common.{rules, ◌+◌, ℕ, arith, refl, sym, subst}
use Rattle.link_traits.specs.Traffic.{sight_of}
use Rattle.session_core.specs.Wants.{IsOver}
use Rattle.session_core.specs.Serve.{scene_of}
use Rattle.session_core.specs.Stands.{served_of}
use Rattle.session_core.proofs.Serving.{Ran-new, Serves-ran, is_over, away_over, sits_new}
use Rattle.session_core.proofs.serve.run.Goals as goal

pub loop-session-init : goal.loop-session-init
loop-session-init g c =
    let before =
    scene_of (g.B.Book.past c.args.book.now) c.args.words.now
    (sight_of g.L.Sides.traffic g.L.Sides.read_faults g.L.Sides.write_faults c.args.link.now) in
    record {
      ran = (
        0,
        omega arith,
        Ran-new g.W.Words.gives (served_of c.args.session.now.runner) before c.args.session.now c.requires.empty refl c.requires.stage,
      );
      sits = sits_new c.args.session.now (g.B.Book.past c.args.book.now) c.requires.stage c.requires.known c.requires.fit c.requires.no_session;
      legal = λ legal. legal;
      stays = g.met.B.Book.stays_same c.args.book.now;
      room = c.requires.room;
      at_once = c.requires.at_once;
    }

pub returns-in-Ended-clause-served : goal.returns-in-Ended-clause-served
returns-in-Ended-clause-served g c =
    let before =
    scene_of (g.B.Book.past c.args.book.now) c.args.words.now
    (sight_of g.L.Sides.traffic g.L.Sides.read_faults g.L.Sides.write_faults c.args.link.now) in
    let after =
    scene_of (g.B.Book.past c.drive.new.book) c.drive.new.words
    (sight_of g.L.Sides.traffic g.L.Sides.read_faults g.L.Sides.write_faults c.drive.new.link) in
    Serves-ran g.W.Words.gives (served_of c.args.session.now.runner) before c.drive.new.session c.finish.result after
    c.loop-session.invariant.ran.0 (omega (arith, c.loop-session.invariant.ran.1)) c.finish.ensures.end c.finish.ensures.opened
    c.finish.ensures.short
    (c.drive.ensures.ran (served_of c.args.session.now.runner) before c.loop-session.invariant.ran.0 c.loop-session.invariant.ran.2)

pub returns-in-Ended-clause-no_session : goal.returns-in-Ended-clause-no_session
returns-in-Ended-clause-no_session g c = away_over c.drive.new.session (g.B.Book.past c.drive.new.book)
    (subst IsOver (sym c.finish.ensures.end) tt) c.drive.ensures.sits

pub returns-in-Ended-clause-legal : goal.returns-in-Ended-clause-legal
returns-in-Ended-clause-legal g c = λ legal. c.drive.ensures.legal (c.loop-session.invariant.legal legal)

pub returns-in-Ended-clause-stays : goal.returns-in-Ended-clause-stays
returns-in-Ended-clause-stays g c = g.met.B.Book.stays_trans _ _ _ c.loop-session.invariant.stays c.drive.ensures.stays

pub returns-then-n-eq0 : goal.returns-then-n-eq0
returns-then-n-eq0 g c =
    let before =
    scene_of (g.B.Book.past c.args.book.now) c.args.words.now
    (sight_of g.L.Sides.traffic g.L.Sides.read_faults g.L.Sides.write_faults c.args.link.now) in
    let after =
    scene_of (g.B.Book.past c.drive-then-n-eq0.new.book) c.drive-then-n-eq0.new.words
    (sight_of g.L.Sides.traffic g.L.Sides.read_faults g.L.Sides.write_faults c.drive-then-n-eq0.new.link) in
    let many : ℕ = c.loop-session.invariant.ran.0 in
    record {
      served =
          Serves-ran g.W.Words.gives (served_of c.args.session.now.runner) before c.drive-then-n-eq0.new.session c.finish-then-n-eq0.result
          after (many + c.take_in-n.result)
          (omega (arith, c.loop-session.invariant.ran.1, c.take_in-n.ensures.within)) c.finish-then-n-eq0.ensures.end
          c.finish-then-n-eq0.ensures.opened c.finish-then-n-eq0.ensures.short
          (c.drive-then-n-eq0.ensures.ran (served_of c.args.session.now.runner) before (many + c.take_in-n.result)
          (c.take_in-n.ensures.ran (served_of c.args.session.now.runner) before many c.loop-session.invariant.ran.1
          (c.drive.ensures.ran (served_of c.args.session.now.runner) before many c.loop-session.invariant.ran.2)));
      no_session = away_over c.drive-then-n-eq0.new.session (g.B.Book.past c.drive-then-n-eq0.new.book)
          (is_over c.drive-then-n-eq0.new.session.stage c.drive-then-n-eq0.new.session.runner c.drive-then-n-eq0.ensures.rests
          (c.drive-then-n-eq0.ensures.last (c.take_in-n.ensures.stopped c.if-n-eq0.true))) c.drive-then-n-eq0.ensures.sits;
      legal = λ legal. c.drive-then-n-eq0.ensures.legal (c.drive.ensures.legal (c.loop-session.invariant.legal legal));
      stays = g.met.B.Book.stays_trans _ _ _ (g.met.B.Book.stays_trans _ _ _ c.loop-session.invariant.stays c.drive.ensures.stays)
          c.drive-then-n-eq0.ensures.stays;
    }

pub loop-session-preserved : goal.loop-session-preserved
loop-session-preserved g c =
    let before =
    scene_of (g.B.Book.past c.args.book.now) c.args.words.now
    (sight_of g.L.Sides.traffic g.L.Sides.read_faults g.L.Sides.write_faults c.args.link.now) in
    let many : ℕ = c.loop-session.invariant.ran.0 in
    record {
      ran = (
        many + c.take_in-n.result,
        omega (arith, c.loop-session.invariant.ran.1, c.take_in-n.ensures.within),
        c.take_in-n.ensures.ran (served_of c.args.session.now.runner) before many c.loop-session.invariant.ran.1
            (c.drive.ensures.ran (served_of c.args.session.now.runner) before many c.loop-session.invariant.ran.2),
      );
      sits = c.take_in-n.ensures.sits;
      legal = λ legal. c.drive.ensures.legal (c.loop-session.invariant.legal legal);
      stays = g.met.B.Book.stays_trans _ _ _ c.loop-session.invariant.stays c.drive.ensures.stays;
      room = search rules;
      at_once = search rules;
    }
