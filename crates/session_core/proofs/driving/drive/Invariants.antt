use Rattle.std.proofs.Common.{ℕ}
use Rattle.cell_base.specs.declared.level.Level.{Level}
use Rattle.history_core.specs.Chronicle.{IsLegalChronicle}
use Rattle.link_traits.specs.Traffic.{sight_of}
use Rattle.session_core.specs.Sessions.{work_of}
use Rattle.session_core.specs.Stands.{IsLast}
use Rattle.session_core.specs.Serve.{Scene, scene_of}
use Rattle.session_core.specs.Running.{Ran, Sits}
use Rattle.session_core.proofs.driving.drive.Given as goal

abbrev pub invariant-loop : goal.invariant-loop
invariant-loop g l = record {
  ran : (level : Level) (before : Scene _) (many : ℕ) →
      Ran g.W.Words.gives level before l.initial.session (scene_of (g.B.Book.past l.initial.book) l.initial.words
      (sight_of g.L.Sides.traffic g.L.Sides.read_faults g.L.Sides.write_faults l.initial.link)) many →
      Ran g.W.Words.gives level before l.session (scene_of (g.B.Book.past l.book) l.words
      (sight_of g.L.Sides.traffic g.L.Sides.read_faults g.L.Sides.write_faults l.link)) many;
  sits : Sits l.session (g.B.Book.past l.book);
  last : IsLast l.initial.session.stage → IsLast l.session.stage;
  legal : IsLegalChronicle (g.B.Book.past l.initial.book).seen → IsLegalChronicle (g.B.Book.past l.book).seen;
  stays : g.B.Book.stays l.initial.book l.book;
}

abbrev pub decreases-loop : goal.decreases-loop
decreases-loop g l = work_of l.session
