use Rattle.std.proofs.Common.{◌≡◌, ◌+◌, ◌<◌, ◌≤◌, ℕ, length}
use Rattle.history_core.specs.Chronicle.{IsLegalChronicle}
use Rattle.link_traits.specs.Traffic.{sight_of}
use Rattle.session_core.specs.Stands.{served_of}
use Rattle.session_core.specs.Serve.{scene_of, most_at_once}
use Rattle.session_core.specs.Running.{Ran, Sits}
use Rattle.session_core.proofs.serve.run.Given as goal

abbrev pub invariant-loop-session : goal.invariant-loop-session
invariant-loop-session g l = record {
  ran : (many : ℕ) × (many + l.left ≡ 1073741824) ×
      Ran g.W.Words.gives (served_of l.initial.session.runner)
      (scene_of (g.B.Book.past l.initial.book) l.initial.words
      (sight_of g.L.Sides.traffic g.L.Sides.read_faults g.L.Sides.write_faults l.initial.link)) l.session
      (scene_of (g.B.Book.past l.book) l.words (sight_of g.L.Sides.traffic g.L.Sides.read_faults g.L.Sides.write_faults l.link)) many;
  sits : Sits l.session (g.B.Book.past l.book);
  legal : IsLegalChronicle (g.B.Book.past l.initial.book).seen → IsLegalChronicle (g.B.Book.past l.book).seen;
  stays : g.B.Book.stays l.initial.book l.book;
  room : 0 < length l.room;
  at_once : length l.room ≤ most_at_once;
}

abbrev pub decreases-loop-session : goal.decreases-loop-session
decreases-loop-session g l = l.left
