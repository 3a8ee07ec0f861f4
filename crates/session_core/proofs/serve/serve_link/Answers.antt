use Rattle.link_traits.specs.Traffic.{sight_of}
use Rattle.session_core.specs.Serve.{scene_of}
use Rattle.session_core.proofs.Serving.{Serves-none}
use Rattle.session_core.proofs.serve.serve_link.Goals as goal

pub returns-in-Err-clause-served : goal.returns-in-Err-clause-served
returns-in-Err-clause-served g c =
    Serves-none g.W.Words.gives c.args.level
    (scene_of (g.B.Book.past c.args.book.now) c.args.words.now
    (sight_of g.L.Sides.traffic g.L.Sides.read_faults g.L.Sides.write_faults c.args.link.now))
