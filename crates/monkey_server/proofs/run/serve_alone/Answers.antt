use Rattle.link_traits.specs.Traffic.{sight_of}
use Rattle.monkey_server.proofs.Alone.{serves_alone}
use Rattle.monkey_server.proofs.run.serve_alone.Goals as goal

pub returns : goal.returns
returns g c =
    serves_alone c.args.level c.args.book c.args.words c.new-words.result
    (sight_of g.L.Sides.traffic g.L.Sides.read_faults g.L.Sides.write_faults c.args.link.now) c.serve_link-served.result
    c.serve_link-served.new.book c.serve_link-served.new.words
    (sight_of g.L.Sides.traffic g.L.Sides.read_faults g.L.Sides.write_faults c.serve_link-served.new.link)
    c.requires c.new-words.ensures c.serve_link-served.ensures.served c.serve_link-served.ensures.stays c.history.ensures.legal
    c.serve_link-served.ensures.no_session
