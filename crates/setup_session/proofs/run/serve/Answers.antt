use Rattle.std.proofs.Common.{◌∙◌}
use Rattle.link_traits.specs.Memory.{mem_sight}
use Rattle.setup_session.proofs.Alone.{ran_alone}
use Rattle.setup_session.proofs.run.serve.Goals as goal

pub returns : goal.returns
returns c =
    λ text link_is.
    ran_alone text c.args.book.now c.new-words.result (mem_sight c.args.link.now) c.serve_link-served.result c.serve_link-served.new.book
    c.serve_link-served.new.words c.serve_link-served.new.link.traffic c.serve_link-served.new.link.reading.faults
    c.serve_link-served.new.link.writing.faults c.requires (c.new-words.ensures ∙ c.new.ensures) link_is c.serve_link-served.ensures.served
    c.serve_link-served.ensures.stays c.history.ensures.legal c.serve_link-served.ensures.no_session
