use Rattle.std.proofs.Common.{ℕ, List, sym, subst, ap, ◌∙◌}
use Rattle.link_traits.specs.Traffic.{Both, Wrote, sight_of}
use Rattle.block_machine.specs.Runners.{knowledge_of}
use Rattle.session_core.specs.Stands.{reply_of, served_of}
use Rattle.session_core.proofs.Knowing.{served_kept}
use Rattle.session_core.proofs.Carrying.{Both-part}
use Rattle.session_core.proofs.Serving.{Ran-sent, Ran-unsent}
use Rattle.session_core.proofs.driving.send.Goals as goal

pub returns-then-send_whole-clause-ran : goal.returns-then-send_whole-clause-ran
returns-then-send_whole-clause-ran g c = λ level before many ran.
    Ran-sent g.W.Words.gives level before c.args.session.now c.sent.new.self (g.B.Book.past c.args.book.now) c.args.words.now
    (sight_of g.L.Sides.traffic g.L.Sides.read_faults g.L.Sides.write_faults c.args.link.now)
    (sight_of g.L.Sides.traffic g.L.Sides.read_faults g.L.Sides.write_faults c.send_whole.new.link) many
    (reply_of c.args.session.now.stage c.args.session.now.runner c.args.session.now.startup.items)
    c.sent.ensures.grown c.requires.holding
    (served_kept (knowledge_of c.args.session.now.runner) (knowledge_of c.sent.new.self.runner) c.sent.ensures.known) c.sent.ensures.outer c.sent.ensures.lacks
    (subst (λ (x : List ℕ). Both (Wrote x) (g.L.Sides.traffic c.args.link.now) (g.L.Sides.traffic c.send_whole.new.link))
    c.reply.ensures.reply (c.send_whole.ensures.whole c.if-send_whole.true))
    c.send_whole.ensures.read_faults c.send_whole.ensures.write_faults ran

pub returns-else-send_whole-clause-ran : goal.returns-else-send_whole-clause-ran
returns-else-send_whole-clause-ran g c = λ level before many ran.
    let (part, lost, reply_is, wrote) = Both-part c.reply.result.now (g.L.Sides.traffic c.args.link.now)
    (g.L.Sides.traffic c.send_whole.new.link) (c.send_whole.ensures.part c.if-send_whole.false) in
    Ran-unsent g.W.Words.gives level before c.args.session.now c.unsent.new.self (g.B.Book.past c.args.book.now) c.args.words.now
    (sight_of g.L.Sides.traffic g.L.Sides.read_faults g.L.Sides.write_faults c.args.link.now)
    (sight_of g.L.Sides.traffic g.L.Sides.read_faults g.L.Sides.write_faults c.send_whole.new.link) many
    (reply_of c.args.session.now.stage c.args.session.now.runner c.args.session.now.startup.items) part lost
    c.unsent.ensures.grown c.requires.holding (ap served_of c.unsent.ensures.runner) c.unsent.ensures.outer c.unsent.ensures.lacks
    (sym c.reply.ensures.reply ∙ reply_is) wrote
    c.send_whole.ensures.read_faults (c.send_whole.ensures.failed c.if-send_whole.false) c.send_whole.ensures.write_faults ran
