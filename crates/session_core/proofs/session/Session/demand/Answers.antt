use Rattle.session_core.proofs.Grows.{Shows-stands}
use Rattle.session_core.proofs.session.Session.demand.Goals as goal

pub returns-in-Waiting-clause-told : goal.returns-in-Waiting-clause-told
returns-in-Waiting-clause-told c = λ taken es asked sent s.
    Shows-stands c.args.self.now.stage c.args.self.now.runner c.args.self.now.startup.items c.args.self.now.frames taken es asked sent
    (λ e. absurd (cc (c.in-Waiting.is, e))) s.stage

pub returns-in-Opening-clause-told : goal.returns-in-Opening-clause-told
returns-in-Opening-clause-told c = λ taken es asked sent s.
    Shows-stands c.args.self.now.stage c.args.self.now.runner c.args.self.now.startup.items c.args.self.now.frames taken es asked sent
    (λ e. absurd (cc (c.in-Opening.is, e))) s.stage

pub returns-in-Running-clause-told : goal.returns-in-Running-clause-told
returns-in-Running-clause-told c = λ taken es asked sent s.
    Shows-stands c.args.self.now.stage c.args.self.now.runner c.args.self.now.startup.items c.args.self.now.frames taken es asked sent
    (λ e. c.want_of.ensures.asks) s.stage

pub returns-in-Undoing-clause-told : goal.returns-in-Undoing-clause-told
returns-in-Undoing-clause-told c = λ taken es asked sent s.
    Shows-stands c.args.self.now.stage c.args.self.now.runner c.args.self.now.startup.items c.args.self.now.frames taken es asked sent
    (λ e. absurd (cc (c.in-Undoing.is, e))) s.stage

pub returns-in-Leaving-clause-told : goal.returns-in-Leaving-clause-told
returns-in-Leaving-clause-told c = λ taken es asked sent s.
    Shows-stands c.args.self.now.stage c.args.self.now.runner c.args.self.now.startup.items c.args.self.now.frames taken es asked sent
    (λ e. absurd (cc (c.in-Leaving.is, e))) s.stage

pub returns-in-Closing-clause-told : goal.returns-in-Closing-clause-told
returns-in-Closing-clause-told c = λ taken es asked sent s.
    Shows-stands c.args.self.now.stage c.args.self.now.runner c.args.self.now.startup.items c.args.self.now.frames taken es asked sent
    (λ e. absurd (cc (c.in-Closing.is, e))) s.stage

pub returns-in-Ended-clause-told : goal.returns-in-Ended-clause-told
returns-in-Ended-clause-told c = λ taken es asked sent s.
    Shows-stands c.args.self.now.stage c.args.self.now.runner c.args.self.now.startup.items c.args.self.now.frames taken es asked sent
    (λ e. absurd (cc (c.in-Ended.is, e))) s.stage
