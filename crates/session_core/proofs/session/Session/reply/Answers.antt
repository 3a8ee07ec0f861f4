use Rattle.std.proofs.Common.{ℕ, List, sym, ◌∙◌, ap}
use Rattle.session_core.specs.declared.stage.SessionStage.{SessionStage}
use Rattle.session_core.specs.Replies.{bytes_of}
use Rattle.session_core.specs.Stands.{reply_of}
use Rattle.session_core.proofs.Grows.{Tells-stands}
use Rattle.session_core.proofs.session.Session.reply.Goals as goal

pub returns-in-Running-clause-told : goal.returns-in-Running-clause-told
returns-in-Running-clause-told c = λ taken es asked sent s.
    Tells-stands c.args.self.now.stage c.args.self.now.runner c.args.self.now.startup.items c.args.self.now.frames taken es asked sent
    c.reply.result.now s.stage c.requires
    (c.reply.ensures.held
    ∙ ap (λ (x : SessionStage). reply_of x c.args.self.now.runner c.args.self.now.startup.items) (sym c.in-Running.is))

pub returns-in-Telling-clause-told : goal.returns-in-Telling-clause-told
returns-in-Telling-clause-told c = λ taken es asked sent s.
    Tells-stands c.args.self.now.stage c.args.self.now.runner c.args.self.now.startup.items c.args.self.now.frames taken es asked sent
    c.bytes.result.now s.stage c.requires
    (c.bytes.ensures ∙ ap (λ (x : List ℕ). bytes_of x c.in-Telling.reply) c.as_slice.ensures.value
    ∙ ap (λ (x : SessionStage). reply_of x c.args.self.now.runner c.args.self.now.startup.items) (sym c.in-Telling.is))

pub returns-in-Parting-clause-told : goal.returns-in-Parting-clause-told
returns-in-Parting-clause-told c = λ taken es asked sent s.
    Tells-stands c.args.self.now.stage c.args.self.now.runner c.args.self.now.startup.items c.args.self.now.frames taken es asked sent
    c.last_bytes.result.now s.stage c.requires
    (c.last_bytes.ensures
    ∙ ap (λ (x : SessionStage). reply_of x c.args.self.now.runner c.args.self.now.startup.items) (sym c.in-Parting.is))
