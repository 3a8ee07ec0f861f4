-- What is left to show of `take_message`.
use Rattle.std.proofs.Common.{◌≡◌, subst, refl, sym, IfSome, IsNone}
use Rattle.std.specs.Prelude.{Option}
use Rattle.client_framing.specs.declared.frontend_message.FrontendMessage.{FrontendMessage}
use Rattle.client_framing.specs.Fronts.{TakesFront}
use Rattle.client_framing.specs.Spelling.{phase_after}
use Rattle.session_core.specs.declared.turns.SessionStep.{SessionStep}
use Rattle.session_core.specs.Steps.{Steps}
use Rattle.session_core.proofs.Stepping.{Steps-partial, Steps-front, Steps-broken}
use Rattle.session_core.proofs.messages.take_message.Goals as goal

pub returns-in-Ok-None-clause-goes : goal.returns-in-Ok-None-clause-goes
returns-in-Ok-None-clause-goes c =
    let (same, partial) = c.in-Ok-None.ensures.partial (subst (λ (o : Option FrontendMessage). IsNone o) (sym c.in-Ok-None.field-0-is) refl) in
    subst (λ (x : SessionStep). Steps c.args.phase c.args.runner.now c.args.frames.now x.stage c.args.runner.now x.out_of_memory c.next.new.self)
    (sym c.at_rest.ensures)
    (Steps-partial c.args.phase c.args.runner.now c.args.frames.now c.next.new.self same partial)

pub returns-in-Ok-Some-clause-goes : goal.returns-in-Ok-Some-clause-goes
returns-in-Ok-Some-clause-goes c =
    Steps-front c.args.phase c.args.runner.now c.args.frames.now c.next.new.self c.in-Ok-Some.front c.enter.result.stage c.enter.new.runner
    c.enter.result.out_of_memory
    (subst (λ (o : Option FrontendMessage). IfSome o (λ f. TakesFront c.args.frames.now.started c.args.frames.now.rest f c.next.new.self.rest))
    c.in-Ok-Some.field-0-is c.in-Ok-Some.ensures.front)
    (subst (λ (o : Option FrontendMessage). IfSome o (λ f. c.next.new.self.started ≡ phase_after c.args.frames.now.started f)) c.in-Ok-Some.field-0-is
    c.in-Ok-Some.ensures.started)
    c.enter.ensures.goes

pub returns-in-Err-clause-goes : goal.returns-in-Err-clause-goes
returns-in-Err-clause-goes c =
    Steps-broken c.args.phase c.args.runner.now c.args.frames.now c.next.new.self c.in-Err.fault c.break_off.result.stage
    c.break_off.result.out_of_memory c.in-Err.ensures.memory
    c.in-Err.ensures.fault c.break_off.ensures.memory c.break_off.ensures.protocol
