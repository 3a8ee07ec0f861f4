use Rattle.std.proofs.Common.{length, refl, subst, ◌∙◌, arith}
use Rattle.block_machine.specs.declared.block.Owed.{Owed}
use Rattle.block_machine.specs.Script.{unsent}
use Rattle.session_core.specs.Told.{broken}
use Rattle.session_core.specs.Stands.{work_at}
use Rattle.session_core.specs.Steps.{LeadsTo}
use Rattle.session_core.proofs.Somes.{plain_some}
use Rattle.session_core.proofs.Grows.{StandsFor-unsent}
use Rattle.session_core.proofs.Flags.{flag-kept, number-stopped}
use Rattle.session_core.proofs.Nearing.{holding_more}
use Rattle.session_core.proofs.session.Session.unsent.Goals as goal

pub returns-clause-grown : goal.returns-clause-grown
returns-clause-grown c =
    λ taken es asked sent s. record {
      stage =
          StandsFor-unsent c.args.self.now.stage c.leave-self.result c.args.self.now.runner c.args.self.now.startup.items
          c.args.self.now.frames taken es asked sent s.stage c.requires
          (subst (λ (o : Owed). LeadsTo c.leave-self.result (broken o)) c.owed_holding-owed.ensures c.leave-self.ensures.leads)
          (plain_some c.leave-self.result c.args.self.now.runner c.args.self.now.startup.items c.leave-self.ensures.constant);
      short = flag-kept c.args.self.now.short es (unsent (length sent)) s.short refl;
      number = number-stopped c.args.self.now.number es (unsent (length sent)) refl s.number;
    }

pub returns-clause-work : goal.returns-clause-work
returns-clause-work c =
    let less = holding_more c.args.self.now.stage c.args.self.now.runner (work_at c.leave-self.result) c.requires c.leave-self.ensures.work
    (λ e. c.leave-self.ensures.silent (c.owed_holding-owed.ensures ∙ e) refl) in
    omega (arith, less)
