-- A statement that is done demands a reply.
use Rattle.std.proofs.Common.{sym, ap, ◌∙◌}
use Rattle.statement_course.specs.declared.demand.Demand.{Demand}
use Rattle.statement_course.specs.declared.demand.Outcome.{Outcome}
use Rattle.statement_course.specs.Course.{done, first_demand}
use Rattle.cell_compile.specs.Plans.{rest_of, next_course}
use Rattle.cell_compile.proofs.Demanding.{demanded_first, replied_last}
use Rattle.cell_compile.proofs.plan.Plan.into_outcome.Goals as goal

pub replied-requires : goal.replied-requires
unfolding rest_of
replied-requires c = (c.requires.0, sym (demanded_first c.args.self.demand c.args.self.next) ∙ ap first_demand c.requires.1)

pub returns : goal.returns
unfolding rest_of
returns c = ap (λ (demand : Demand). next_course demand c.args.self.next) c.replied.ensures ∙ replied_last c.replied.result c.args.self.next
    ∙ ap (λ (outcome : Outcome). done outcome) (sym c.without.ensures)
