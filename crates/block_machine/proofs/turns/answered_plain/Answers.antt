use Rattle.std.proofs.Common.{sym, subst}
use Rattle.sql_tree.specs.declared.statement.Statement.{Statement}
use Rattle.block_machine.specs.declared.call.Answer.{Answer}
use Rattle.block_machine.specs.declared.call.Answer.TheVariants as answers
use Rattle.block_machine.specs.declared.stage.MessageStage.{MessageStage}
use Rattle.block_machine.specs.declared.stage.MessageStage.TheVariants as stages
use Rattle.block_machine.specs.Knowledge.{knowledge_in}
use Rattle.block_machine.specs.Stages.{Advances, IsSoundStage, HasReply, KnowsTables}
use Rattle.block_machine.proofs.Holding.{holding_some, quiet_knows, quiet_sound}
use Rattle.block_machine.proofs.Turning.{advances_at_rest, known_same, stage_at_rest}
use Rattle.block_machine.proofs.turns.answered_plain.Goals as goal

pub returns-in-Looking-Looked-clause-goes : goal.returns-in-Looking-Looked-clause-goes
returns-in-Looking-Looked-clause-goes c =
    subst (λ (x : MessageStage). Advances x (knowledge_in c.args.known.now) c.args.answer c.look.result.stage c.look.result.out_of_memory c.look.new.built.items
    (knowledge_in c.look.new.known)) (sym c.in-Looking-Looked.is-0)
    (subst (λ (x : Answer). Advances (stages.Looking c.in-Looking-Looked.statement c.in-Looking-Looked.description c.in-Looking-Looked.block) (knowledge_in c.args.known.now) x
    c.look.result.stage c.look.result.out_of_memory c.look.new.built.items (knowledge_in c.look.new.known))
    (sym c.in-Looking-Looked.is-1)
    (subst (λ (x : Statement). Advances (stages.Looking x c.in-Looking-Looked.description c.in-Looking-Looked.block) (knowledge_in c.args.known.now)
    (answers.Looked c.in-Looking-Looked.tables) c.look.result.stage c.look.result.out_of_memory c.look.new.built.items
    (knowledge_in c.look.new.known))
    c.get.ensures c.look.ensures.goes))

pub returns-in-Showing-Shown-clause-goes : goal.returns-in-Showing-Shown-clause-goes
returns-in-Showing-Shown-clause-goes c =
    subst (λ (x : MessageStage). Advances x (knowledge_in c.args.known.now) c.args.answer c.show_history.result.stage c.show_history.result.out_of_memory
    c.show_history.new.built.items (knowledge_in c.args.known.now)) (sym c.in-Showing-Shown.is-0)
    (subst (λ (x : Answer). Advances (stages.Showing c.in-Showing-Shown.description c.in-Showing-Shown.block) (knowledge_in c.args.known.now) x c.show_history.result.stage
    c.show_history.result.out_of_memory c.show_history.new.built.items (knowledge_in c.args.known.now))
    (sym c.in-Showing-Shown.is-1)
    (c.show_history.ensures.goes (knowledge_in c.args.known.now)))

pub returns-in-Refreshing-Looked-clause-goes : goal.returns-in-Refreshing-Looked-clause-goes
returns-in-Refreshing-Looked-clause-goes c =
    subst (λ (x : MessageStage). Advances x (knowledge_in c.args.known.now) c.args.answer c.refresh.result.stage c.refresh.result.out_of_memory
    c.args.built.now.items (knowledge_in c.refresh.new.known)) (sym c.in-Refreshing-Looked.is-0)
    (subst (λ (x : Answer). Advances (stages.Refreshing c.in-Refreshing-Looked.block) (knowledge_in c.args.known.now) x
    c.refresh.result.stage c.refresh.result.out_of_memory c.args.built.now.items (knowledge_in c.refresh.new.known))
    (sym c.in-Refreshing-Looked.is-1)
    (c.refresh.ensures.goes c.args.built.now.items))

pub returns-in_default-clause-goes : goal.returns-in_default-clause-goes
returns-in_default-clause-goes c =
    advances_at_rest c.args.stage.now (knowledge_in c.args.known.now) c.args.answer c.at_rest.result c.advance.result c.args.built.now.items
    (knowledge_in c.args.known.now) c.at_rest.ensures
    (c.advance.ensures.goes c.args.built.now.items (knowledge_in c.args.known.now))

pub returns-in_default-clause-known : goal.returns-in_default-clause-known
returns-in_default-clause-known c = known_same (knowledge_in c.args.known.now) c.args.answer

pub returns-in_default-clause-knows : goal.returns-in_default-clause-knows
returns-in_default-clause-knows c =
    stage_at_rest (λ (x : MessageStage). KnowsTables x c.args.known.now.tables.items) c.at_rest.result c.advance.result c.at_rest.ensures
    (quiet_knows c.advance.result c.advance.ensures.quiet c.args.known.now.tables.items)

pub returns-in_default-clause-sound : goal.returns-in_default-clause-sound
returns-in_default-clause-sound c = stage_at_rest IsSoundStage c.at_rest.result c.advance.result c.at_rest.ensures (quiet_sound c.advance.result
    c.advance.ensures.quiet)

pub returns-in_default-clause-some : goal.returns-in_default-clause-some
returns-in_default-clause-some c =
    stage_at_rest (λ (x : MessageStage). HasReply x c.args.built.now.items) c.at_rest.result c.advance.result c.at_rest.ensures
    (holding_some c.args.built.now.items c.advance.result c.advance.ensures.constant)
